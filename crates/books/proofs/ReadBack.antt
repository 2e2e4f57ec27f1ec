-- An encoded frame, fed to any receiver that is Idle or in Noise and not refused by 12, is handed out as exactly that frame.
-- Over any check. Assumes nothing.
use mathlib.Core.Path.{◌≡◌, refl, sym, ◌∙◌, ap}
use Prim.Native.Nat.{ℕ, suc, ◌+◌, ◌≤◌}
use mathlib.Core.List.{List, [], ◌∷◌, ◌++◌, append-nil}
use native.Mathlib.Omega.{arith}
use lib.ListN.{length, take, length-append}
use Rattle.escaping.specs.Escapes.{meaning}
use Rattle.address.specs.Address.{id_limit, gateway_of}
use Rattle.link.specs.Wire.{Frame, body_of, encoded_of}
use Rattle.link.proofs.Body.{frame_of-body_of}
use Rattle.reading.specs.Counters as k
use Rattle.reading.specs.Grammar.{Line, idle, noisy}
use Rattle.reading.specs.Counts.{Rest, out, out_7e, inside, inside_7e, over, over-7e, sound}
use Rattle.reading.proofs.Machine.{counted, closes, Beat, run}
use Rattle.reading.proofs.Books.{bodies}
use Rattle.reading.proofs.ReadBack.{almost_of, encoded_of-almost_of, goes-encoded_of, goes-almost_of}
use Rattle.link_receive.specs.declared.State.{State}
use Rattle.link_receive.specs.declared.State.TheVariants as state
use Rattle.std.specs.Prelude.{Some, None, Result, Ok, Err}
use Rattle.link_receive.specs.declared.Head.{Head}
use Rattle.link_receive.specs.declared.Tally.{Tally}
use Rattle.link_receive.specs.declared.Receiver.{Receiver}
use Rattle.link_receive.specs.declared.Stepped.{Stepped}
use Rattle.link_feed.specs.declared.Fed.{Fed}
use Rattle.link_receive.specs.declared.Move.TheVariants.{Close}
use Rattle.link_receive.specs.Step.{room, rules_of, Within, turn_of, parsed_of, closed_of, step_of}
use Rattle.link_receive.specs.Frames.{Answered, handed_out}
use Rattle.link_feed.specs.Feed.{stopped, fed_on, feed_from, feed_of}
use Rattle.link_feed.specs.Drain.{drain_of, frames_of, frames_fed}
use Rattle.link_receive.proofs.Steps.{step_of-within}
use Rattle.link_feed.proofs.Feeds.{feed_of-within}
use Rattle.link_feed.proofs.Drains.{step_of-steady, drain_of-append, frames_of-append}
use Rattle.books.specs.Stands.{rest_of, rest_at}
use Rattle.books.specs.ReadBack.{ReadsBack}
use Rattle.books.proofs.Link.{raised_by}
use Rattle.books.proofs.Run.{Runs, runs}

-- a receiver's state, read off where it stands
state_at : Rest → State
state_at (out idle) = state.Idle
state_at (out noisy) = state.Noise
state_at out_7e = state.StartOfFrame
state_at (inside body) = state.Frame
state_at (inside_7e body) = state.FrameEscape
state_at over = state.Giant
state_at over-7e = state.GiantEscape

state_at-rest_of : (s : State) (body : List ℕ) → state_at (rest_of s body) ≡ s
unfolding state_at
state_at-rest_of state.Idle body = refl
state_at-rest_of state.Noise body = refl
state_at-rest_of state.StartOfFrame body = refl
state_at-rest_of state.Frame body = refl
state_at-rest_of state.FrameEscape body = refl
state_at-rest_of state.Giant body = refl
state_at-rest_of state.GiantEscape body = refl

state-of : (r : Receiver) (x : Rest) → rest_at r ≡ x → r.state ≡ state_at x
state-of r x e = sym (state_at-rest_of r.state _) ∙ ap state_at e

-- an answer that hands out nothing and is no refusal
silent-answer : (a : Answered) (body : List ℕ) → (a ≡ Err (record {}) → ⊥) → handed_out a body ≡ [] → a ≡ Ok None
silent-answer (Ok None) body n e = refl
silent-answer (Ok (Some x)) body n e = let z : ◌≡◌ {A = ℕ} 1 0 = ap length e in absurd (omega arith)
silent-answer (Err x) body n e = absurd (n refl)

append-none : (xs ys : List Frame) → xs ++ ys ≡ [] → (xs ≡ []) × (ys ≡ [])
append-none [] ys e = (refl, e)
append-none (x ∷ xs) ys e = let z : ◌≡◌ {A = ℕ} (suc (length (xs ++ ys))) 0 = ap length e in absurd (omega arith)

module _ (check : List ℕ → ℕ) where
  -- feeding over bytes that hand out nothing, and one byte more
  feed-on : (x : ℕ) (ys : List ℕ) (r : Receiver) (n : ℕ) → (step_of check r x).answer ≡ Ok None → feed_from check r (x ∷ ys) n ≡ feed_from check (step_of check r x).next ys (n + 1)
  unfolding feed_from
  feed-on x ys r n e = rw e

  -- one byte alone
  feed-one : (b : ℕ) (r : Receiver) (n : ℕ) → ((step_of check r b).answer ≡ Err (record {}) → ⊥) → feed_from check r (b ∷ []) n ≡ stopped (step_of check r b).next (step_of check r b).answer (n + 1)
  unfolding feed_from
  feed-one b r n h = go (step_of check r b).answer h
    where
      go : (a : Answered) → (a ≡ Err (record {}) → ⊥) → fed_on a (step_of check r b).next n (stopped (step_of check r b).next (Ok None) (n + 1)) ≡ stopped (step_of check r b).next a (n + 1)
      go (Ok None) h = refl
      go (Ok (Some x)) h = refl
      go (Err x) h = absurd (h refl)

  feed-quiet : (xs : List ℕ) (b : ℕ) (r : Receiver) (n : ℕ) → Within r → frames_of check r xs ≡ []
      → feed_from check r (xs ++ (b ∷ [])) n ≡ feed_from check (drain_of check r xs) (b ∷ []) (n + length xs)
  unfolding drain_of frames_of
  feed-quiet [] b r n h e = ap (feed_from check r (b ∷ [])) (omega arith)
  feed-quiet (x ∷ xs) b r n h e =
      let q : Receiver = (step_of check r x).next in
      let t = step_of-steady check r x h in
      let p = append-none (handed_out (step_of check r x).answer q.body) (frames_of check q xs) e in
      feed-on x (xs ++ (b ∷ [])) r n (silent-answer (step_of check r x).answer q.body t.answers p.0)
      ∙ feed-quiet xs b q (n + 1) t.within p.1
      ∙ ap (feed_from check (drain_of check q xs) (b ∷ [])) (omega arith)

  module _ (f : Frame) (good : gateway_of f.address ≤ id_limit) (r : Receiver) (fits : length f.payload + 6 ≤ (rules_of r).limit) (h : Within r) (l : length r.body ≡ room) (line : Line) (outside : rest_at r ≡ out line) where
    abbrev bytes : List ℕ
    bytes = encoded_of check f

    -- all but the last byte hand out nothing, and leave the frame open after a 7e
    abbrev almost : List ℕ
    almost = almost_of check f

    abbrev q : Receiver
    q = drain_of check r almost

    u : Runs check r almost
    u = runs check almost r h l

    quiet-so-far : frames_of check r almost ≡ []
    unfolding bodies
    quiet-so-far = u.hands ∙ rw (outside, ap (λ (x : Beat). x.events) (goes-almost_of (rules_of r) check f fits line))

    escaping : q.state ≡ state.FrameEscape
    unfolding state_at
    escaping = state-of q (inside_7e (body_of check f)) (u.stands ∙ rw outside (ap (λ (x : Beat). x.to) (goes-almost_of (rules_of r) check f fits line)))

    abbrev x : Stepped
    x = step_of check q 0x08

    -- the last byte closes it, and the body is empty
    x-closes : x ≡ closed_of q (parsed_of check (take q.len q.body))
    unfolding turn_of meaning
    x-closes = step_of-within check q 0x08 Close u.within (rw escaping)

    x-empty : x.next.len ≡ 0
    x-empty = ap (λ (y : Stepped). y.next.len) x-closes ∙ go (parsed_of check (take q.len q.body))
      where
        go : (p : Result Head Tally) → (closed_of q p).next.len ≡ 0
        go (Ok y) = refl
        go (Err y) = refl

    drained : drain_of check r bytes ≡ x.next
    unfolding drain_of
    drained = ap (drain_of check r) (encoded_of-almost_of check f) ∙ drain_of-append check almost (0x08 ∷ []) r

    fed-as : feed_of check r bytes ≡ stopped x.next x.answer (length almost + 1)
    fed-as =
        feed_of-within check r bytes h
        ∙ ap (λ (s : List ℕ). feed_from check r s 0) (encoded_of-almost_of check f)
        ∙ feed-quiet almost 0x08 r 0 h quiet-so-far
        ∙ feed-one 0x08 q (0 + length almost) (step_of-steady check q 0x08 u.within).answers
        ∙ ap (stopped x.next x.answer) (omega arith)

    length-bytes : length bytes ≡ length almost + 1
    length-bytes = ap length (encoded_of-almost_of check f) ∙ length-append almost (0x08 ∷ [])

    handed-last : frames_of check r bytes ≡ handed_out x.answer x.next.body
    unfolding frames_of
    handed-last =
        ap (frames_of check r) (encoded_of-almost_of check f)
        ∙ frames_of-append check almost (0x08 ∷ []) r
        ∙ rw quiet-so-far (append-nil (handed_out x.answer x.next.body))

    whole_run : run (rules_of r) check bytes (rest_at r) ≡ counted k.openings ∷ closes sound (body_of check f) ∷ []
    whole_run = rw outside (ap (λ (y : Beat). y.events) (goes-encoded_of (rules_of r) check f fits line))

    one-frame : frames_of check r bytes ≡ f ∷ []
    unfolding bodies
    one-frame = (runs check bytes r h l).hands ∙ rw (whole_run, frame_of-body_of check f good)

    pub reads-back : ReadsBack check f r
    unfolding raised_by state_at
    reads-back =
        let w : Runs check r bytes = runs check bytes r h l in
        record {
          frame = one-frame;
          all_taken = ap (λ (y : Fed). y.taken) fed-as ∙ sym length-bytes;
          fed = ap frames_fed fed-as ∙ sym handed-last ∙ one-frame;
          next = ap (λ (y : Fed). y.next) fed-as ∙ sym drained;
          stands = state-of (drain_of check r bytes) (out idle) (w.stands ∙ rw outside (ap (λ (y : Beat). y.to) (goes-encoded_of (rules_of r) check f fits line)));
          empty = ap (λ (y : Receiver). y.len) drained ∙ x-empty;
          tallies = w.raises ∙ rw whole_run;
        }
