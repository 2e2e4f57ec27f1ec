-- The drained run: cuts make no difference, and a feeding, then the run of what it left, is the run; over any check. Assumes nothing.
use Rattle.std.proofs.Common.{◌≡◌, ℕ, suc, ◌+◌, ◌<◌, ◌≤◌, Bool, true, false, cond, Option, Some, None, Result, Ok, Err, List, [], ◌∷◌, ◌++◌, length, take, drop, set, refl, ap, ◌∙◌, append_assoc, arith, length-set, drop-drop, ltb-false, ltb-true, le-ltb}
use Rattle.link_receive.specs.declared.State.TheVariants as state
use Rattle.link_receive.specs.declared.Move.{Move}
use Rattle.link_receive.specs.declared.Move.TheVariants.{To, Push, Count, Break, Close}
use Rattle.link_receive.specs.declared.Tally.{Tally}
use Rattle.link_receive.specs.declared.Head.{Head}
use Rattle.link_receive.specs.declared.Receiver.{Receiver}
use Rattle.link_receive.specs.declared.Stepped.{Stepped}
use Rattle.link_feed.specs.declared.Fed.{Fed}
use Rattle.link_receive.specs.Frames.{Answered}
use Rattle.link_receive.specs.Step.{rules_of, too_long, Within, turn_of, closed_of, parsed_of, moved_of, refused_of, quiet, step_of}
use Rattle.link_feed.specs.Feed.{fed_on, feed_from, feed_of}
use Rattle.link_feed.specs.Drain.{frames_fed, drain_of, frames_of, extend_of}
use Rattle.link_receive.proofs.Rules.{rules_of-made, rules_of-step}
use Rattle.link_receive.proofs.Turns.{turn_of-push}
use Rattle.link_receive.proofs.Steps.{step_of-within, step_of-over}
use Rattle.link_feed.proofs.Feeds.{feed_of-over, feed_of-within}

no-refusal : (a : Option Head) → ◌≡◌ {A = Answered} (Ok a) (Err (record {})) → ⊥
no-refusal a e = let z : ◌≡◌ {A = ℕ} 0 1 = cc in omega arith

module _ (check : List ℕ → ℕ) where
  -- cuts make no difference
  pub drain_of-append : (xs ys : List ℕ) (r : Receiver) → drain_of check r (xs ++ ys) ≡ drain_of check (drain_of check r xs) ys
  unfolding drain_of
  drain_of-append [] ys r = refl
  drain_of-append (x ∷ xs) ys r = drain_of-append xs ys (step_of check r x).next

  pub frames_of-append : (xs ys : List ℕ) (r : Receiver) → frames_of check r (xs ++ ys) ≡ frames_of check r xs ++ frames_of check (drain_of check r xs) ys
  unfolding drain_of frames_of
  frames_of-append [] ys r = refl
  frames_of-append (x ∷ xs) ys r = rw (frames_of-append xs ys (step_of check r x).next, append_assoc)

  -- a step within the limit stays within it, keeps the array's size and is no refusal
  pub record Steady (r : Receiver) (x : Stepped) : Type 0 where
    pub within : Within x.next
    pub sized : length x.next.body ≡ length r.body
    pub answers : x.answer ≡ Err (record {}) → ⊥

  closed_of-steady : (r : Receiver) (p : Result Head Tally) → Steady r (closed_of r p)
  closed_of-steady r (Ok h) = record { within = omega arith; sized = refl; answers = no-refusal (Some h) }
  closed_of-steady r (Err x) = record { within = omega arith; sized = refl; answers = no-refusal None }

  moved_of-steady : (r : Receiver) (b : ℕ) (m : Move) → Within r → turn_of (rules_of r) r.state r.len b ≡ m → Steady r (moved_of check r m)
  moved_of-steady r b (To s) h e = record { within = rw (rules_of-made r s r.body r.len r.tallies) h; sized = refl; answers = no-refusal None }
  moved_of-steady r b (Push d) h e = record { within = rw (rules_of-made r state.Frame (set r.body r.len d) (r.len + 1) r.tallies) (omega (arith, turn_of-push (rules_of r) r.state r.len b d e)); sized = simp length-set; answers = no-refusal None }
  moved_of-steady r b (Count x s) h e = record { within = omega arith; sized = refl; answers = no-refusal None }
  moved_of-steady r b Break h e = record { within = omega arith; sized = refl; answers = no-refusal None }
  moved_of-steady r b Close h e = closed_of-steady r (parsed_of check (take r.len r.body))

  pub step_of-steady : (r : Receiver) (b : ℕ) → Within r → Steady r (step_of check r b)
  step_of-steady r b h = rw (step_of-within check r b _ h refl) (moved_of-steady r b (turn_of (rules_of r) r.state r.len b) h refl)

  -- of a feeding under way with n bytes taken: k more are taken, and what is left of the run is the run from there
  record Then (r : Receiver) (s : List ℕ) (n : ℕ) (f : Fed) : Type 0 where
    more : ℕ
    taken : f.taken ≡ n + more
    fits : more ≤ length s
    some : 0 < length s → 0 < more
    within : Within f.next
    sized : length f.next.body ≡ length r.body
    all : f.answer ≡ Ok None → more ≡ length s
    answers : f.answer ≡ Err (record {}) → ⊥
    drained : drain_of check r s ≡ drain_of check f.next (drop more s)
    handed : frames_of check r s ≡ frames_fed f ++ frames_of check f.next (drop more s)

  module _ (r : Receiver) (b : ℕ) (bs : List ℕ) (n : ℕ) (h : Within r) where
    then-step : (a : Answered) → (step_of check r b).answer ≡ a → (g : Fed) → Then (step_of check r b).next bs (n + 1) g → Then r (b ∷ bs) n (fed_on a (step_of check r b).next n g)
    unfolding drain_of frames_of
    then-step (Ok None) e g i =
        record {
          more = suc i.more;
          taken = omega (arith, i.taken);
          fits = omega (arith, i.fits);
          some = λ _. omega arith;
          within = i.within;
          sized = i.sized ∙ (step_of-steady r b h).sized;
          all = λ z. ap suc (i.all z);
          answers = i.answers;
          drained = i.drained;
          handed = rw e i.handed;
        }
    then-step (Ok (Some x)) e g i =
        record {
          more = 1;
          taken = refl;
          fits = omega arith;
          some = λ _. omega arith;
          within = (step_of-steady r b h).within;
          sized = (step_of-steady r b h).sized;
          all = λ z. cc;
          answers = no-refusal (Some x);
          drained = refl;
          handed = rw e;
        }
    then-step (Err x) e g i = absurd ((step_of-steady r b h).answers e)

  then-feed : (s : List ℕ) (r : Receiver) (n : ℕ) → Within r → Then r s n (feed_from check r s n)
  unfolding feed_from drain_of frames_of
  then-feed [] r n h =
      record {
        more = 0;
        taken = omega arith;
        fits = omega arith;
        some = λ z. z;
        within = h;
        sized = refl;
        all = λ z. refl;
        answers = no-refusal None;
        drained = refl;
        handed = refl;
      }
  then-feed (b ∷ bs) r n h =
      then-step r b bs n h (step_of check r b).answer refl (feed_from check (step_of check r b).next bs (n + 1))
      (then-feed bs (step_of check r b).next (n + 1) (step_of-steady r b h).within)

  -- a feeding within the limit: how far it goes, and that the run goes on from there
  pub record Goes (r : Receiver) (s : List ℕ) (f : Fed) : Type 0 where
    pub fits : f.taken ≤ length s
    pub some : 0 < length s → 0 < f.taken
    pub within : Within f.next
    pub sized : length f.next.body ≡ length r.body
    pub all : f.answer ≡ Ok None → f.taken ≡ length s
    pub answers : f.answer ≡ Err (record {}) → ⊥
    pub drained : drain_of check r s ≡ drain_of check f.next (drop f.taken s)
    pub handed : frames_of check r s ≡ frames_fed f ++ frames_of check f.next (drop f.taken s)

  pub feed_of-goes : (r : Receiver) (s : List ℕ) → Within r → Goes r s (feed_of check r s)
  feed_of-goes r s h = rw (feed_of-within check r s h) (go (feed_from check r s 0) (then-feed s r 0 h))
    where
      go : (f : Fed) → Then r s 0 f → Goes r s f
      go f i =
          let e : f.taken ≡ i.more = omega (arith, i.taken) in
          record {
            fits = rw e i.fits;
            some = rw e i.some;
            within = i.within;
            sized = i.sized;
            all = rw e i.all;
            answers = i.answers;
            drained = rw e i.drained;
            handed = rw e i.handed;
          }

  -- the same of a feeding that counts from the slice's start
  pub drain_of-from : (s : List ℕ) (r : Receiver) (i : ℕ) (f : Fed) → Within r → f ≡ feed_from check r (drop i s) i → drain_of check r (drop i s) ≡ drain_of check f.next (drop f.taken s)
  drain_of-from s r i f h e =
      let j : Then r (drop i s) i f = rw e (then-feed (drop i s) r i h) in
      let k : f.taken ≡ i + j.more = j.taken in
      rw k (rw (drop-drop j.more i s) at j.drained)

  -- over the limit nothing moves
  pub drain_of-over : (s : List ℕ) (r : Receiver) → (rules_of r).limit < r.len → drain_of check r s ≡ r
  unfolding drain_of
  drain_of-over [] r h = refl
  drain_of-over (b ∷ bs) r h = rw (step_of-over check r b h) (drain_of-over bs r h)

  pub frames_of-over : (s : List ℕ) (r : Receiver) → (rules_of r).limit < r.len → frames_of check r s ≡ []
  unfolding frames_of
  frames_of-over [] r h = refl
  frames_of-over (b ∷ bs) r h = rw (step_of-over check r b h) (frames_of-over bs r h)

  -- a feeding, and then the run of what it left, is the run; over the limit too
  pub drain_of-feed : (r : Receiver) (s : List ℕ) → drain_of check r s ≡ drain_of check (feed_of check r s).next (drop (feed_of check r s).taken s)
  drain_of-feed r s = go (too_long r) refl
    where
      go : (x : Bool) → too_long r ≡ x → drain_of check r s ≡ drain_of check (feed_of check r s).next (drop (feed_of check r s).taken s)
      go true e = rw (feed_of-over check r s (ltb-true (rules_of r).limit r.len e))
      go false e = (feed_of-goes r s (ltb-false (rules_of r).limit r.len e)).drained

  pub frames_of-feed : (r : Receiver) (s : List ℕ) → frames_of check r s ≡ frames_fed (feed_of check r s) ++ frames_of check (feed_of check r s).next (drop (feed_of check r s).taken s)
  frames_of-feed r s = go (too_long r) refl
    where
      go : (x : Bool) → too_long r ≡ x → frames_of check r s ≡ frames_fed (feed_of check r s) ++ frames_of check (feed_of check r s).next (drop (feed_of check r s).taken s)
      go true e = rw (feed_of-over check r s (ltb-true (rules_of r).limit r.len e))
      go false e = (feed_of-goes r s (ltb-false (rules_of r).limit r.len e)).handed

  -- the drained run keeps the rules, stays within the limit and keeps the array's size
  pub rules_of-drain : (s : List ℕ) (r : Receiver) → rules_of (drain_of check r s) ≡ rules_of r
  unfolding drain_of
  rules_of-drain [] r = refl
  rules_of-drain (b ∷ bs) r = rules_of-drain bs (step_of check r b).next ∙ rules_of-step check r b

  pub drain_of-within : (s : List ℕ) (r : Receiver) → Within r → Within (drain_of check r s)
  unfolding drain_of
  drain_of-within [] r h = h
  drain_of-within (b ∷ bs) r h = drain_of-within bs (step_of check r b).next (step_of-steady r b h).within

  pub drain_of-sized : (s : List ℕ) (r : Receiver) → Within r → length (drain_of check r s).body ≡ length r.body
  unfolding drain_of
  drain_of-sized [] r h = refl
  drain_of-sized (b ∷ bs) r h = drain_of-sized bs (step_of check r b).next (step_of-steady r b h).within ∙ (step_of-steady r b h).sized

  -- and so does a slice taken whole: the door of ledgers cites this
  pub rules_of-extend : (r : Receiver) (s : List ℕ) → rules_of (extend_of check r s).next ≡ rules_of r
  unfolding extend_of
  rules_of-extend r s = go (too_long r)
    where
      go : (x : Bool) → rules_of (cond x (refused_of r) (quiet (drain_of check r s))).next ≡ rules_of r
      go true = refl
      go false = rules_of-drain s r

  pub extend_of-within : (r : Receiver) (s : List ℕ) → Within r → Within (extend_of check r s).next
  unfolding extend_of
  extend_of-within r s h = rw (le-ltb (rules_of r).limit r.len h) (drain_of-within s r h)
