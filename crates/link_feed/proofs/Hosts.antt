-- A host's run, whatever its calls, ends in the drained run, with its frames; and there is one. Over any check. Assumes nothing.
use Rattle.std.proofs.Common.{◌≡◌, ℕ, ◌+◌, Bool, true, ltb, List, [], ◌∷◌, ◌++◌, length, drop, sym, refl, ap, ◌∙◌, append_assoc, arith, drop_of_length-le, drop-drop, ltb-false, ltb-true}
use Rattle.laws.proofs.Cases.{by, never}
use Rattle.link.specs.Wire.{Frame}
use Rattle.link_receive.specs.declared.Receiver.{Receiver}
use Rattle.link_receive.specs.Frames.{handed_out}
use Rattle.link_receive.specs.Numbered.{receiver_at}
use Rattle.link_receive.specs.Step.{rules_of, too_long, step_of}
use Rattle.link_feed.specs.Feed.{feed_of}
use Rattle.link_feed.specs.Drain.{frames_fed, drain_of, frames_of, extend_of}
use Rattle.link_feed.specs.Lent.{start_of}
use Rattle.link_feed.specs.Hosts.{Call, pushes, feeds, absorbs, feeds_in, feeds_from, pushes_lent, feeds_lent, hands_out, Hosted, used_up, calls, handing}
use Rattle.link_feed.proofs.Lent.{fed-back}
use Rattle.link_feed.proofs.Drains.{rules_of-drain, drain_of-append, frames_of-append, drain_of-over, drain_of-feed, frames_of-feed}

module _ (check : List ℕ → ℕ) where
  -- what a call comes to: the run from where it leaves off is the run, and so are the frames, if it hands them out
  record Goes_on (r : Receiver) (s : List ℕ) (q : Receiver) (t : List ℕ) (fs : List Frame) (out : Bool) : Type 0 where
    drained : drain_of check r s ≡ drain_of check q t
    framed : out ≡ true → frames_of check r s ≡ fs ++ frames_of check q t

  -- a feeding, and then the run of what it left and of the rest
  fed-on : (r : Receiver) (first rest : List ℕ) → Goes_on r (first ++ rest) (feed_of check r first).next (drop (feed_of check r first).taken first ++ rest) (frames_fed (feed_of check r first)) true
  fed-on r first rest =
      record {
        drained = drain_of-append check first rest r ∙ rw (drain_of-feed check r first) (sym (drain_of-append check (drop (feed_of check r first).taken first) rest (feed_of check r first).next));
        framed = λ _. rw (frames_of-append check first rest r, frames_of-append check (drop (feed_of check r first).taken first) rest (feed_of check r first).next, frames_of-feed check r first, drain_of-feed check r first, append_assoc);
      }

  stepped-on : (r : Receiver) (b : ℕ) (t : List ℕ) → Goes_on r (b ∷ t) (step_of check r b).next t (handed_out (step_of check r b).answer (step_of check r b).next.body) true
  unfolding drain_of frames_of
  stepped-on r b t = record { drained = refl; framed = λ _. refl }

  -- a block from the place that a feeding reached on is what the feeding left of it
  left-of : (block : List ℕ) (at n : ℕ) → drop (start_of (length block) at + n) block ≡ drop n (drop at block)
  left-of block at n =
      by (ltb at (length block))
      (λ e. rw (e, drop-drop n at block))
      (λ e. rw (e, drop_of_length-le block (ltb-false at (length block) e)) (drop_of_length-le block {i = length block + n} (omega arith) ∙ sym (none n)))
    where
      none : (k : ℕ) → ◌≡◌ {A = List ℕ} (drop k []) []
      none k = drop_of_length-le [] {i = k} (omega arith)

  absorbed-on : (r : Receiver) (first t : List ℕ) → drain_of check r (first ++ t) ≡ drain_of check (extend_of check r first).next t
  unfolding extend_of
  absorbed-on r first t =
      by (too_long r)
      (λ e. rw e (drain_of-append check first t r ∙ rw (drain_of-over check first r (ltb-true (rules_of r).limit r.len e))))
      (λ e. rw e (drain_of-append check first t r))

  call-goes : {r q : Receiver} {s t : List ℕ} {fs : List Frame} (c : Call check r s q t fs) → Goes_on r s q t fs (hands_out check c)
  call-goes {r} {t = t} (pushes b x d e f g) = rw (e, f, g, d) (stepped-on r b t)
  call-goes {r} (feeds first rest f d e g h i) = rw (e, g, h, i, d) (fed-on r first rest)
  call-goes {r} {t = t} (absorbs first x d e f g) = rw (e, f, d) (record { drained = absorbed-on r first t; framed = λ z. never z })
  call-goes (feeds_in numbers body first rest after units f a b c d e g h i) =
      rw (e, g, h, i, a, b, c, d, fed-back check numbers body first) (fed-on (receiver_at numbers body) first rest)
  call-goes (feeds_from numbers body block rest after units at x a b c d e g h i) =
      rw (e, g, h, i, a, b, c, d, fed-back check numbers body (drop at block), left-of block at (feed_of check (receiver_at numbers body) (drop at block)).taken) (fed-on (receiver_at numbers body) (drop at block) rest)
  call-goes {r} {t = t} (pushes_lent own u b x p e f g) = rw (e, f, g, p.lent, p.exactly) (stepped-on r b t)
  call-goes {r} (feeds_lent own u first rest f p e g h i) = rw (e, g, h, i, p.lent, p.exactly) (fed-on r first rest)

  -- a host's run ends in the drained run ..
  pub hosted-drain : {r q : Receiver} {s : List ℕ} {fs : List Frame} → Hosted check r s q fs → q ≡ drain_of check r s
  unfolding drain_of
  hosted-drain used_up = refl
  hosted-drain (calls c h e) = hosted-drain h ∙ sym (call-goes c).drained

  -- .. and keeps the rules ..
  pub hosted-rules : {r q : Receiver} {s : List ℕ} {fs : List Frame} → Hosted check r s q fs → rules_of q ≡ rules_of r
  hosted-rules {r} {s = s} h = ap rules_of (hosted-drain h) ∙ rules_of-drain check s r

  -- .. with its frames, where every call hands them out
  pub hosted-frames : {r q : Receiver} {s : List ℕ} {fs : List Frame} (h : Hosted check r s q fs) → handing check h ≡ true → fs ≡ frames_of check r s
  unfolding frames_of
  hosted-frames used_up n = refl
  hosted-frames (calls c h e) n =
      by (hands_out check c)
      (λ o. e ∙ rw (hosted-frames h (rw o at n)) (sym ((call-goes c).framed o)))
      (λ o. never (rw o at n))

  -- and there is one from every receiver over all bytes, byte by byte
  pub record Ends (r : Receiver) (s : List ℕ) : Type 0 where
    pub run : Hosted check r s (drain_of check r s) (frames_of check r s)
    pub hands : handing check run ≡ true

  pub hosted : (s : List ℕ) (r : Receiver) → Ends r s
  unfolding drain_of frames_of
  hosted [] r = record { run = used_up; hands = refl }
  hosted (b ∷ bs) r =
      let more : Ends (step_of check r b).next bs = hosted bs (step_of check r b).next in
      record { run = calls (pushes b (step_of check r b) refl refl refl refl) more.run refl; hands = more.hands }
