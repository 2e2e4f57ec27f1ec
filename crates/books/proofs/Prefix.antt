-- A feeding is the drained run of the bytes that it takes, and hands out the frames of these alone. Over any check. Assumes nothing.
use mathlib.Core.Path.{◌≡◌, refl, sym, ◌∙◌, ap}
use Prim.Native.Nat.{ℕ, suc, ◌+◌}
use mathlib.Core.List.{List, [], ◌∷◌, append-nil}
use native.Mathlib.Omega.{arith}
use lib.ListN.{take}
use Rattle.std.specs.Prelude.{Some, None, Ok, Err}
use Rattle.link_receive.specs.Frames.{Answered}
use Rattle.link_receive.specs.declared.Receiver.{Receiver}
use Rattle.link_feed.specs.declared.Fed.{Fed}
use Rattle.link_receive.specs.Step.{Within, step_of}
use Rattle.link_receive.specs.Frames.{handed_out}
use Rattle.link_feed.specs.Feed.{fed_on, feed_from, feed_of}
use Rattle.link_feed.specs.Drain.{drain_of, frames_of, frames_fed}
use Rattle.link_feed.proofs.Feeds.{feed_of-within}
use Rattle.link_feed.proofs.Drains.{Steady, step_of-steady}

module _ (check : List ℕ → ℕ) where
  -- a feeding that took n bytes before it began
  record From (r : Receiver) (s : List ℕ) (n : ℕ) (f : Fed) : Type 0 where
    more : ℕ
    taken : f.taken ≡ n + more
    drained : f.next ≡ drain_of check r (take more s)
    handed : frames_fed f ≡ frames_of check r (take more s)

  from_step : (r : Receiver) (b : ℕ) (bs : List ℕ) (n : ℕ) (a : Answered) (f : Fed) → (step_of check r b).answer ≡ a → (a ≡ Err (record {}) → ⊥)
      → From (step_of check r b).next bs (n + 1) f → From r (b ∷ bs) n (fed_on a (step_of check r b).next n f)
  unfolding drain_of frames_of
  from_step r b bs n (Ok None) f e refuses i =
      record { more = suc i.more; taken = i.taken ∙ omega arith; drained = i.drained; handed = i.handed ∙ rw e }
  from_step r b bs n (Ok (Some x)) f e refuses i =
      record { more = 1; taken = refl; drained = refl; handed = rw e (sym (append-nil (handed_out (Ok (Some x)) (step_of check r b).next.body))) }
  from_step r b bs n (Err x) f e refuses i = absurd (refuses refl)

  feed-from : (s : List ℕ) (r : Receiver) (n : ℕ) → Within r → From r s n (feed_from check r s n)
  unfolding feed_from drain_of frames_of
  feed-from [] r n h = record { more = 0; taken = omega arith; drained = refl; handed = refl }
  feed-from (b ∷ bs) r n h =
      let t : Steady check r (step_of check r b) = step_of-steady check r b h in
      from_step r b bs n (step_of check r b).answer (feed_from check (step_of check r b).next bs (n + 1)) refl t.answers
      (feed-from bs (step_of check r b).next (n + 1) t.within)

  module _ (r : Receiver) (s : List ℕ) (h : Within r) where
    abbrev fed : Fed
    fed = feed_of check r s

    whole : From r s 0 fed
    whole = rw (feed_of-within check r s h) (feed-from s r 0 h)

    all : whole.more ≡ fed.taken
    all = omega (arith, whole.taken)

    pub feed_of-drained : fed.next ≡ drain_of check r (take fed.taken s)
    feed_of-drained = whole.drained ∙ ap (λ (n : ℕ). drain_of check r (take n s)) all

    pub feed_of-handed : frames_fed fed ≡ frames_of check r (take fed.taken s)
    feed_of-handed = whole.handed ∙ ap (λ (n : ℕ). frames_of check r (take n s)) all
