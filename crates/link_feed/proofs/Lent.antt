-- A receiver lent as ten numbers and its body: the tallies among the numbers, and how far feeding it goes. Assumes nothing.
use Rattle.std.proofs.Common.{◌≡◌, ℕ, zero, suc, ◌+◌, ◌-◌, ◌%◌, ◌^◌, ◌<◌, ◌≤◌, ltb, List, [], ◌∷◌, length, get_or, take, drop, set, sym, refl, ap, ◌∙◌, arith, length-drop, drop_of_length-le, take_all, ltb-false, ltb-true, lt-ltb}
use Rattle.laws.proofs.Cases.{by}
use Rattle.laws.specs.Wrap.{raised}
use Rattle.link_feed.specs.declared.Fed.{Fed}
use Rattle.link_receive.specs.declared.Receiver.{Receiver}
use Rattle.link_receive.specs.declared.Tallies.{Tallies}
use Rattle.link_receive.specs.declared.Tally.{Tally}
use Rattle.reading.specs.Counters as k
use Rattle.link_feed.specs.Advance.{noised}
use Rattle.link_receive.specs.declared.Tally.TheVariants as tally
use Rattle.link_receive.specs.Tally.{counter_of, raise, eight_of}
use Rattle.link_receive.specs.Numbered.{tallies_at, tally_index, receiver_at}
use Rattle.link_receive.proofs.Numbers.{ten, receiver_at-numbers_of, too_long-at}
use Rattle.link_receive.specs.Step.{rules_of, too_long, Within}
use Rattle.link_feed.specs.Feed.{feed_of}
use Rattle.link_feed.specs.Lent.{numbers_fed, start_of, reached_of}
use Rattle.link_feed.proofs.Feeds.{feed_of-over}
use Rattle.link_feed.proofs.Drains.{feed_of-goes}

-- one of ten numbers raised
pub tallies_at-raise : (l : List ℕ) (t : Tally) → length l ≡ 10 → tallies_at (set l (tally_index t) (raised (get_or l (tally_index t) 0))) ≡ raise (counter_of t) (tallies_at l)
unfolding tallies_at
tallies_at-raise l tally.Openings h = rw (ten l h)
tallies_at-raise l tally.Frames h = rw (ten l h)
tallies_at-raise l tally.Runts h = rw (ten l h)
tallies_at-raise l tally.Checksums h = rw (ten l h)
tallies_at-raise l tally.Giants h = rw (ten l h)
tallies_at-raise l tally.Escaped h = rw (ten l h)
tallies_at-raise l tally.Broken h = rw (ten l h)
tallies_at-raise l tally.Noise h = rw (ten l h)

-- several noises more are one sum
abbrev with_noise : Tallies → ℕ → Tallies
with_noise t n = record { openings = t.openings; frames = t.frames; runts = t.runts; checksums = t.checksums; giants = t.giants; escaped = t.escaped; broken = t.broken; noise = n }

raised-more : (x n : ℕ) → raised ((x + suc n) % 2 ^ 64) ≡ (x + suc (suc n)) % 2 ^ 64
raised-more x n = omega arith

noised-sum : (n : ℕ) (t : Tallies) → noised (suc n) t ≡ with_noise t ((t.noise + suc n) % 2 ^ 64)
noised-sum zero t = refl
noised-sum (suc n) t = ap (raise k.noise) (noised-sum n t) ∙ ap (with_noise t) (raised-more t.noise n)

tallies_at-noise : (l : List ℕ) (x : ℕ) → length l ≡ 10 → tallies_at (set l 9 x) ≡ with_noise (tallies_at l) x
unfolding tallies_at
tallies_at-noise l x h = rw (ten l h)

pub tallies_at-noised : (l : List ℕ) (n : ℕ) → length l ≡ 10 → get_or l 9 0 < 2 ^ 64 → tallies_at (set l 9 ((get_or l 9 0 + n) % 2 ^ 64)) ≡ noised n (tallies_at l)
unfolding tallies_at
tallies_at-noised l zero h g =
    let e : (get_or l 9 0 + 0) % 2 ^ 64 ≡ get_or l 9 0 = omega arith in
    tallies_at-noise l ((get_or l 9 0 + 0) % 2 ^ 64) h ∙ ap (with_noise (tallies_at l)) e
tallies_at-noised l (suc n) h g = tallies_at-noise l ((get_or l 9 0 + suc n) % 2 ^ 64) h ∙ sym (noised-sum n (tallies_at l))

-- state and length written before them
pub numbers-set : (l : List ℕ) (n m : ℕ) → length l ≡ 10 → set (set l 0 n) 1 m ≡ n ∷ m ∷ eight_of (tallies_at l)
unfolding tallies_at
numbers-set l n m h = rw (ten l h)

-- a slice from where a feeding of it starts
pub part-from : (s : List ℕ) (at : ℕ) → take (length s - start_of (length s) at) (drop (start_of (length s) at) s) ≡ drop at s
part-from s at =
    by (ltb at (length s))
    (λ e. rw e (take_all (length s - at) (drop at s) (omega (arith, length-drop at s))))
    (λ e. rw (e, drop_of_length-le s (ltb-false at (length s) e)) (take_all (length s - length s) (drop (length s) s) (omega (arith, length-drop (length s) s)) ∙ drop_of_length-le s {i = length s} (omega arith)))

-- Ten numbers and a body fed, and read back, are the receiver that they say, fed. 12 leaves them as they were.
pub fed-back : (check : List ℕ → ℕ) (numbers body s : List ℕ) → receiver_at (numbers_fed numbers (feed_of check (receiver_at numbers body) s)) (feed_of check (receiver_at numbers body) s).next.body ≡ (feed_of check (receiver_at numbers body) s).next
fed-back check numbers body s =
    by (too_long (receiver_at numbers []))
    (λ e. rw (e, feed_of-over check (receiver_at numbers body) s (ltb-true (rules_of (receiver_at numbers body)).limit (get_or numbers 1 0) (too_long-at numbers body ∙ e))))
    (λ e. rw e (receiver_at-numbers_of (feed_of check (receiver_at numbers body) s).next))

module _ (check : List ℕ → ℕ) (r : Receiver) where
  -- no more is taken than there is
  pub feed_of-fits : (s : List ℕ) → (feed_of check r s).taken ≤ length s
  feed_of-fits s =
      by (too_long r)
      (λ e. rw (feed_of-over check r s (ltb-true (rules_of r).limit r.len e)) (omega arith))
      (λ e. (feed_of-goes check r s (ltb-false (rules_of r).limit r.len e)).fits)

  module _ (s : List ℕ) (at : ℕ) where
    abbrev f : Fed
    f = feed_of check r (drop at s)

    pub starts : start_of (length s) at + f.taken ≤ length s
    starts =
        let fits = feed_of-fits (drop at s) in
        by (ltb at (length s))
        (λ e. rw e (omega (arith, fits, length-drop at s, ltb-true at (length s) e)))
        (λ e. rw e (omega (arith, fits, length-drop at s, ltb-false at (length s) e)))

    -- a feeding from a place on reaches none past the slice's end, and, unless 12 refuses it, one that is further on
    pub reached : (Within r → at < length s → at < (reached_of s at f).at) × ((reached_of s at f).at ≤ length s)
    reached = (
      (λ w h. let some = (feed_of-goes check r (drop at s) w).some (omega (arith, length-drop at s)) in rw (lt-ltb at (length s) h) (omega arith)),
      starts,
    )
