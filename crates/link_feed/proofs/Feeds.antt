-- Feeding from a place of a slice; over any check. Assumes nothing.
use Rattle.std.proofs.Common.{◌≡◌, ℕ, ◌+◌, ◌<◌, ◌≤◌, Some, None, Ok, Err, List, length, get_or, drop, add-one, drop_of_length-le, drop-cons, le-ltb, lt-ltb}
use Rattle.link_receive.specs.declared.Head.{Head}
use Rattle.link_receive.specs.declared.Receiver.{Receiver}
use Rattle.link_receive.specs.Step.{rules_of, Within, quiet, step_of}
use Rattle.link_feed.specs.Feed.{stopped, feed_from, feed_of}

module _ (check : List ℕ → ℕ) where
  -- after a step that hands nothing out, feeding on from there is feeding from here: the loop of `feed` leans on this alone
  pub feed_from-more :
      (r q : Receiver) (s : List ℕ) (i : ℕ) → i < length s → step_of check r (get_or s i 0) ≡ quiet q →
      feed_from check q (drop (i + 1) s) (i + 1) ≡ feed_from check r (drop i s) i
  unfolding feed_from
  feed_from-more r q s i h e = rw (drop-cons s i 0 h, e, add-one)

  -- after a frame it stops
  pub feed_from-frame :
      (r q : Receiver) (s : List ℕ) (i : ℕ) (x : Head) → i < length s →
      step_of check r (get_or s i 0) ≡ record { next = q; answer = Ok (Some x) } →
      stopped q (Ok (Some x)) (i + 1) ≡ feed_from check r (drop i s) i
  unfolding feed_from
  feed_from-frame r q s i x h e = rw (drop-cons s i 0 h, e)

  -- at the end it stops
  pub feed_from-end : (r : Receiver) (s : List ℕ) (i : ℕ) → length s ≤ i → stopped r (Ok None) i ≡ feed_from check r (drop i s) i
  unfolding feed_from
  feed_from-end r s i h = rw (drop_of_length-le s h)

  pub feed_of-over : (r : Receiver) (s : List ℕ) → (rules_of r).limit < r.len → feed_of check r s ≡ stopped r (Err (record {})) 0
  unfolding feed_of
  feed_of-over r s h = rw (lt-ltb (rules_of r).limit r.len h)

  pub feed_of-within : (r : Receiver) (s : List ℕ) → Within r → feed_of check r s ≡ feed_from check r s 0
  unfolding feed_of
  feed_of-within r s h = rw (le-ltb (rules_of r).limit r.len h)
