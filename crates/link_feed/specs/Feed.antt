-- Feeding a slice: the steps one by one, over any check. Assumes nothing.
use Rattle.std.specs.Prelude.{ℕ, ◌+◌, cond, List, [], ◌∷◌, Some, None, Ok, Err}
use Rattle.laws.specs.Numbers.{over_limit}
use Rattle.link_receive.specs.declared.Receiver.{Receiver}
use Rattle.link_feed.specs.declared.Fed.{Fed}
use Rattle.link_receive.specs.Frames.{Answered, refused_by}
use Rattle.link_receive.specs.Step.{too_long, step_of}

-- stopped at an answer, with so many bytes taken
abbrev pub stopped : Receiver → Answered → ℕ → Fed
stopped r a n = record { next = r; answer = a; taken = n }

-- 01, "The reading of a stream": feeding a slice stops only after a frame, at the slice's end or at a refusal
abbrev pub fed_on : Answered → Receiver → ℕ → Fed → Fed
fed_on (Ok None) r n more = more
fed_on (Ok (Some h)) r n more = stopped r (Ok (Some h)) (n + 1)
fed_on (Err e) r n more = stopped r (Err e) n

module _ (check : List ℕ → ℕ) where
  -- the steps, where n bytes were taken before
  unfoldable pub feed_from : Receiver → List ℕ → ℕ → Fed
  feed_from r [] n = stopped r (Ok None) n
  feed_from r (b ∷ bs) n = fed_on (step_of check r b).answer (step_of check r b).next n (feed_from (step_of check r b).next bs (n + 1))

  -- 12 if its length is over the limit: nothing is taken, of an empty slice too
  unfoldable pub feed_of : Receiver → List ℕ → Fed
  feed_of r s = cond (too_long r) (stopped r (refused_by over_limit None) 0) (feed_from r s 0)
