-- A stream taken whole, through every frame on the way, over any check. Assumes nothing.
use Rattle.std.specs.Prelude.{ℕ, cond, List, [], ◌∷◌, ◌++◌}
use Rattle.link.specs.Wire.{Frame}
use Rattle.link_receive.specs.declared.Receiver.{Receiver}
use Rattle.link_receive.specs.declared.Stepped.{Stepped}
use Rattle.link_feed.specs.declared.Fed.{Fed}
use Rattle.link_receive.specs.Frames.{handed_out}
use Rattle.link_receive.specs.Step.{too_long, refused_of, quiet, step_of}

-- what a feeding hands out
abbrev pub frames_fed : Fed → List Frame
frames_fed f = handed_out f.answer f.next.body

module _ (check : List ℕ → ℕ) where
  -- the receiver after all bytes
  unfoldable pub drain_of : Receiver → List ℕ → Receiver
  drain_of r [] = r
  drain_of r (b ∷ bs) = drain_of (step_of check r b).next bs

  -- the frames handed out on the way, in order
  unfoldable pub frames_of : Receiver → List ℕ → List Frame
  frames_of r [] = []
  frames_of r (b ∷ bs) = handed_out (step_of check r b).answer (step_of check r b).next.body ++ frames_of (step_of check r b).next bs

  -- a slice taken whole; 12 if the length is over the limit
  unfoldable pub extend_of : Receiver → List ℕ → Stepped
  extend_of r s = cond (too_long r) (refused_of r) (quiet (drain_of r s))
