-- `events::blocks::Capture::take_block` is safe and ends: each feeding takes some of the bytes that are left. Assumes nothing.
use Rattle.std.proofs.Common.{◌-◌, length}
use Rattle.events.proofs.blocks.Capture.take_block.Given as goal

abbrev pub decreases-loop-i : goal.decreases-loop-i
decreases-loop-i l = length l.s - l.i
