-- `link_feed::tails::few` skips a byte, or a pair that does not end the tail, at a time. Assumes nothing.
use Rattle.std.proofs.Common.{◌-◌, length}
use Rattle.crc.specs.Crc.{crc_of}
use Rattle.link_receive.specs.Step.{fresh_of}
use Rattle.link_feed.specs.Advance.{Skipped}
use Rattle.link_feed.proofs.tails.few.Given as goal

abbrev pub invariant-loop-i : goal.invariant-loop-i
invariant-loop-i l = Skipped crc_of fresh_of l.s l.i0 l.i

abbrev pub decreases-loop-i : goal.decreases-loop-i
decreases-loop-i l = length l.s - l.i
