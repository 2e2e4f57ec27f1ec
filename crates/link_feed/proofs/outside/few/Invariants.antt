-- `link_feed::outside::few` takes a byte, or a pair that opens nothing, at a time: each time feeding on from there, with the noises counted, is feeding from where it began.
-- Assumes nothing.
use Rattle.std.proofs.Common.{◌-◌, length}
use Rattle.crc.specs.Crc.{crc_of}
use Rattle.link_receive.specs.Step.{fresh_of}
use Rattle.link_feed.specs.Advance.{Passed}
use Rattle.link_feed.proofs.Passes.{heard}
use Rattle.link_feed.proofs.outside.few.Given as goal

abbrev pub invariant-loop-i : goal.invariant-loop-i
invariant-loop-i l = Passed crc_of fresh_of l.s l.noisy0 l.i0 (heard l.noisy l.count l.i)

abbrev pub decreases-loop-i : goal.decreases-loop-i
decreases-loop-i l = length l.s - l.i
