-- `link_feed::inside::units` takes an escape, a raw byte or a run of raw bytes at a time: each time feeding on from there is feeding from where it began.
-- Assumes nothing.
use Rattle.std.proofs.Common.{◌-◌, length}
use Rattle.crc.specs.Crc.{crc_of}
use Rattle.link_receive.specs.Step.{fresh_of}
use Rattle.link_feed.proofs.Held.{Held}
use Rattle.link_feed.proofs.inside.units.Given as goal

abbrev pub invariant-loop-i : goal.invariant-loop-i
invariant-loop-i l = Held crc_of fresh_of l.s l.initial.body l.initial.len l.initial.i l.body l.len l.i

abbrev pub decreases-loop-i : goal.decreases-loop-i
decreases-loop-i l = length l.s - l.i
