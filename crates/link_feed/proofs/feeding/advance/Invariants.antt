-- `link_feed::feeding::advance` is the steps one by one: at the loop's head, going on from here ends as from where it began. Assumes nothing.
use Rattle.std.proofs.Common.{◌-◌, length}
use Rattle.crc.specs.Crc.{crc_of}
use Rattle.link_feed.specs.Advance.{held_of, went_of}
use Rattle.link_feed.proofs.Goings.{Going}
use Rattle.link_feed.proofs.feeding.advance.Given as goal

abbrev pub invariant-loop-i : goal.invariant-loop-i
invariant-loop-i l = Going crc_of l.s l.stop (went_of crc_of l.stop (held_of l.initial.state l.initial.body l.initial.len l.initial.tallies) l.s l.initial.i) (held_of l.state l.body l.len l.tallies) l.i

abbrev pub decreases-loop-i : goal.decreases-loop-i
decreases-loop-i l = length l.s - l.i
