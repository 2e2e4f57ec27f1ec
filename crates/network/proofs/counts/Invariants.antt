-- `network::counts` walks from packet to packet: the packets passed and the tally of what is left are the tally of the area. Assumes nothing.
use Rattle.std.proofs.Common.{◌≡◌, ◌≤◌, drop}
use Rattle.network.specs.Split.{tally_of}
use Rattle.network.proofs.Walk.{more}
use Rattle.network.proofs.counts.Given as goal

abbrev pub invariant-loop-packet : goal.invariant-loop-packet
invariant-loop-packet l =
    (l.packet-iterator.area.now ≡ l.fn.area)
    × (l.packets ≤ l.packet-iterator.at)
    × (tally_of l.fn.area ≡ more l.packets (tally_of (drop l.packet-iterator.at l.packet-iterator.area.now)))
