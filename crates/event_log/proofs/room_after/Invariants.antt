-- `event_log::room_after` takes the room of each packet's record off what is left: the room and what the rest needs keep their difference.
-- Assumes nothing.
use Rattle.event_log.proofs.Areas.{area_space}
use mathlib.Core.Path.{◌≡◌}
use Prim.Native.Nat.{◌+◌, ◌-◌, ◌≤◌}
use lib.ListN.{length, drop}
use Rattle.event_log.proofs.room_after.Given as goal

abbrev pub invariant-loop-found : goal.invariant-loop-found
invariant-loop-found l = (l.at ≤ length l.area) × (l.room + area_space (drop l.at l.area) ≡ l.left + area_space l.area)

abbrev pub decreases-loop-found : goal.decreases-loop-found
decreases-loop-found l = length l.area - l.at
