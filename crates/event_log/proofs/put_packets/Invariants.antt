-- `event_log::put_packets` lays each packet's record behind the one before: what is laid down and what is still to come make up the whole.
-- Assumes nothing.
use Rattle.event_log.proofs.Areas.{area_bytes, area_space}
use mathlib.Core.Path.{◌≡◌}
use Prim.Native.Nat.{◌+◌, ◌-◌, ◌≤◌}
use mathlib.Core.List.{◌++◌}
use lib.ListN.{length, take, drop}
use Rattle.laws.specs.Bytes.{laid_over}
use Rattle.event_log.proofs.put_packets.Given as goal

abbrev pub invariant-loop-found : goal.invariant-loop-found
invariant-loop-found l = (l.at ≤ length l.area) × (length l.out ≡ length l.initial.out) × (l.to + area_space (drop l.at l.area) ≤ length l.out) × (take l.to l.out ++ laid_over (area_bytes l.gateway.0 (drop l.at l.area)) (drop l.to l.out) ≡ laid_over (area_bytes l.gateway.0 l.area) l.initial.out)

abbrev pub decreases-loop-found : goal.decreases-loop-found
decreases-loop-found l = length l.area - l.at
