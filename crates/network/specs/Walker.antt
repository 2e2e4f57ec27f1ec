-- The walker over a packet area. Assumes nothing.
use Rattle.std.specs.Prelude.{◌≡◌, ℕ, zero, suc, ◌+◌, cond, List, [], ◌∷◌, length, ◌==◌, Some, None, Ok, Err}
use Rattle.network.specs.declared.received_packets.ReceivedPackets.{ReceivedPackets}
use Rattle.network.specs.Split.{header_size, Found, found_packet, found_short, found_at}

-- 01, "Transport": a walker over it keeps its place between packets. Behind a packet it goes on; after too few bytes it is at the area's end, and a
-- finished walker stays where it is
abbrev pub place_after : List ℕ → ℕ → Found → ℕ
place_after a at (Some (Ok p)) = p.end
place_after a at (Some (Err e)) = length a
place_after a at None = at

-- the walker over the same area, at the place where it goes on
abbrev pub moved_on : ReceivedPackets → ReceivedPackets
moved_on w = record { area = w.area; at = place_after w.area.now w.at (found_at w.area.now w.at) }

-- one call of `next`: it tells what stands at the walker's place, and the walker moves on
pub record Next (w : ReceivedPackets) (f : Found) (u : ReceivedPackets) : Type 0 where
  pub tells : f ≡ found_at w.area.now w.at
  pub moves : u ≡ moved_on w

-- so many calls of `next`, and what they told, in order
pub data Nexts : ReceivedPackets → List Found → ReceivedPackets → Type 0 where
  none : {w : ReceivedPackets} → Nexts w [] w
  then : {w u v : ReceivedPackets} {f : Found} {fs : List Found} → Next w f u → Nexts u fs v → Nexts w (f ∷ fs) v

-- what a walk tells of an area that is split from a place on: each packet once, in order, and then one 'too short' exactly if bytes are left
abbrev pub told_of : ℕ → List (List ℕ) → List ℕ → List Found
told_of at [] rest = cond (length rest == 0) [] (found_short ∷ [])
told_of at (p ∷ ps) rest = found_packet (at + header_size) (at + length p) ∷ told_of (at + length p) ps rest

-- the first n of what is told; after all of it, finished forever
abbrev pub first_told : ℕ → List Found → List Found
first_told zero fs = []
first_told (suc n) [] = None ∷ first_told n []
first_told (suc n) (f ∷ fs) = f ∷ first_told n fs
