-- How what stands in a packet area crosses a door. Assumes nothing.
use Rattle.std.specs.Prelude.{ℕ, cond, List, [], ◌∷◌, Some, None, Ok, Err}
use Rattle.network.specs.declared.Tally.{Tally}
use Rattle.network.specs.Split.{Found}

-- 0 where nothing stands, 1 where bytes are too few for a packet, 2 for a packet
abbrev pub found_number : Found → ℕ
found_number None = 0
found_number (Some (Err e)) = 1
found_number (Some (Ok p)) = 2

-- where a packet's data starts and ends; no packet gives 0 and 0
abbrev pub bounds_of : Found → List ℕ
bounds_of None = 0 ∷ 0 ∷ []
bounds_of (Some (Err e)) = 0 ∷ 0 ∷ []
bounds_of (Some (Ok p)) = p.data_at ∷ p.end ∷ []

-- how many whole packets an area has, and whether it ends too short
abbrev pub counts_of : Tally → List ℕ
counts_of t = t.packets ∷ cond t.short 1 0 ∷ []
