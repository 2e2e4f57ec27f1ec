-- How an answer crosses a door: as one number. Assumes nothing.
use Rattle.std.specs.Prelude.{ℕ, ◌*◌, ◌^◌}
use Rattle.laws.specs.Handed.{Handed, refused, value}

-- a value is itself, and a refusal 2^32 times its number in 01's table: no value reaches 2^32, and no refusal is 0
abbrev pub numbered : Handed ℕ → ℕ
numbered (value n) = n
numbered (refused n) = n * 2 ^ 32
