-- What a function hands back, in 01's terms: each crate maps its answers to these. Assumes nothing.
use Rattle.std.specs.Prelude.{ℕ, Bool, false, eqb}

-- 01, "Numbers handed back": a number of the table, or a value
pub data Handed (A : Type 0) : Type 0 where
  refused : ℕ → Handed A
  value : A → Handed A

-- whether it is the refusal of that number
abbrev pub is_refusal : {A : Type 0} → ℕ → Handed A → Bool
is_refusal n (refused m) = eqb m n
is_refusal n (value a) = false
