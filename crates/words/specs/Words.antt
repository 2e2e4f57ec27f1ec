-- Bytes as a number, a number as bytes, and bytes copied into a list. Assumes nothing.
use Rattle.std.specs.Prelude.{cond, List, [], ◌∷◌, ℕ, zero, suc, ◌+◌, ◌*◌, ◌/◌, ◌%◌, length, eqb, ltb}
use Rattle.std.proofs.Math.Seq.{paste}

-- the number that bytes make, the first of them lowest
abbrev pub le_of : List ℕ → ℕ
le_of [] = 0
le_of (b ∷ bs) = le_of bs * 256 + b

-- the number of just n bytes; 0 of more or fewer
abbrev pub number_of : ℕ → List ℕ → ℕ
number_of n bs = cond (eqb (length bs) n) (le_of bs) 0

-- the n lowest bytes of a number, the lowest first
abbrev pub digits : ℕ → ℕ → List ℕ
digits zero x = []
digits (suc n) x = x % 256 ∷ digits n (x / 256)

-- just eight bytes, with a word's in their place; more or fewer as they are
abbrev pub put_of : List ℕ → ℕ → List ℕ
put_of d x = cond (eqb (length d) 8) (digits 8 x) d

-- a list with another copied in from a place on, if it fits there: just those bytes change; else the list as it is
unfoldable pub copied_in : List ℕ → ℕ → List ℕ → List ℕ
copied_in d at s = cond (ltb (length d) (at + length s)) d (paste d at s (length s))
