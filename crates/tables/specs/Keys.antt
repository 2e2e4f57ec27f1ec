-- A table's keys as a list of numbers: where a key stands, and where an entry goes. 0 is the key of a free place. Assumes nothing.
use Rattle.std.specs.Prelude.{Option, Some, None, ℕ, suc, Bool, true, false, cond, not, ◌&&◌, List, [], ◌∷◌, length, get_or, drop, eqb, ltb}

-- the first place with this key, or the number of places: of a key held twice the first place counts
unfoldable pub first_of : List ℕ → ℕ → ℕ
first_of [] key = 0
first_of (k ∷ ks) key = cond (eqb k key) 0 (suc (first_of ks key))

-- where an entry goes: the place with its key, else the first free place, else the number of places
unfoldable pub seat_of : List ℕ → ℕ → ℕ
seat_of keys key = cond (ltb (first_of keys key) (length keys)) (first_of keys key) (first_of keys 0)

-- whether a length is over the limit
unfoldable pub any_over : List ℕ → ℕ → Bool
any_over [] limit = false
any_over (n ∷ ns) limit = cond (ltb limit n) true (any_over ns limit)

-- whether a held place has a length over the limit
unfoldable pub over_of : List ℕ → List ℕ → ℕ → Bool
over_of [] lengths limit = false
over_of (k ∷ ks) lengths limit =
    cond (not (eqb k 0) && ltb limit (get_or lengths 0 0)) true (over_of ks (drop 1 lengths) limit)

-- a place of so many, if it is one: the number of places stands for none
abbrev pub place_within : ℕ → ℕ → Option ℕ
place_within size i = cond (ltb i size) (Some i) None
