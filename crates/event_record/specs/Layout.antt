-- The layout of an event record. Assumes nothing.
use Rattle.std.specs.Prelude.{ℕ, ◌+◌, List, [], ◌∷◌, ◌++◌, length}
use Rattle.laws.specs.Bytes.{be16}

-- 01, "Event record": gateway (2, big-endian), body: what version v writes between the two: nothing
unfoldable pub extra : ℕ → List ℕ
extra v = []

-- 01, "Event record": what follows the length: version 1, kind, gateway (2, big-endian), body
abbrev pub following : ℕ → ℕ → ℕ → List ℕ → List ℕ
following v kind gateway body = v ∷ kind ∷ (be16 gateway ++ (extra v ++ body))

-- 01, "Event record": Length (2, big-endian, of what follows), version 1, kind, gateway (2, big-endian), body
unfoldable pub framed : ℕ → ℕ → ℕ → List ℕ → List ℕ
framed v kind gateway body = be16 (length (following v kind gateway body)) ++ following v kind gateway body

-- a record up to its body of n bytes
abbrev pub head_of : ℕ → ℕ → ℕ → ℕ → List ℕ
head_of v kind gateway n = be16 (4 + length (extra v) + n) ++ (v ∷ kind ∷ (be16 gateway ++ extra v))
