-- Room in an output buffer. Assumes nothing.
use Rattle.std.specs.Prelude.{ℕ, ◌+◌, ◌≤◌, List, length}

-- behind a place a buffer has room for so many bytes, if it is that long at all
abbrev pub Roomy : List ℕ → ℕ → ℕ → Type 0
Roomy out at need = need ≤ length out → at + need ≤ length out
