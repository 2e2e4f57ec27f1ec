-- What is counted. Assumes nothing.
use Rattle.std.specs.Prelude.{ℕ, Bool, eqb}

-- 01, "The reading of a stream": the Rust's five counters are frames (sound ones), runts, checksums, giants, noise. Added: openings, broken, escaped.
pub data Counter : Type 0 where
  openings frames runts checksums giants escaped broken noise : Counter

-- the index of each in the ledger, counted from 0
abbrev pub index_of : Counter → ℕ
index_of openings = 0
index_of frames = 1
index_of runts = 2
index_of checksums = 3
index_of giants = 4
index_of escaped = 5
index_of broken = 6
index_of noise = 7

-- whether two counters are the same
abbrev pub same : Counter → Counter → Bool
same j k = eqb (index_of j) (index_of k)
