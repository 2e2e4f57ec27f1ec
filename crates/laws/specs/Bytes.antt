-- Numbers as bytes, and bytes laid over a lent buffer. Assumes nothing.
use Rattle.std.specs.Prelude.{ℕ, ◌+◌, ◌*◌, ◌/◌, ◌%◌, ◌^◌, ◌<◌, List, [], ◌∷◌, ◌++◌, length, get_or, drop}
use Rattle.laws.specs.Handed.{Handed, refused, value}

-- every element is a byte (past the end `get_or` gives 0, which is one)
abbrev pub Bytes : List ℕ → Type 0
Bytes xs = (i : ℕ) → get_or xs i 0 < 256

-- 01, "What comes over": all theorems above it hold for any 16-bit check: a function of bytes that gives 16 bits
abbrev pub Check16 : (List ℕ → ℕ) → Type 0
Check16 check = (xs : List ℕ) → Bytes xs → check xs < 2 ^ 16

-- a 16-bit number as two bytes, big-endian
abbrev pub be16 : ℕ → List ℕ
be16 n = n / 256 ∷ n % 256 ∷ []

-- a 16-bit number as two bytes, little-endian
abbrev pub le16 : ℕ → List ℕ
le16 n = n % 256 ∷ n / 256 ∷ []

-- the number that two bytes spell, the higher first
abbrev pub of16 : ℕ → ℕ → ℕ
of16 hi lo = hi * 256 + lo

-- the big-endian 16-bit number at a place of a list
abbrev pub be16_at : List ℕ → ℕ → ℕ
be16_at xs at = of16 (get_or xs at 0) (get_or xs (at + 1) 0)

-- 01, "Numbers handed back": an accepted encoding changes only the bytes written: a buffer with xs written over its start
abbrev pub laid_over : List ℕ → List ℕ → List ℕ
laid_over xs out = xs ++ drop (length xs) out

-- 01, "Numbers handed back": no refusal touches an output buffer: what an encoder leaves of a buffer, by what it hands back and what it writes
abbrev pub laid_if : Handed ℕ → List ℕ → List ℕ → List ℕ
laid_if (refused n) xs out = out
laid_if (value n) xs out = laid_over xs out
