-- The bytes of a word that fail a test, marked, and what the first mark tells. Assumes nothing.
use Rattle.std.specs.Prelude.{◌≡◌, Bool, cond, List, map, ℕ, ◌+◌, length, replicate}
use Rattle.std.proofs.Math.Seq.{paste}
use Rattle.std.specs.Int.Bits.{bit_and, bit_xor}
use Rattle.laws.specs.Bytes.{Bytes}
use Rattle.words.specs.Words.{le_of}
use Rattle.byte_runs.specs.Runs.{lead}

-- 80 for a byte that fails a test, 00 for one that meets it
abbrev pub mark : (ℕ → Bool) → ℕ → ℕ
mark p b = cond (p b) 0 0x80

-- the marks of bytes as a word
abbrev pub marked : (ℕ → Bool) → List ℕ → ℕ
marked p bs = le_of (map (mark p) bs)

-- eight bytes, and the word that they are
pub record Eight (bs : List ℕ) (w : ℕ) : Type 0 where
  pub bytes : Bytes bs
  pub eight : length bs ≡ 8
  pub word : w ≡ le_of bs

-- r marks the bytes of w that fail a test
abbrev pub Marks : (ℕ → Bool) → ℕ → ℕ → Type 0
Marks p w r = (bs : List ℕ) → Eight bs w → r ≡ marked p bs

-- of each byte the highest bit, set if its lower seven bits and a byte of a reach 80, and they and one of b do not
abbrev pub between_of : ℕ → ℕ → ℕ → ℕ
between_of w a b = bit_and (bit_and (bit_and w 0x7f7f7f7f7f7f7f7f + a) (bit_xor (bit_and w 0x7f7f7f7f7f7f7f7f + b) 0xffffffffffffffff)) 0x8080808080808080

-- r has all bits of the bytes below the first mark of z
abbrev pub Below : ℕ → ℕ → Type 0
Below z r = (p : ℕ → Bool) (bs : List ℕ) → z ≡ marked p bs → r ≡ le_of (replicate (lead p bs) 0xff)

-- r is how many bytes stand before the first mark of z
abbrev pub First : ℕ → ℕ → Type 0
First z r = (p : ℕ → Bool) (bs : List ℕ) → length bs ≡ 8 → z ≡ marked p bs → r ≡ lead p bs

-- the bytes of w before the first mark of z are counted, and laid to d from l on
abbrev pub Blended : List ℕ → ℕ → ℕ → ℕ → ℕ → List ℕ → Type 0
Blended d l w z r next = (p : ℕ → Bool) (bs : List ℕ) → Eight bs w → z ≡ marked p bs → (r ≡ lead p bs) × (next ≡ paste d l bs r)
