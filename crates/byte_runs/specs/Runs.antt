-- Runs of bytes: what they are made of, how long they are, and where they are laid. Assumes nothing.
use Rattle.std.specs.Prelude.{◌≡◌, Bool, true, cond, not, ◌&&◌, ◌||◌, List, [], ◌∷◌, ℕ, zero, suc, ◌+◌, ◌%◌, ◌<◌, get_or, set, eqb, ltb}
use Rattle.byte_runs.specs.declared.Sort.{Sort}
use Rattle.byte_runs.specs.declared.Sort.TheVariants.{Raw, Idle, Plain, Calm}

-- 01, "The reading of a stream": a data unit is a byte other than 7e
abbrev pub raw : ℕ → Bool
raw b = not (eqb b 0x7e)

-- 00 and ff lead to Idle
abbrev pub idle : ℕ → Bool
idle b = eqb b 0x00 || eqb b 0xff

-- 01, "On the wire": escapes: 7e, 24, 23, 25, a4, a3, a5; 23 to 25 and a3 to a5 are alike but for the highest bit
abbrev pub fenced : ℕ → Bool
fenced b = not (ltb (b % 0x80) 0x23) && ltb (b % 0x80) 0x26

-- 7e 07 opens a frame, and 7e 08 closes one
abbrev pub calm : ℕ → Bool
calm b = not (eqb b 0x07) && not (eqb b 0x08)

-- which bytes are of a sort: raw; idle; one that stands for itself on the wire; one that with a 7e
-- before it neither opens nor closes a frame
unfoldable pub is_of : Sort → ℕ → Bool
is_of Raw b = raw b
is_of Idle b = idle b
is_of Plain b = raw b && not (fenced b)
is_of Calm b = calm b

-- how many bytes at the start of a list meet a test
unfoldable pub lead : (ℕ → Bool) → List ℕ → ℕ
lead p [] = 0
lead p (b ∷ bs) = cond (p b) (suc (lead p bs)) 0

-- the m bytes of s from i on meet a test
abbrev pub All : (ℕ → Bool) → List ℕ → ℕ → ℕ → Type 0
All p s i m = (k : ℕ) → k < m → p (get_or s (i + k) 0) ≡ true

-- m bytes of s from i on, laid to d from l on
abbrev pub laid : List ℕ → ℕ → List ℕ → ℕ → ℕ → List ℕ
laid d l s i zero = d
laid d l s i (suc m) = set (laid d l s i m) (l + m) (get_or s (i + m) 0)
