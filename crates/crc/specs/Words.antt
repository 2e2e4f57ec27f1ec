-- Bytes as 64-bit words, and the check of such words. Assumes nothing.
use Rattle.std.specs.Prelude.{ℕ, zero, suc, ◌+◌, ◌*◌, List, [], ◌∷◌, get_or}
use Rattle.std.specs.Int.Bits.{bit_xor}
use Rattle.crc.specs.Crc.{crc_bits}

-- the number that n bytes of xs make, from place i + k on, the first of them lowest
abbrev pub le_at : List ℕ → ℕ → ℕ → ℕ → ℕ
le_at xs i k zero = 0
le_at xs i k (suc n) = get_or xs (i + k) 0 + 256 * le_at xs i (suc k) n

-- words in order, from any start: each is taken into the low end, then 64 bits
abbrev pub crc_words : ℕ → List ℕ → ℕ
crc_words c [] = c
crc_words c (w ∷ ws) = crc_words (crc_bits 64 (bit_xor c w)) ws
