-- The check, bit by bit. Assumes nothing.
use Rattle.std.specs.Prelude.{ℕ, zero, suc, ◌*◌, ◌/◌, ◌%◌, List, [], ◌∷◌}
use Rattle.std.specs.Int.Bits.{bit_xor}

-- 01, "What comes over": the reflected CRC-16 with polynomial 0x8408 (ITU-T V.41's) ..
abbrev pub polynomial : ℕ
polynomial = 0x8408

-- .. start 0
abbrev pub start : ℕ
start = 0

-- one bit: shifted right, and the polynomial taken in where the bit that falls out is 1
abbrev pub crc_bit : ℕ → ℕ
crc_bit c = bit_xor (c / 2) (c % 2 * polynomial)

-- so many bits, one after another
abbrev pub crc_bits : ℕ → ℕ → ℕ
crc_bits zero c = c
crc_bits (suc n) c = crc_bits n (crc_bit c)

-- one byte: taken into the low end, then eight bits
unfoldable pub crc_byte : ℕ → ℕ → ℕ
crc_byte c b = crc_bits 8 (bit_xor c b)

-- the bytes in order, from any start
abbrev pub crc_from : ℕ → List ℕ → ℕ
crc_from c [] = c
crc_from c (b ∷ bs) = crc_from (crc_byte c b) bs

-- the check of a list of bytes
abbrev pub crc_of : List ℕ → ℕ
crc_of bs = crc_from start bs
