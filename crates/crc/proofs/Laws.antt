-- A table's rule at every entry, and a byte by a table that follows it is a byte bit by bit, for any polynomial of 16 bits. Assumes nothing.
use mathlib.Core.Path.{◌≡◌, refl, sym, ap, ap₂, ◌∙◌}
use mathlib.Core.Bool.{Bool}
use mathlib.Core.List.{List, [], ◌∷◌, ◌++◌}
use Prim.Native.Nat.{ℕ, zero, suc, ◌+◌, ◌*◌, ◌/◌, ◌%◌, ◌^◌, ◌≤◌, ◌<◌}
use native.Mathlib.Nat.{mod-lt, mul-one, one-mul, zero-mul, mul_assoc, pow-suc}
use native.Mathlib.Numerals.{add-one}
use native.Mathlib.Omega.{arith}
use lib.Dec.{T, eqb, eqb→eq, lit<}
use lib.ListN.{length, get_or, drop, drop_of_length-le}
use lib.Seq.{drop-cons}
use lib.Bits.{bit_xor, xor_comm, xor_zero_r, xor_shr, xor_mod, xor_lt}
use Rattle.laws.specs.Bytes.{Bytes, Check16}
use Rattle.laws.proofs.Bits.{xor_assoc, xor-apart}
use Rattle.laws.proofs.Table.{every, entry}
use Rattle.crc.specs.Crc.{polynomial, start, crc_bit, crc_bits, crc_byte, crc_from, crc_of}
use Rattle.crc.specs.Table.{Follows}

abbrev pub follows : ℕ → ℕ → Bool
follows k x = eqb x (crc_bits 8 k)

-- a test that is computed once over all entries, carried to each: the proof of `crc_plain` cites this for `TABLE`
pub table-rule : (entries : List ℕ) → T (eqb (length entries) 256) → T (every follows 0 entries) → Follows entries
unfolding Follows
table-rule entries n t k h = eqb→eq (get_or entries k 0) (crc_bits 8 k) (entry follows 0 entries t k (omega (arith, eqb→eq (length entries) 256 n, h)))

twice_half : (y : ℕ) → y * 2 / 2 ≡ y
twice_half y = omega arith

twice-odd : (y : ℕ) → y * 2 % 2 ≡ 0
twice-odd y = omega arith

-- what stands above the lowest bit only moves down
crc_bit-above : (x y : ℕ) → crc_bit (bit_xor x (y * 2)) ≡ bit_xor (crc_bit x) y
crc_bit-above x y =
    ap₂ (λ (p q : ℕ). bit_xor p (q * polynomial)) (xor_shr x (y * 2) 1 ∙ ap (λ (k : ℕ). bit_xor (x / 2) k) (twice_half y)) (xor_mod x (y * 2) 1 ∙ ap (λ (k : ℕ). bit_xor (x % 2) k) (twice-odd y) ∙ xor_zero_r (x % 2))
    ∙ xor_assoc (x / 2) y (x % 2 * polynomial)
    ∙ ap (λ (k : ℕ). bit_xor (x / 2) k) (xor_comm y (x % 2 * polynomial))
    ∙ sym (xor_assoc (x / 2) (x % 2 * polynomial) y)

pub crc_bits-above : (n x y : ℕ) → crc_bits n (bit_xor x (y * 2 ^ n)) ≡ bit_xor (crc_bits n x) y
crc_bits-above zero x y = ap (λ (k : ℕ). bit_xor x k) (mul-one y)
crc_bits-above (suc n) x y =
    ap (λ (k : ℕ). crc_bits n (crc_bit (bit_xor x k))) (ap (λ (p : ℕ). y * p) (pow-suc 2 n) ∙ sym (mul_assoc y (2 ^ n) 2))
    ∙ ap (crc_bits n) (crc_bit-above x (y * 2 ^ n))
    ∙ crc_bits-above n (crc_bit x) y

no-high-byte : (b : ℕ) → b < 256 → b / 256 ≡ 0
no-high-byte b h = omega arith

-- the entry at the low byte, taken into the high one, by any table that follows the rule: `crc_byte` cites this
pub crc_byte-table : (entries : List ℕ) → Follows entries → (c b : ℕ) → b < 256 → bit_xor (c / 2 ^ 8) (get_or entries (bit_xor c b % 256) 0) ≡ crc_byte c b
unfolding crc_byte Follows
crc_byte-table entries f c b h =
    let w = bit_xor c b in
    ap (λ (k : ℕ). bit_xor (c / 256) k) (f (w % 256) (mod-lt w (lit< tt)))
    ∙ ap (λ (k : ℕ). bit_xor k (crc_bits 8 (w % 256))) (sym (xor_shr c b 8 ∙ ap (λ (k : ℕ). bit_xor (c / 256) k) (no-high-byte b h) ∙ xor_zero_r (c / 256)))
    ∙ xor_comm (w / 256) (crc_bits 8 (w % 256))
    ∙ sym (crc_bits-above 8 (w % 256) (w / 256))
    ∙ ap (crc_bits 8) (sym (xor-apart 8 w))

-- the check of what is left, one byte on and at the end: the loop of `crc_by` cites both
pub crc_from-drop : (s : List ℕ) (i crc : ℕ) → i < length s → crc_from crc (drop i s) ≡ crc_from (crc_byte crc (get_or s i 0)) (drop (i + 1) s)
crc_from-drop s i crc h = rw (add-one, drop-cons s i 0 h)

pub crc_from-end : (s : List ℕ) (i crc : ℕ) → length s ≤ i → crc_from crc (drop i s) ≡ crc
crc_from-end s i crc h = rw (drop_of_length-le s h)

pub crc_from-append : (xs ys : List ℕ) (crc : ℕ) → crc_from crc (xs ++ ys) ≡ crc_from (crc_from crc xs) ys
crc_from-append [] ys crc = refl
crc_from-append (x ∷ xs) ys crc = crc_from-append xs ys (crc_byte crc x)

pub bit-lt : (x p : ℕ) → p < 2 ^ 16 → x % 2 * p < 2 ^ 16
bit-lt x p h = two (x % 2) (mod-lt x (lit< tt))
  where
    two : (b : ℕ) → b < 2 → b * p < 2 ^ 16
    two zero g = simp zero-mul (omega arith)
    two (suc zero) g = simp one-mul h
    two (suc (suc b)) g = absurd (omega arith)

crc_bit-lt : (c : ℕ) → c < 2 ^ 16 → crc_bit c < 2 ^ 16
crc_bit-lt c h = xor_lt 16 (c / 2) (c % 2 * polynomial) (omega arith) (bit-lt c polynomial (omega arith))

pub crc_bits-lt : (n c : ℕ) → c < 2 ^ 16 → crc_bits n c < 2 ^ 16
crc_bits-lt zero c h = h
crc_bits-lt (suc n) c h = crc_bits-lt n (crc_bit c) (crc_bit-lt c h)

crc_byte-lt : (c b : ℕ) → c < 2 ^ 16 → b < 256 → crc_byte c b < 2 ^ 16
unfolding crc_byte
crc_byte-lt c b h g = crc_bits-lt 8 (bit_xor c b) (xor_lt 16 c b h (omega arith))

pub crc_from-lt : (xs : List ℕ) (c : ℕ) → c < 2 ^ 16 → Bytes xs → crc_from c xs < 2 ^ 16
crc_from-lt [] c h g = h
crc_from-lt (x ∷ xs) c h g = crc_from-lt xs (crc_byte c x) (crc_byte-lt c x h (g 0)) (λ i. g (suc i))

-- the check is one of the 16-bit checks that 01 speaks of
pub crc_of-16 : Check16 crc_of
crc_of-16 xs g = crc_from-lt xs start (lit< tt) g
