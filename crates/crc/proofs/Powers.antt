-- Bits of the check respect exclusive or. The polynomial x^16 + x^12 + x^5 + 1 is a relation of 16, 12, 5 and no bits, and a square doubles the
-- exponents, so that the 4th, 8th and 16th powers are relations of four terms too: the wide check rests on them. Assumes nothing.
use mathlib.Core.Path.{◌≡◌, refl, sym, ap, ap₂, ◌∙◌, subst}
use Prim.Native.Nat.{ℕ, zero, suc, ◌+◌, ◌*◌, ◌/◌, ◌%◌, ◌^◌, ◌<◌}
use native.Mathlib.Nat.{zero-lt-suc, add-zero, zero-add, suc-add, add_comm, mul-add, pow-suc, div-lt_iff_lt-mul, mul-div_cancel, mul-mod_left, lt_of_lt_of_le, le-add_left}
use lib.Dec.{lit<, lit≤}
use lib.Pow.{pow_pos, pow_mono, mod-pow-add}
use lib.Bits.{bit_xor, xor_mod, xor_zero_l, xor_comm, xor_lt}
use Rattle.laws.proofs.Bits.{bit, low_bit, xor-apart}
use Rattle.laws.proofs.Linear.{Linear, xor-cancel, xor-undo, linear-id, linear-xor, linear-then, linear-shr, linear-zero, agree-below}
use Rattle.crc.specs.Crc.{polynomial, crc_bit, crc_bits}
use Rattle.crc.proofs.Laws.{bit-lt, crc_bits-lt, crc_bits-above}

abbrev Tap : ℕ → ℕ → Type 0
Tap a b = bit_xor a b * polynomial ≡ bit_xor (a * polynomial) (b * polynomial)

tap : (a : ℕ) → a < 2 → (b : ℕ) → b < 2 → Tap a b
tap = bit (λ (a : ℕ). (b : ℕ) → b < 2 → Tap a b) (bit (Tap 0) refl refl) (bit (Tap 1) refl refl)

linear-tap : Linear (λ x. x % 2 * polynomial)
linear-tap a b = ap (λ (k : ℕ). k * polynomial) (xor_mod a b 1) ∙ tap (a % 2) (low_bit a) (b % 2) (low_bit b)

linear-crc_bit : Linear crc_bit
linear-crc_bit = linear-xor (λ x. x / 2) (λ x. x % 2 * polynomial) (linear-shr 1) linear-tap

-- bits of the check respect exclusive or
pub linear-crc_bits : (n : ℕ) → Linear (crc_bits n)
linear-crc_bits zero = linear-id
linear-crc_bits (suc n) = linear-then crc_bit (crc_bits n) linear-crc_bit (linear-crc_bits n)

pub crc_bits-add : (m n c : ℕ) → crc_bits (m + n) c ≡ crc_bits n (crc_bits m c)
crc_bits-add zero n c = ap (λ (k : ℕ). crc_bits k c) (zero-add n)
crc_bits-add (suc m) n c = ap (λ (k : ℕ). crc_bits k c) (suc-add m n) ∙ crc_bits-add m n (crc_bit c)

-- the relation at the k-th power
abbrev Relation : ℕ → Type 0
Relation k = (c : ℕ) → c < 2 ^ 16 → bit_xor (crc_bits (16 * k) c) (crc_bits (12 * k) c) ≡ bit_xor (crc_bits (5 * k) c) c

relation-1 : Relation 1
relation-1 =
    agree-below (λ c. bit_xor (crc_bits 16 c) (crc_bits 12 c)) (λ c. bit_xor (crc_bits 5 c) c)
    (linear-xor (crc_bits 16) (crc_bits 12) (linear-crc_bits 16) (linear-crc_bits 12))
    (linear-xor (crc_bits 5) (λ x. x) (linear-crc_bits 5) linear-id) 16 tt

crc_bits-double : (n k c : ℕ) → crc_bits (n * (k + k)) c ≡ crc_bits (n * k) (crc_bits (n * k) c)
crc_bits-double n k c = ap (λ (m : ℕ). crc_bits m c) (mul-add n k k) ∙ crc_bits-add (n * k) (n * k) c

pub crc_bits-swap : (m n c : ℕ) → crc_bits m (crc_bits n c) ≡ crc_bits n (crc_bits m c)
crc_bits-swap m n c = sym (crc_bits-add n m c) ∙ ap (λ (k : ℕ). crc_bits k c) (add_comm n m) ∙ crc_bits-add m n c

-- (f + g)(f + g) is ff + gg: the mixed terms cancel
square-sum : (f g : ℕ → ℕ) → Linear f → Linear g → (c : ℕ) → f (g c) ≡ g (f c) → bit_xor (f (f c)) (g (g c)) ≡ bit_xor (f (bit_xor (f c) (g c))) (g (bit_xor (f c) (g c)))
square-sum f g lf lg c e =
    sym
    (ap₂ bit_xor (lf (f c) (g c)) (lg (f c) (g c))
    ∙ ap (λ (x : ℕ). bit_xor (bit_xor (f (f c)) x) (bit_xor (g (f c)) (g (g c)))) e
    ∙ xor-cancel (f (f c)) (g (f c)) (g (g c)))

square : (k : ℕ) → Relation k → Relation (k + k)
square k r c h =
    let f = crc_bits (16 * k) in
    let g = crc_bits (12 * k) in
    let e = crc_bits (5 * k) in
    let d = bit_xor (e c) c in
    ap₂ bit_xor (crc_bits-double 16 k c) (crc_bits-double 12 k c)
    ∙ square-sum f g (linear-crc_bits (16 * k)) (linear-crc_bits (12 * k)) c (crc_bits-swap (16 * k) (12 * k) c)
    ∙ ap (λ (x : ℕ). bit_xor (f x) (g x)) (r c h)
    ∙ r d (xor_lt 16 (e c) c (crc_bits-lt (5 * k) c h) h)
    ∙ ap (λ (x : ℕ). bit_xor x d) (linear-crc_bits (5 * k) (e c) c)
    ∙ xor-cancel (e (e c)) (e c) c
    ∙ ap (λ (x : ℕ). bit_xor x c) (sym (crc_bits-double 5 k c))

relation-4 : Relation 4
relation-4 = square 2 (square 1 relation-1)

relation-8 : Relation 8
relation-8 = square 4 relation-4

relation-16 : Relation 16
relation-16 = square 8 relation-8

-- all but 16 bits gone, 16 bits are left
narrow : (n x : ℕ) → x < 2 ^ (n + 16) → crc_bits n x < 2 ^ 16
narrow zero x h = h
narrow (suc n) x h =
    narrow n (crc_bit x)
    (xor_lt (n + 16) (x / 2) (x % 2 * polynomial)
    ((div-lt_iff_lt-mul (zero-lt-suc 1)).1 (subst (λ (m : ℕ). x < m) (ap (λ (m : ℕ). 2 ^ m) (suc-add n 16) ∙ pow-suc 2 (n + 16)) h))
    (lt_of_lt_of_le (bit-lt x polynomial (lit< tt)) (pow_mono {i = 16} {j = n + 16} (le-add_left 16 n))))

-- the relations on words
pub power-1 : (x : ℕ) → x < 2 ^ 64 → bit_xor (crc_bits 64 x) (crc_bits 60 x) ≡ bit_xor (crc_bits 53 x) (crc_bits 48 x)
power-1 x h =
    ap₂ bit_xor (crc_bits-add 48 16 x) (crc_bits-add 48 12 x)
    ∙ relation-1 (crc_bits 48 x) (narrow 48 x h)
    ∙ ap (λ (y : ℕ). bit_xor y (crc_bits 48 x)) (sym (crc_bits-add 48 5 x))

module _ (k : ℕ) (r : Relation k) (x : ℕ) (h : x < 2 ^ 64) where
  power : bit_xor (crc_bits (64 + 16 * k) x) (crc_bits (64 + 12 * k) x) ≡ bit_xor (crc_bits (64 + 5 * k) x) (crc_bits 64 x)
  power =
      ap₂ bit_xor (crc_bits-add 64 (16 * k) x) (crc_bits-add 64 (12 * k) x)
      ∙ r (crc_bits 64 x) (narrow 64 x (lt_of_lt_of_le h (pow_mono {i = 64} {j = 80} (lit≤ tt))))
      ∙ ap (λ (y : ℕ). bit_xor y (crc_bits 64 x)) (sym (crc_bits-add 64 (5 * k) x))

pub power-4 : (x : ℕ) → x < 2 ^ 64 → bit_xor (crc_bits 128 x) (crc_bits 112 x) ≡ bit_xor (crc_bits 84 x) (crc_bits 64 x)
power-4 = power 4 relation-4

pub power-8 : (x : ℕ) → x < 2 ^ 64 → bit_xor (crc_bits 192 x) (crc_bits 160 x) ≡ bit_xor (crc_bits 104 x) (crc_bits 64 x)
power-8 = power 8 relation-8

pub power_16 : (x : ℕ) → x < 2 ^ 64 → bit_xor (crc_bits 320 x) (crc_bits 256 x) ≡ bit_xor (crc_bits 144 x) (crc_bits 64 x)
power_16 = power 16 relation-16

-- a number moved up by k of its j + k bits
pub shl-mod : (y j k : ℕ) → y * 2 ^ k % 2 ^ (j + k) ≡ y % 2 ^ j * 2 ^ k
shl-mod y j k =
    mod-pow-add (y * 2 ^ k) j k
    ∙ ap₂ (λ (p q : ℕ). p % 2 ^ j * 2 ^ k + q) (mul-div_cancel y (pow_pos k)) (mul-mod_left y (2 ^ k))
    ∙ add-zero (y % 2 ^ j * 2 ^ k)

-- zeros before a number change nothing
crc_bits-zeros : (n y : ℕ) → crc_bits n (y * 2 ^ n) ≡ y
crc_bits-zeros n y =
    ap (crc_bits n) (sym (xor_zero_l (y * 2 ^ n)))
    ∙ crc_bits-above n 0 y
    ∙ ap (λ (k : ℕ). bit_xor k y) (linear-zero (crc_bits n) (linear-crc_bits n))
    ∙ xor_zero_l y

pub crc_bits-shl : (y j k w : ℕ) → j + k ≡ w → crc_bits w (y * 2 ^ k % 2 ^ w) ≡ crc_bits j (y % 2 ^ j)
crc_bits-shl y j k w e =
    ap (λ (n : ℕ). crc_bits n (y * 2 ^ k % 2 ^ n)) (sym e)
    ∙ ap₂ (λ (n z : ℕ). crc_bits n z) (add_comm j k) (shl-mod y j k)
    ∙ crc_bits-add k j (y % 2 ^ j * 2 ^ k)
    ∙ ap (crc_bits j) (crc_bits-zeros k (y % 2 ^ j))

-- the low j bits go through, and the rest only moves down
pub crc_bits-apart : (j y : ℕ) → bit_xor (y / 2 ^ j) (crc_bits j (y % 2 ^ j)) ≡ crc_bits j y
crc_bits-apart j y =
    xor_comm (y / 2 ^ j) (crc_bits j (y % 2 ^ j)) ∙ sym (crc_bits-above j (y % 2 ^ j) (y / 2 ^ j)) ∙ ap (crc_bits j) (sym (xor-apart j y))

-- a word shifted to the left has its j low bits; the others are taken off
pub crc_bits-left : (j k m x : ℕ) → j + k ≡ 64 → crc_bits (64 + m) (x * 2 ^ k % 2 ^ 64) ≡ bit_xor (crc_bits (j + m) x) (crc_bits m (x / 2 ^ j))
crc_bits-left j k m x e =
    crc_bits-add 64 m (x * 2 ^ k % 2 ^ 64)
    ∙ ap (crc_bits m) (crc_bits-shl x j k 64 e)
    ∙ sym (xor-undo (crc_bits m (x / 2 ^ j)) (crc_bits m (crc_bits j (x % 2 ^ j))))
    ∙ ap (λ (y : ℕ). bit_xor y (crc_bits m (x / 2 ^ j))) (sym (linear-crc_bits m (x / 2 ^ j) (crc_bits j (x % 2 ^ j))) ∙ ap (crc_bits m) (crc_bits-apart j x) ∙ sym (crc_bits-add j m x))
