-- Maps that respect exclusive or. Two of them that agree at the powers of two below 2^n agree at every number below 2^n,
-- so that one test of n numbers proves an equation for all: the check's words cite this. Assumes nothing.
use mathlib.Core.Path.{◌≡◌, refl, sym, ap, ap₂, ◌∙◌, subst}
use mathlib.Core.Bool.{Bool, true, ◌&&◌}
use Prim.Native.Nat.{ℕ, zero, suc, ◌*◌, ◌/◌, ◌%◌, ◌^◌, ◌<◌}
use native.Mathlib.Nat.{mod-lt, add-zero, zero-mul, one-mul, pow-succ', div-lt_iff_lt-mul}
use native.Mathlib.Omega.{arith}
use lib.Dec.{T, eqb, eqb→eq}
use lib.Pow.{pow_pos}
use lib.Bits.{bit_xor, xor_comm, xor_shr, xor_mod, xor_block, xor_self, xor_zero_l, xor_zero_r}
use Rattle.laws.proofs.Bits.{bit, xor_assoc, xor-apart}
use Rattle.laws.proofs.Table.{and_left, and_right}

abbrev pub Linear : (ℕ → ℕ) → Type 0
Linear f = (a b : ℕ) → f (bit_xor a b) ≡ bit_xor (f a) (f b)

-- the inner two of four change places
pub xor-swap : (a b c d : ℕ) → bit_xor (bit_xor a b) (bit_xor c d) ≡ bit_xor (bit_xor a c) (bit_xor b d)
xor-swap a b c d =
    xor_assoc a b (bit_xor c d)
    ∙ ap (λ (k : ℕ). bit_xor a k) (sym (xor_assoc b c d) ∙ ap (λ (k : ℕ). bit_xor k d) (xor_comm b c) ∙ xor_assoc c b d)
    ∙ sym (xor_assoc a c (bit_xor b d))

-- what stands twice falls out
pub xor-cancel : (a b c : ℕ) → bit_xor (bit_xor a b) (bit_xor b c) ≡ bit_xor a c
xor-cancel a b c =
    xor_assoc a b (bit_xor b c)
    ∙ ap (bit_xor a) (sym (xor_assoc b b c) ∙ ap (λ (k : ℕ). bit_xor k c) (xor_self b) ∙ xor_zero_l c)

pub xor-undo : (a b : ℕ) → bit_xor (bit_xor a b) a ≡ b
xor-undo a b = ap (λ (k : ℕ). bit_xor k a) (xor_comm a b) ∙ xor_assoc b a a ∙ ap (bit_xor b) (xor_self a) ∙ xor_zero_r b

pub linear-id : Linear (λ x. x)
linear-id a b = refl

pub linear-xor : (f g : ℕ → ℕ) → Linear f → Linear g → Linear (λ x. bit_xor (f x) (g x))
linear-xor f g p q a b = ap₂ bit_xor (p a b) (q a b) ∙ xor-swap (f a) (f b) (g a) (g b)

pub linear-then : (f g : ℕ → ℕ) → Linear f → Linear g → Linear (λ x. g (f x))
linear-then f g p q a b = ap g (p a b) ∙ q (f a) (f b)

pub linear-shr : (k : ℕ) → Linear (λ x. x / 2 ^ k)
linear-shr k a b = xor_shr a b k

pub linear-mod : (k : ℕ) → Linear (λ x. x % 2 ^ k)
linear-mod k a b = xor_mod a b k

pub linear-scale : (k : ℕ) → Linear (λ x. x * 2 ^ k)
linear-scale k a b =
    sym (ap₂ bit_xor (sym (add-zero (a * 2 ^ k))) (sym (add-zero (b * 2 ^ k))) ∙ xor_block k a b 0 0 (pow_pos k) (pow_pos k) ∙ add-zero (bit_xor a b * 2 ^ k))

-- a shift to the left at a width of w bits
pub linear-shl : (k w : ℕ) → Linear (λ x. x * 2 ^ k % 2 ^ w)
linear-shl k w = linear-then (λ x. x * 2 ^ k) (λ x. x % 2 ^ w) (linear-scale k) (linear-mod w)

pub linear-zero : (f : ℕ → ℕ) → Linear f → f 0 ≡ 0
linear-zero f p = p 0 0 ∙ xor_self (f 0)

-- the test: f and g agree at each power of two below 2^n
abbrev pub agree : (ℕ → ℕ) → (ℕ → ℕ) → ℕ → Bool
agree f g zero = true
agree f g (suc n) = eqb (f (2 ^ n)) (g (2 ^ n)) && agree f g n

high_bit : (x n : ℕ) → x < 2 ^ suc n → x / 2 ^ n < 2
high_bit x n h = (div-lt_iff_lt-mul (pow_pos n)).1 (subst (λ (m : ℕ). x < m) (pow-succ' 2 n) h)

-- what agrees at p agrees at no p and at one
agree-bit : (f g : ℕ → ℕ) → Linear f → Linear g → (p : ℕ) → f p ≡ g p → (d : ℕ) → d < 2 → f (d * p) ≡ g (d * p)
agree-bit f g lf lg p e =
    bit (λ (d : ℕ). f (d * p) ≡ g (d * p))
    (ap f (zero-mul p) ∙ linear-zero f lf ∙ sym (linear-zero g lg) ∙ ap g (sym (zero-mul p)))
    (ap f (one-mul p) ∙ e ∙ ap g (sym (one-mul p)))

below_one : (x : ℕ) → x < 1 → x ≡ 0
below_one x h = omega arith

pub agree-below : (f g : ℕ → ℕ) → Linear f → Linear g → (n : ℕ) → T (agree f g n) → (x : ℕ) → x < 2 ^ n → f x ≡ g x
agree-below f g lf lg zero t x h =
    let z = below_one x h in
    ap f z ∙ linear-zero f lf ∙ sym (linear-zero g lg) ∙ ap g (sym z)
agree-below f g lf lg (suc n) t x h =
    let p = 2 ^ n in
    let here = eqb (f p) (g p) in
    ap f (xor-apart n x)
    ∙ lf (x % p) (x / p * p)
    ∙ ap₂ bit_xor (agree-below f g lf lg n (and_right here (agree f g n) t) (x % p) (mod-lt x (pow_pos n))) (agree-bit f g lf lg p (eqb→eq (f p) (g p) (and_left here (agree f g n) t)) (x / p) (high_bit x n h))
    ∙ sym (lg (x % p) (x / p * p))
    ∙ ap g (sym (xor-apart n x))
