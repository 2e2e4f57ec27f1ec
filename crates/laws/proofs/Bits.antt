-- Laws of exclusive or that `lib.Bits` lacks: it associates, and a number is its low digits and the rest.
-- The check cites both. Assumes nothing.
use mathlib.Core.Path.{◌≡◌, refl, sym, ap, ap₂, ◌∙◌}
use Prim.Native.Nat.{ℕ, zero, suc, ◌+◌, ◌*◌, ◌/◌, ◌%◌, ◌^◌, ◌<◌}
use native.Mathlib.Nat.{mod-lt, zero-lt-suc, not-suc-le-zero, le_of_suc-le-suc, div-add-mod'}
use lib.Arith.{bin_ind}
use lib.Pow.{pow_pos}
use lib.Bits.{bit_xor, differ, xor_step, xor_comm, xor_zero_l, xor_shr, xor_mod, xor_shifted}

-- what holds of both bits holds of each number below 2
pub bit : (P : ℕ → Type 0) → P 0 → P 1 → (x : ℕ) → x < 2 → P x
bit P p q zero h = p
bit P p q (suc zero) h = q
bit P p q (suc (suc x)) h = absurd (not-suc-le-zero (le_of_suc-le-suc (le_of_suc-le-suc h)))

abbrev Assoc : ℕ → ℕ → ℕ → Type 0
Assoc x y z = differ (bit_xor x y) z ≡ differ x (bit_xor y z)

bit-assoc : (x : ℕ) → x < 2 → (y : ℕ) → y < 2 → (z : ℕ) → z < 2 → Assoc x y z
bit-assoc =
    bit (λ (x : ℕ). (y : ℕ) → y < 2 → (z : ℕ) → z < 2 → Assoc x y z)
    (bit (λ (y : ℕ). (z : ℕ) → z < 2 → Assoc 0 y z) (bit (Assoc 0 0) refl refl) (bit (Assoc 0 1) refl refl))
    (bit (λ (y : ℕ). (z : ℕ) → z < 2 → Assoc 1 y z) (bit (Assoc 1 0) refl refl) (bit (Assoc 1 1) refl refl))

pub low_bit : (n : ℕ) → n % 2 < 2
low_bit n = mod-lt n (zero-lt-suc 1)

pub xor_assoc : (a b c : ℕ) → bit_xor (bit_xor a b) c ≡ bit_xor a (bit_xor b c)
xor_assoc =
    bin_ind (λ (a : ℕ). (b c : ℕ) → bit_xor (bit_xor a b) c ≡ bit_xor a (bit_xor b c))
    (λ b c. ap (λ (x : ℕ). bit_xor x c) (xor_zero_l b) ∙ sym (xor_zero_l (bit_xor b c)))
    (λ a ih b c.
    xor_step (bit_xor a b) c
    ∙ ap₂ (λ (x y : ℕ). bit_xor x (c / 2) * 2 + differ y (c % 2)) (xor_shr a b 1) (xor_mod a b 1)
    ∙ ap₂ (λ (x y : ℕ). x * 2 + y) (ih (b / 2) (c / 2)) (bit-assoc (a % 2) (low_bit a) (b % 2) (low_bit b) (c % 2) (low_bit c))
    ∙ sym (ap₂ (λ (x y : ℕ). bit_xor (a / 2) x * 2 + differ (a % 2) y) (xor_shr b c 1) (xor_mod b c 1))
    ∙ sym (xor_step a (bit_xor b c)))

-- a number is its k low digits and what lies above them
pub xor-apart : (k w : ℕ) → w ≡ bit_xor (w % 2 ^ k) (w / 2 ^ k * 2 ^ k)
xor-apart k w =
    sym
    (xor_comm (w % 2 ^ k) (w / 2 ^ k * 2 ^ k)
    ∙ xor_shifted (w / 2 ^ k) k (w % 2 ^ k) (mod-lt w (pow_pos k))
    ∙ div-add-mod' w (2 ^ k))
