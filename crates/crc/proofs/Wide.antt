-- The maps of the wide check, by the polynomial's powers. Division by the first power is multiplication by the first, second, fourth and eighth
-- (`by1` to `by8`): each squared is the next, and the eighth squared is nothing but the number. Assumes nothing.
use mathlib.Core.Path.{◌≡◌, refl, sym, ap, ap₂, ◌∙◌}
use Prim.Native.Nat.{ℕ, ◌*◌, ◌/◌, ◌%◌, ◌^◌, ◌<◌}
use native.Mathlib.Nat.{mod-lt}
use lib.Pow.{pow_pos}
use lib.Bits.{bit_xor, xor_self, xor_zero_l, xor_comm, xor_lt}
use Rattle.laws.proofs.Bits.{xor_assoc}
use Rattle.laws.proofs.Linear.{Linear, xor-swap, xor-undo, linear-id, linear-xor, linear-then, linear-shl, agree-below}
use Rattle.crc.specs.Crc.{crc_bits}
use Rattle.crc.proofs.Powers.{linear-crc_bits, crc_bits-left, power-1, power-4}

abbrev pub shl : ℕ → ℕ → ℕ
shl k x = x * 2 ^ k % 2 ^ 64

-- f with a shift taken in
abbrev with-shl : ℕ → (ℕ → ℕ) → ℕ → ℕ
with-shl k f x = bit_xor (f x) (shl k x)

linear-with : (k : ℕ) (f : ℕ → ℕ) → Linear f → Linear (with-shl k f)
linear-with k f p = linear-xor f (shl k) p (linear-shl k 64)

pub shl_lt : (k x : ℕ) → shl k x < 2 ^ 64
shl_lt k x = mod-lt (x * 2 ^ k) (pow_pos 64)

abbrev same : ℕ → ℕ
same x = x

abbrev pub by8 : ℕ → ℕ
by8 = with-shl 32 same

abbrev pub by4 : ℕ → ℕ
by4 = with-shl 44 (with-shl 16 same)

abbrev by2 : ℕ → ℕ
by2 = with-shl 32 (with-shl 22 (with-shl 8 same))

abbrev by1 : ℕ → ℕ
by1 = with-shl 16 (with-shl 11 (with-shl 4 same))

linear-by8 : Linear by8
linear-by8 = linear-with 32 same linear-id

linear-by4 : Linear by4
linear-by4 = linear-with 44 (with-shl 16 same) (linear-with 16 same linear-id)

linear-by2 : Linear by2
linear-by2 = linear-with 32 (with-shl 22 (with-shl 8 same)) (linear-with 22 (with-shl 8 same) (linear-with 8 same linear-id))

linear-by1 : Linear by1
linear-by1 = linear-with 16 (with-shl 11 (with-shl 4 same)) (linear-with 11 (with-shl 4 same) (linear-with 4 same linear-id))

pub by8-by8 : (x : ℕ) → x < 2 ^ 64 → by8 (by8 x) ≡ x
by8-by8 = agree-below (λ x. by8 (by8 x)) same (linear-then by8 by8 linear-by8 linear-by8) linear-id 64 tt

by4-by4 : (x : ℕ) → x < 2 ^ 64 → by4 (by4 x) ≡ by8 x
by4-by4 = agree-below (λ x. by4 (by4 x)) by8 (linear-then by4 by4 linear-by4 linear-by4) linear-by8 64 tt

by2-by2 : (x : ℕ) → x < 2 ^ 64 → by2 (by2 x) ≡ by4 x
by2-by2 = agree-below (λ x. by2 (by2 x)) by4 (linear-then by2 by2 linear-by2 linear-by2) linear-by4 64 tt

by1-by1 : (x : ℕ) → x < 2 ^ 64 → by1 (by1 x) ≡ by2 x
by1-by1 = agree-below (λ x. by1 (by1 x)) by2 (linear-then by1 by1 linear-by1 linear-by1) linear-by2 64 tt

pub by8-lt : (x : ℕ) → x < 2 ^ 64 → by8 x < 2 ^ 64
by8-lt x h = xor_lt 64 x (shl 32 x) h (shl_lt 32 x)

by4-lt : (x : ℕ) → x < 2 ^ 64 → by4 x < 2 ^ 64
by4-lt x h = xor_lt 64 (bit_xor x (shl 16 x)) (shl 44 x) (xor_lt 64 x (shl 16 x) h (shl_lt 16 x)) (shl_lt 44 x)

three-lt : (a b c x : ℕ) → x < 2 ^ 64 → bit_xor (bit_xor (bit_xor x (shl a x)) (shl b x)) (shl c x) < 2 ^ 64
three-lt a b c x h =
    xor_lt 64 (bit_xor (bit_xor x (shl a x)) (shl b x)) (shl c x)
    (xor_lt 64 (bit_xor x (shl a x)) (shl b x) (xor_lt 64 x (shl a x) h (shl_lt a x)) (shl_lt b x)) (shl_lt c x)

-- the quotients by the fourth power and by the first
abbrev fourth : ℕ → ℕ
fourth x = by4 (by8 x)

by4-fourth : (x : ℕ) → x < 2 ^ 64 → by4 (fourth x) ≡ x
by4-fourth x h = by4-by4 (by8 x) (by8-lt x h) ∙ by8-by8 x h

fourth-lt : (x : ℕ) → x < 2 ^ 64 → fourth x < 2 ^ 64
fourth-lt x h = by4-lt (by8 x) (by8-lt x h)

abbrev first : ℕ → ℕ
first x = by1 (by2 (fourth x))

by1-first : (x : ℕ) → x < 2 ^ 64 → by1 (first x) ≡ x
by1-first x h =
    by1-by1 (by2 (fourth x)) (three-lt 8 22 32 (fourth x) (fourth-lt x h)) ∙ by2-by2 (fourth x) (fourth-lt x h) ∙ by4-fourth x h

first-lt : (x : ℕ) → x < 2 ^ 64 → first x < 2 ^ 64
first-lt x h = three-lt 4 11 16 (by2 (fourth x)) (three-lt 8 22 32 (fourth x) (fourth-lt x h))

-- what a quotient by the fourth power leaves
crc_bits-by4 : (q : ℕ) → q < 2 ^ 64 → crc_bits 128 (by4 q) ≡ crc_bits 64 (bit_xor (bit_xor q (q / 2 ^ 20)) (q / 2 ^ 48))
crc_bits-by4 q h =
    let l = crc_bits 84 q in
    let s = crc_bits 64 q in
    let b = crc_bits 64 (q / 2 ^ 48) in
    let c = crc_bits 64 (q / 2 ^ 20) in
    linear-crc_bits 128 (bit_xor q (shl 16 q)) (shl 44 q)
    ∙ ap₂ bit_xor (linear-crc_bits 128 q (shl 16 q) ∙ ap (bit_xor (crc_bits 128 q)) (crc_bits-left 48 16 64 q refl) ∙ sym (xor_assoc (crc_bits 128 q) (crc_bits 112 q) b) ∙ ap (λ (y : ℕ). bit_xor y b) (power-4 q h)) (crc_bits-left 20 44 64 q refl)
    ∙ xor-swap (bit_xor l s) b l c
    ∙ ap₂ bit_xor (xor-undo l s) (xor_comm b c)
    ∙ sym (xor_assoc s c b)
    ∙ sym (linear-crc_bits 64 (bit_xor q (q / 2 ^ 20)) (q / 2 ^ 48) ∙ ap (λ (y : ℕ). bit_xor y b) (linear-crc_bits 64 q (q / 2 ^ 20)))

abbrev folded : ℕ → ℕ
folded x = bit_xor (bit_xor (fourth x) (fourth x / 2 ^ 20)) (fourth x / 2 ^ 48)

-- `fold` cites this
pub crc_bits-folded : (x : ℕ) → x < 2 ^ 64 → crc_bits 64 (folded x) ≡ crc_bits 128 x
crc_bits-folded x h = sym (crc_bits-by4 (fourth x) (fourth-lt x h)) ∙ ap (crc_bits 128) (by4-fourth x h)

-- and by the first
crc_bits-by1 : (q : ℕ) → q < 2 ^ 64 → crc_bits 64 (by1 q) ≡ bit_xor (bit_xor (q / 2 ^ 60) (q / 2 ^ 53)) (q / 2 ^ 48)
crc_bits-by1 q h =
    let a = q / 2 ^ 60 in
    let b = q / 2 ^ 53 in
    let c = q / 2 ^ 48 in
    let l = crc_bits 53 q in
    let m = crc_bits 48 q in
    linear-crc_bits 64 (bit_xor (bit_xor q (shl 4 q)) (shl 11 q)) (shl 16 q)
    ∙ ap (λ (y : ℕ). bit_xor y (crc_bits 64 (shl 16 q))) (linear-crc_bits 64 (bit_xor q (shl 4 q)) (shl 11 q) ∙ ap (λ (y : ℕ). bit_xor y (crc_bits 64 (shl 11 q))) (linear-crc_bits 64 q (shl 4 q)))
    ∙ ap₂ (λ (y z : ℕ). bit_xor (bit_xor y (crc_bits 64 (shl 11 q))) z) (ap (bit_xor (crc_bits 64 q)) (crc_bits-left 60 4 0 q refl) ∙ sym (xor_assoc (crc_bits 64 q) (crc_bits 60 q) a) ∙ ap (λ (y : ℕ). bit_xor y a) (power-1 q h)) (crc_bits-left 48 16 0 q refl)
    ∙ ap (λ (y : ℕ). bit_xor y (bit_xor m c)) (ap (bit_xor (bit_xor (bit_xor l m) a)) (crc_bits-left 53 11 0 q refl) ∙ xor-swap (bit_xor l m) a l b ∙ ap (λ (y : ℕ). bit_xor y (bit_xor a b)) (xor-undo l m))
    ∙ xor-swap m (bit_xor a b) m c
    ∙ ap (λ (y : ℕ). bit_xor y (bit_xor (bit_xor a b) c)) (xor_self m)
    ∙ xor_zero_l (bit_xor (bit_xor a b) c)

abbrev settled : ℕ → ℕ
settled x = bit_xor (bit_xor (first x / 2 ^ 60) (first x / 2 ^ 53)) (first x / 2 ^ 48)

-- `settle` cites this
pub crc_bits-settled : (x : ℕ) → x < 2 ^ 64 → settled x ≡ crc_bits 64 x
crc_bits-settled x h = sym (crc_bits-by1 (first x) (first-lt x h)) ∙ ap (crc_bits 64) (by1-first x h)
