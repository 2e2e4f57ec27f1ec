-- The length needed, counted by the ones of the masked status word, is the sum of its fields for every word. Assumes nothing.
use Rattle.std.proofs.Common.{◌≡◌, ℕ, zero, suc, ◌%◌, ◌^◌, ◌<◌, ◌≤◌, Bool, true, false, cond, T, eqb, leb, ◌⊎◌, sym, ap, ◌∙◌, subst, inl, inr, le_of_suc-le-suc, lt_of_le_of_lt, mod-lt, mod-eq_of_lt, eq-or-lt_of_le, arith, eqb→eq, leb→le}
use lib.Bits.{bit_and, and_mod, and_le_r}
use lib.Count.{ones, ones_in}
use Rattle.transport.specs.Status.{clear, needed_of, needed_by_ones}

-- a mask below 32 sees the low five bits alone
and_low : (s m : ℕ) → m < 2 ^ 5 → bit_and s m ≡ bit_and (s % 2 ^ 5) m
and_low s m h =
    sym (mod-eq_of_lt (lt_of_le_of_lt (and_le_r s m) h))
    ∙ and_mod s m 5
    ∙ ap (λ (x : ℕ). bit_and (s % 2 ^ 5) x) (mod-eq_of_lt h)

-- a test that holds below n
abbrev all_below : (ℕ → Bool) → ℕ → Bool
all_below p zero = true
all_below p (suc n) = cond (p n) (all_below p n) false

first_of : (a b : Bool) → T (cond a b false) → T a
first_of true b h = tt
first_of false b h = absurd h

rest_of : (a b : Bool) → T (cond a b false) → T b
rest_of true b h = h
rest_of false b h = absurd h

below : (p : ℕ → Bool) (n : ℕ) → T (all_below p n) → (k : ℕ) → k < n → T (p k)
below p zero h k l = absurd (omega arith)
below p (suc n) h k l = go (below p n (rest_of (p n) (all_below p n) h) k) (eq-or-lt_of_le (le_of_suc-le-suc l))
  where
    go : (k < n → T (p k)) → (k ≡ n) ⊎ (k < n) → T (p k)
    go r (inl e) = subst (λ (x : ℕ). T (p x)) (sym e) (first_of (p n) (all_below p n) h)
    go r (inr l) = r l

agrees : ℕ → Bool
unfolding needed_of ones ones_in
agrees s = eqb (needed_by_ones s) (needed_of s)

needed-low : (k : ℕ) → k < 2 ^ 5 → needed_by_ones k ≡ needed_of k
unfolding agrees needed_of ones ones_in
needed-low k h = eqb→eq (needed_by_ones k) (needed_of k) (below agrees 32 tt k h)

-- 12 less the ones among 0x13 less twice the ones among 0x0c is the sum of the fields: `needed` cites this
pub needed-by-ones : (s : ℕ) → needed_by_ones s ≡ needed_of s
unfolding needed_of
needed-by-ones s =
    rw (and_low s 0x13 (omega arith), and_low s 0x0c (omega arith), and_low s 0x01 (omega arith), and_low s 0x02 (omega arith), and_low s 0x04 (omega arith), and_low s 0x08 (omega arith), and_low s 0x10 (omega arith))
    (needed-low (s % 2 ^ 5) (mod-lt s (omega arith)))

abbrev few_below : ℕ → ℕ → Bool
unfolding ones ones_in
few_below m n = all_below (λ k. leb (ones (bit_and k m)) n) 32

few : (m n : ℕ) → m < 2 ^ 5 → T (few_below m n) → (s : ℕ) → ones (bit_and s m) ≤ n
unfolding ones ones_in
few m n h t s = rw (and_low s m h) (leb→le (ones (bit_and (s % 2 ^ 5) m)) n (below (λ k. leb (ones (bit_and k m)) n) 32 t (s % 2 ^ 5) (mod-lt s (omega arith))))

-- so the subtractions of `needed` stay above 0
pub ones-13 : (s : ℕ) → ones (bit_and s 0x13) ≤ 3
unfolding ones ones_in
ones-13 = few 0x13 3 (omega arith) tt

pub ones-0c : (s : ℕ) → ones (bit_and s 0x0c) ≤ 2
unfolding ones ones_in
ones-0c = few 0x0c 2 (omega arith) tt

pub one-or-two : (b : Bool) → (1 ≤ cond b 2 1) × (cond b 2 1 ≤ 2)
one-or-two true = (omega arith, omega arith)
one-or-two false = (omega arith, omega arith)

-- a response is at least 5 bytes long, whatever its status word
pub needed-least : (s : ℕ) → 5 ≤ needed_of s
unfolding needed_of
needed-least s = omega (arith, one-or-two (clear s 0x10))

pub needed-most : (s : ℕ) → needed_of s ≤ 12
needed-most s = omega (arith, needed-by-ones s)
