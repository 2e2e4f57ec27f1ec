-- Laws of words: their bytes, and pieces copied in. Assumes nothing.
use mathlib.Core.Path.{◌≡◌, refl, sym, ap, ap₂, ◌∙◌}
use mathlib.Core.List.{List, [], ◌∷◌, ◌++◌}
use Prim.Native.Nat.{ℕ, zero, suc, ◌+◌, ◌*◌, ◌/◌, ◌%◌, ◌-◌, ◌≤◌, ◌<◌}
use native.Mathlib.Nat.{zero-mul, suc-mul, add_comm}
use native.Mathlib.Omega.{arith}
use borrow.Author.Tests.{eq-eqb, lt-ltb, le-ltb}
use lib.ListN.{length, length-append, get_or, take, drop}
use lib.Seq.{get_or-take, get_or-drop, drop-drop}
use Rattle.std.specs.Simd.{first_chunks}
use lib.Seq.{get_or-take, get_or-drop, paste, length-paste}
use Rattle.laws.specs.Bytes.{Bytes, laid_over}
use Rattle.laws.proofs.Lay.{length-laid_over, laid_over-paste, paste-append}
use Rattle.words.specs.Words.{le_of, number_of, digits, put_of, copied_in}

-- just n bytes have their number
pub number_is : (n : ℕ) (b : List ℕ) → length b ≡ n → number_of n b ≡ le_of b
number_is n b e = rw (eq-eqb (length b) n e)

-- the bytes of the number of bytes are those bytes
pub digits_of : (bs : List ℕ) → Bytes bs → digits (length bs) (le_of bs) ≡ bs
digits_of [] h = refl
digits_of (b ∷ bs) h =
    ap₂ (λ (x : ℕ) (xs : List ℕ). x ∷ xs) (low (le_of bs) b (h 0)) (ap (digits (length bs)) (high (le_of bs) b (h 0)) ∙ digits_of bs (λ i. h (suc i)))
  where
    low : (l b : ℕ) → b < 256 → (l * 256 + b) % 256 ≡ b
    low l b h = omega arith

    high : (l b : ℕ) → b < 256 → (l * 256 + b) / 256 ≡ l
    high l b h = omega arith

pub put_is : (d : List ℕ) (x : ℕ) → length d ≡ 8 → put_of d x ≡ digits 8 x
put_is d x e = rw (eq-eqb (length d) 8 e)

-- a piece that fits, and one that does not
pub copied_in-fits : (d : List ℕ) (at : ℕ) (s : List ℕ) → at + length s ≤ length d → copied_in d at s ≡ paste d at s (length s)
unfolding copied_in
copied_in-fits d at s h = rw (le-ltb (length d) (at + length s) h)

pub copied_in-over : (d : List ℕ) (at : ℕ) (s : List ℕ) → length d < at + length s → copied_in d at s ≡ d
unfolding copied_in
copied_in-over d at s h = rw (lt-ltb (length d) (at + length s) h)

-- a piece copied in behind what is written, and behind another copied in: the encoders' copies cite these
pub copied_in-laid_over : (xs ys out : List ℕ) → length xs + length ys ≤ length out → copied_in (laid_over xs out) (length xs) ys ≡ laid_over (xs ++ ys) out
copied_in-laid_over xs ys out h =
    copied_in-fits (laid_over xs out) (length xs) ys (omega (arith, length-laid_over xs out (omega arith)))
    ∙ laid_over-paste xs ys out

pub copied_in-append : (d : List ℕ) (at : ℕ) (xs ys : List ℕ) → at + length xs + length ys ≤ length d
    → copied_in (copied_in d at xs) (at + length xs) ys ≡ copied_in d at (xs ++ ys)
copied_in-append d at xs ys h =
    let p = paste d at xs (length xs) in
    let l : length p ≡ length d = length-paste d at xs (length xs) (omega arith) (omega arith) in
    rw (copied_in-fits d at xs (omega arith), copied_in-fits p (at + length xs) ys (omega arith), copied_in-fits d at (xs ++ ys) (simp length-append (omega arith)))
    (paste-append d at xs ys (omega arith))

-- the chunk at a place, of those that a slice is cut into
pub chunk-at : (n k i : ℕ) (xs d : List ℕ) → i < k → get_or (first_chunks n k xs) i d ≡ take n (drop (i * n) xs)
chunk-at n zero i xs d h = absurd (omega arith)
chunk-at n (suc k) zero xs d h = rw zero-mul
chunk-at n (suc k) (suc i) xs d h = chunk-at n k i (drop n xs) d (omega arith) ∙ ap (take n) (drop-drop (i * n) n xs ∙ ap (λ (m : ℕ). drop m xs) (sym (suc-mul i n ∙ add_comm (i * n) n)))

-- .. and of those from the k-th on
pub chunk-from : (n m k i : ℕ) (xs d : List ℕ) (cs : List (List ℕ)) → cs ≡ first_chunks n m xs → length cs ≡ m → i < length cs - k
    → get_or (take (length cs - k) (drop k cs)) i d ≡ take n (drop ((k + i) * n) xs)
chunk-from n m k i xs d cs e l h =
    rw (get_or-take, get_or-drop) (ap (λ (ys : List (List ℕ)). get_or ys (k + i) d) e ∙ chunk-at n m (k + i) xs d (omega arith))
