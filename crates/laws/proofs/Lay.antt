-- Bytes laid over a buffer, piece by piece: the encoders' loops and copies cite these. Assumes nothing.
use mathlib.Core.Path.{◌≡◌, sym, ap, ◌∙◌}
use mathlib.Core.List.{List, ◌++◌, append_assoc, append-nil}
use Prim.Native.Nat.{ℕ, ◌+◌, ◌-◌, ◌≤◌}
use borrow.Rule.Slice.PartMut.{put_mid, mid_of}
use native.Mathlib.Omega.{arith}
use lib.ListN.{length, take, drop, length-append, length-drop, take-append-drop, drop_of_length-le}
use lib.Seq.{take_all, paste, take-paste, drop-paste, take-append_seam, drop-append-add, drop-drop, take-length, drop-append-le}
use Rattle.laws.specs.Bytes.{laid_over}

-- what is written fits, so the buffer keeps its length
pub length-laid_over : (xs out : List ℕ) → length xs ≤ length out → length (laid_over xs out) ≡ length out
length-laid_over xs out h = simp (length-append, length-drop) (omega arith)

-- a piece laid over the part of the buffer behind what is written
pub laid_over-append : (xs ys out : List ℕ) → xs ++ laid_over ys (drop (length xs) out) ≡ laid_over (xs ++ ys) out
laid_over-append xs ys out = rw (drop-drop, length-append, append_assoc)

-- a piece laid over the first n bytes of a buffer, with what stands behind those
pub laid_over-take : (ys out : List ℕ) (n : ℕ) → length ys ≤ length (take n out) → laid_over ys (take n out) ++ drop n out ≡ laid_over ys out
laid_over-take ys out n h =
    append_assoc ys (drop (length ys) (take n out)) (drop n out)
    ∙ ap (λ (l : List ℕ). ys ++ l) (sym (drop-append-le (length ys) (take n out) (drop n out) h) ∙ ap (drop (length ys)) (take-append-drop n out))

-- a piece copied in behind what is written
pub laid_over-paste : (xs ys out : List ℕ) → paste (laid_over xs out) (length xs) ys (length ys) ≡ laid_over (xs ++ ys) out
laid_over-paste xs ys out = rw (take-append_seam, take-length, drop-append-add, drop-drop, length-append, append_assoc)

-- a piece copied in behind another is one copy of both: the body of a command cites this
pub paste-append : (d : List ℕ) (at : ℕ) (xs ys : List ℕ) → at ≤ length d
    → paste (paste d at xs (length xs)) (at + length xs) ys (length ys) ≡ paste d at (xs ++ ys) (length (xs ++ ys))
paste-append d at xs ys h =
    let le : length xs ≤ length xs = omega arith in
    let e : at + length xs + length ys ≡ at + length (xs ++ ys) = simp length-append (omega arith) in
    rw (
      take-paste d at xs (length xs) h le,
      ← drop-drop (length ys) (at + length xs) (paste d at xs (length xs)),
      drop-paste d at xs (length xs) h le,
      drop-drop (length ys) (at + length xs) d,
      e,
      take-length xs,
      take-length ys,
      take-length (xs ++ ys),
    )
    (ap (λ (l : List ℕ). l ++ drop (at + length (xs ++ ys)) d) (append_assoc (take at d) xs ys))
