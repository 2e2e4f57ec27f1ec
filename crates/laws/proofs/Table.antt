-- A rule that holds at every entry of a table, from one test that antt computes over the whole table.
-- The table of the check and the table of marked cases cite `entry`. Assumes nothing.
use mathlib.Core.Path.{◌∙◌, subst, sym}
use mathlib.Core.Bool.{Bool, true, false, ◌&&◌}
use mathlib.Core.List.{List, [], ◌∷◌}
use Prim.Native.Nat.{ℕ, zero, suc, ◌+◌, ◌<◌}
use native.Mathlib.Nat.{add-zero, zero-add, add-suc, suc-add, le_of_suc-le-suc, not-suc-le-zero}
use lib.Dec.{T}
use lib.ListN.{length, get_or}

pub and_left : (a b : Bool) → T (a && b) → T a
and_left true b t = tt
and_left false b t = t

pub and_right : (a b : Bool) → T (a && b) → T b
and_right true b t = t
and_right false b t = absurd t

module _ {A : Type 0} (test : ℕ → A → Bool) where
  -- the test passes at each entry, given its place counted from i
  abbrev pub every : ℕ → List A → Bool
  every i [] = true
  every i (x ∷ xs) = test i x && every (suc i) xs

  every-from : (d : A) (xs : List A) (i : ℕ) → T (every i xs) → (k : ℕ) → k < length xs → T (test (i + k) (get_or xs k d))
  every-from d [] i t k h = absurd (not-suc-le-zero h)
  every-from d (x ∷ xs) i t zero h = subst (λ (m : ℕ). T (test m x)) (sym (add-zero i)) (and_left (test i x) (every (suc i) xs) t)
  every-from d (x ∷ xs) i t (suc k) h =
      subst (λ (m : ℕ). T (test m (get_or xs k d))) (suc-add i k ∙ sym (add-suc i k))
      (every-from d xs (suc i) (and_right (test i x) (every (suc i) xs) t) k (le_of_suc-le-suc h))

  -- a test passed by the whole table is passed at each place of it
  pub entry : (d : A) (xs : List A) → T (every 0 xs) → (k : ℕ) → k < length xs → T (test k (get_or xs k d))
  entry d xs t k h = subst (λ (m : ℕ). T (test m (get_or xs k d))) (zero-add k) (every-from d xs 0 t k h)
