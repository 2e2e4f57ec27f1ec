-- Laws of searches in a list of keys: bounds, and what each search of std gives. Assumes nothing.
use mathlib.Core.Path.{◌≡◌, refl, ap}
use Prim.Native.Nat.{ℕ, zero, suc, ◌≤◌, ◌<◌}
use mathlib.Core.Bool.{Bool, true, false, cond, not, ◌&&◌, ◌||◌}
use mathlib.Core.List.{List, [], ◌∷◌}
use native.Mathlib.Omega.{arith}
use lib.ListN.{length, get_or}
use lib.Dec.{eqb, ltb}
use borrow.Author.Tests.{eqb-true, eqb-false, le-ltb}
use Rattle.std.specs.List.{list_any, position_or_len, zip}
use Rattle.std.proofs.lemmas.List.Recursion.{is_position_or_len}
use Rattle.tables.specs.Keys.{first_of, any_over, over_of}

-- a place or the number of places
pub first-le : (l : List ℕ) (k : ℕ) → first_of l k ≤ length l
unfolding first_of
first-le [] k = omega arith
first-le (x ∷ xs) k = go (eqb x k) (first-le xs k)
  where
    go : (t : Bool) → first_of xs k ≤ length xs → cond t 0 (suc (first_of xs k)) ≤ suc (length xs)
    go true h = omega arith
    go false h = omega arith

-- a place so found has the key
pub first_holds : (l : List ℕ) (k : ℕ) → first_of l k < length l → get_or l (first_of l k) 0 ≡ k
unfolding first_of
first_holds [] k h = absurd (omega arith)
first_holds (x ∷ xs) k h = go (eqb x k) refl (first_holds xs k) h
  where
    go : (t : Bool) → eqb x k ≡ t → (first_of xs k < length xs → get_or xs (first_of xs k) 0 ≡ k) → cond t 0 (suc (first_of xs k)) < suc (length xs) → get_or (x ∷ xs) (cond t 0 (suc (first_of xs k))) 0 ≡ k
    go true e r h = eqb-true x k e
    go false e r h = r (omega arith)

-- no place before it has
pub first-first : (l : List ℕ) (k i : ℕ) → i < first_of l k → get_or l i 0 ≡ k → ⊥
unfolding first_of
first-first [] k i h e = omega arith
first-first (x ∷ xs) k i h e = go (eqb x k) refl (first-first xs k) i h e
  where
    go : (t : Bool) → eqb x k ≡ t → ((i : ℕ) → i < first_of xs k → get_or xs i 0 ≡ k → ⊥) → (i : ℕ) → i < cond t 0 (suc (first_of xs k)) → get_or (x ∷ xs) i 0 ≡ k → ⊥
    go true q r i h e = omega arith
    go false q r zero h e = eqb-false x k q e
    go false q r (suc i) h e = r i (omega arith) e

-- what a search by the key gives (`position`) is that place
pub first-position : (l : List ℕ) (k : ℕ) → first_of l k ≡ position_or_len (λ x. eqb x k) l
unfolding first_of
first-position l k =
    is_position_or_len (λ xs. first_of xs k) (λ x. eqb x k) refl (λ x xs. ap (cond (eqb x k) 0) (omega arith)) l

-- .. and what a look for a length over the limit gives (`any`)
pub any-list : (l : List ℕ) (limit : ℕ) → any_over l limit ≡ list_any (λ n. ltb limit n) l
unfolding any_over
any-list [] limit = refl
any-list (n ∷ ns) limit = rw (any-list ns limit) (go (ltb limit n))
  where
    go : (t : Bool) → cond t true (list_any (λ n. ltb limit n) ns) ≡ (t || list_any (λ n. ltb limit n) ns)
    go true = refl
    go false = refl

-- with no length over the limit no held place has one
pub over_none : (keys lengths : List ℕ) (limit : ℕ) → any_over lengths limit ≡ false → over_of keys lengths limit ≡ false
unfolding any_over over_of
over_none [] lengths limit h = refl
over_none (k ∷ ks) [] limit h = rw (le-ltb limit 0 (omega arith)) (go (eqb k 0) (over_none ks [] limit refl))
  where
    go : (b : Bool) → over_of ks [] limit ≡ false → cond (not b && false) true (over_of ks [] limit) ≡ false
    go true e = e
    go false e = e
over_none (k ∷ ks) (n ∷ ns) limit h = go (eqb k 0) (ltb limit n) h (over_none ks ns limit)
  where
    go : (b t : Bool) → cond t true (any_over ns limit) ≡ false → (any_over ns limit ≡ false → over_of ks ns limit ≡ false) → cond (not b && t) true (over_of ks ns limit) ≡ false
    go true true e r = absurd (let z : ◌≡◌ {A = Bool} true false = e in let y : ◌≡◌ {A = ℕ} 0 1 = cc in omega arith)
    go false true e r = e
    go true false e r = r e
    go false false e r = r e

-- what a look over keys and lengths side by side gives: behind the last length no place is over
pub over-pairs : (keys lengths : List ℕ) (limit : ℕ) → over_of keys lengths limit ≡ list_any (λ p. not (eqb p.0 0) && ltb limit p.1) (zip keys lengths)
unfolding over_of any_over
over-pairs [] lengths limit = refl
over-pairs (k ∷ ks) [] limit = over_none (k ∷ ks) [] limit refl
over-pairs (k ∷ ks) (n ∷ ns) limit = rw (over-pairs ks ns limit) (go (not (eqb k 0) && ltb limit n))
  where
    go : (t : Bool) → cond t true (list_any (λ p. not (eqb p.0 0) && ltb limit p.1) (zip ks ns)) ≡ (t || list_any (λ p. not (eqb p.0 0) && ltb limit p.1) (zip ks ns))
    go true = refl
    go false = refl
