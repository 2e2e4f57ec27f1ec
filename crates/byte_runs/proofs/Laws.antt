-- Laws of runs. Assumes nothing.
use mathlib.Core.Path.{◌≡◌, refl, sym, ap, ap₂, ◌∙◌, subst}
use mathlib.Core.Bool.{Bool, true, false, cond}
use mathlib.Core.List.{List, [], ◌∷◌}
use Prim.Native.Nat.{ℕ, zero, suc, ◌+◌, ◌-◌, ◌≤◌, ◌<◌, zero-le, suc-le-suc}
use native.Mathlib.Nat.{not-suc-le-zero, le_refl, le_of_suc-le-suc, zero-lt-suc, add-zero, add-suc, add_assoc, lt_of_lt_of_le}
use native.Mathlib.Numerals.{add-one}
use native.Mathlib.Omega.{arith}
use borrow.Author.Tests.{ltb-true, ltb-false}
use lib.Dec.{ltb}
use lib.ListN.{length, get_or, set, take, drop, length-set, length-take, length-drop, drop_of_length-le}
use lib.Seq.{get_or-take, get_or-drop, take-nil, paste, paste-zero, paste-suc}
use Rattle.std.specs.List.{prefix_len}
use Rattle.std.specs.Prelude.{min}
use Rattle.std.proofs.Math.Nat.{min-le_left, min-le_right, le-min}
use Rattle.byte_runs.specs.Runs.{lead, All, laid}

split : {P : Type 0} (a b : ℕ) (t : Bool) → ltb a b ≡ t → (a < b → P) → (b ≤ a → P) → P
split a b true e f g = f (ltb-true a b e)
split a b false e f g = g (ltb-false a b e)

cases : {P : Type 0} (a b : ℕ) → (a < b → P) → (b ≤ a → P) → P
cases a b f g = split a b (ltb a b) refl f g

add-rest : (i m k : ℕ) → m ≤ k → i + m + (k - m) ≡ i + k
add-rest i m k h = omega arith

-- two runs on end are one: the loops of eight cite this
pub all-add : (p : ℕ → Bool) (s : List ℕ) (i m n : ℕ) → All p s i m → All p s (i + m) n → All p s i (m + n)
all-add p s i m n f g k h =
    cases {P = p (get_or s (i + k) 0) ≡ true} k m (λ u. f k u)
    (λ u. subst (λ (x : ℕ). p (get_or s x 0) ≡ true) (add-rest i m k u) (g (k - m) (omega arith)))

-- a run of a list is as long as it goes
lead_is : (p : ℕ → Bool) (xs : List ℕ) (m : ℕ) → m ≤ length xs → ((k : ℕ) → k < m → p (get_or xs k 0) ≡ true) → (m < length xs → p (get_or xs m 0) ≡ false) → lead p xs ≡ m
unfolding lead
lead_is p [] zero h f g = refl
lead_is p [] (suc m) h f g = absurd (not-suc-le-zero h)
lead_is p (x ∷ xs) zero h f g = rw (g (zero-lt-suc (length xs)))
lead_is p (x ∷ xs) (suc m) h f g =
    rw (f zero (zero-lt-suc m)) (ap suc (lead_is p xs m (le_of_suc-le-suc h) (λ k u. f (suc k) (suc-le-suc u)) (λ u. g (suc-le-suc u))))

-- `run` cites this
pub lead-drop : (p : ℕ → Bool) (s : List ℕ) (i m : ℕ) → i + m ≤ length s → All p s i m → (i + m < length s → p (get_or s (i + m) 0) ≡ false) → lead p (drop i s) ≡ m
lead-drop p s i m h f g =
    lead_is p (drop i s) m (simp length-drop (omega arith)) (λ k u. simp get_or-drop (f k u))
    (λ u. simp get_or-drop (g (omega (arith, simp length-drop at u))))

-- and `copy_run` this
pub lead-take : (p : ℕ → Bool) (s : List ℕ) (i n m : ℕ) → m ≤ n → i + m ≤ length s → All p s i m → (m < n → i + m < length s → p (get_or s (i + m) 0) ≡ false) → lead p (take n (drop i s)) ≡ m
lead-take p s i n m hn h f g =
    lead_is p (take n (drop i s)) m (simp (length-take, length-drop) (omega arith))
    (λ k u. let v : k < n = lt_of_lt_of_le u hn in rw (get_or-take, get_or-drop) (f k u))
    (λ u.
    let v : m < n = omega (arith, simp (length-take, length-drop) at u) in
    rw (get_or-take, get_or-drop) (g v (omega (arith, simp (length-take, length-drop) at u))))

pub length-laid : (d : List ℕ) (l : ℕ) (s : List ℕ) (i m : ℕ) → length (laid d l s i m) ≡ length d
length-laid d l s i zero = refl
length-laid d l s i (suc m) = length-set (laid d l s i m) (l + m) (get_or s (i + m) 0) ∙ length-laid d l s i m

pub laid_more : (d : List ℕ) (l : ℕ) (s : List ℕ) (i m : ℕ) → set (laid d l s i m) (l + m) (get_or s (i + m) 0) ≡ laid d l s i (m + 1)
laid_more d l s i m = ap (laid d l s i) (sym (add-one m))

pub laid-add : (d : List ℕ) (l : ℕ) (s : List ℕ) (i m n : ℕ) → laid (laid d l s i m) (l + m) s (i + m) n ≡ laid d l s i (m + n)
laid-add d l s i m zero = ap (laid d l s i) (sym (add-zero m))
laid-add d l s i m (suc n) =
    ap₂ (λ (p q : ℕ). set (laid (laid d l s i m) (l + m) s (i + m) n) p (get_or s q 0)) (add_assoc l m n) (add_assoc i m n)
    ∙ ap (λ (x : List ℕ). set x (l + (m + n)) (get_or s (i + (m + n)) 0)) (laid-add d l s i m n)
    ∙ ap (laid d l s i) (sym (add-suc m n))

-- what is laid byte by byte is pasted
pub laid-paste : (d : List ℕ) (l : ℕ) (s : List ℕ) (i m : ℕ) → l + m ≤ length d → i + m ≤ length s → laid d l s i m ≡ paste d l (drop i s) m
laid-paste d l s i zero h g = paste-zero d l (drop i s)
laid-paste d l s i (suc m) h g =
    let hm : l + m < length d = omega (arith, add-suc l m) in
    let gm : i + m < length s = omega (arith, add-suc i m) in
    ap₂ (λ (x : List ℕ) (y : ℕ). set x (l + m) y) (laid-paste d l s i m (omega arith) (omega arith)) (sym (get_or-drop i s m 0))
    ∙ paste-suc d l (drop i s) m 0 hm (simp length-drop (omega arith))

pub lead-past : (p : ℕ → Bool) (s : List ℕ) (i : ℕ) → length s ≤ i → lead p (drop i s) ≡ 0
unfolding lead
lead-past p s i h = rw (drop_of_length-le s h)

pub lead-none : (p : ℕ → Bool) (xs : List ℕ) (n : ℕ) → n ≡ 0 → lead p (take n xs) ≡ 0
unfolding lead
lead-none p xs n e = rw e

pub lead-take-past : (p : ℕ → Bool) (s : List ℕ) (i n : ℕ) → length s ≤ i → lead p (take n (drop i s)) ≡ 0
unfolding lead
lead-take-past p s i n h = rw (drop_of_length-le s h, take-nil n)

-- what is laid in two pieces, the second byte by byte, is pasted: `copy_run` cites this
pub laid-on : (d e f : List ℕ) (l : ℕ) (s : List ℕ) (i m k : ℕ) → e ≡ laid d l s i m → f ≡ laid e (l + m) s (i + m) k → l + (m + k) ≤ length d → i + (m + k) ≤ length s → f ≡ paste d l (drop i s) (m + k)
laid-on d e f l s i m k q r h g =
    r ∙ ap (λ (x : List ℕ). laid x (l + m) s (i + m) k) q ∙ laid-add d l s i m k ∙ laid-paste d l s i (m + k) h g

-- no bytes
pub all_none : (p : ℕ → Bool) (s : List ℕ) (i : ℕ) → All p s i 0
all_none p s i k h = absurd (not-suc-le-zero h)

-- what a run's length says, for whoever is handed one
counted-le : (t : Bool) (m n : ℕ) → m ≤ n → cond t (suc m) 0 ≤ suc n
counted-le true m n h = suc-le-suc h
counted-le false m n h = zero-le

lead-le : (p : ℕ → Bool) (xs : List ℕ) → lead p xs ≤ length xs
unfolding lead
lead-le p [] = le_refl 0
lead-le p (x ∷ xs) = counted-le (p x) (lead p xs) (length xs) (lead-le p xs)

counted-all : (p : ℕ → Bool) (x : ℕ) (xs : List ℕ) (n : ℕ) → ((k : ℕ) → k < n → p (get_or xs k 0) ≡ true) → (t : Bool) → p x ≡ t → (k : ℕ) → k < cond t (suc n) 0 → p (get_or (x ∷ xs) k 0) ≡ true
counted-all p x xs n f true e zero h = e
counted-all p x xs n f true e (suc k) h = f k (le_of_suc-le-suc h)
counted-all p x xs n f false e k h = absurd (not-suc-le-zero h)

lead-all : (p : ℕ → Bool) (xs : List ℕ) (k : ℕ) → k < lead p xs → p (get_or xs k 0) ≡ true
unfolding lead
lead-all p [] k h = absurd (not-suc-le-zero h)
lead-all p (x ∷ xs) k h = counted-all p x xs (lead p xs) (λ j u. lead-all p xs j u) (p x) refl k h

counted-stops : (p : ℕ → Bool) (x : ℕ) (xs : List ℕ) (n : ℕ) → (n < length xs → p (get_or xs n 0) ≡ false) → (t : Bool) → p x ≡ t → cond t (suc n) 0 < suc (length xs) → p (get_or (x ∷ xs) (cond t (suc n) 0) 0) ≡ false
counted-stops p x xs n f true e h = f (le_of_suc-le-suc h)
counted-stops p x xs n f false e h = e

lead-stops : (p : ℕ → Bool) (xs : List ℕ) → lead p xs < length xs → p (get_or xs (lead p xs) 0) ≡ false
unfolding lead
lead-stops p [] h = absurd (not-suc-le-zero h)
lead-stops p (x ∷ xs) h = counted-stops p x xs (lead p xs) (lead-stops p xs) (p x) refl h

module _ (p : ℕ → Bool) (s : List ℕ) (i r : ℕ) (h : i ≤ length s) (e : r ≡ lead p (drop i s)) where
  pub run_inside : i + r ≤ length s
  run_inside = omega (arith, lead-le p (drop i s), length-drop i s)

  pub run-all : All p s i r
  run-all k u = rw get_or-drop at (lead-all p (drop i s) k (subst (λ (m : ℕ). k < m) e u))

  pub run-stops : i + r < length s → p (get_or s (i + r) 0) ≡ false
  run-stops u =
      let v : lead p (drop i s) < length (drop i s) = omega (arith, length-drop i s) in
      subst (λ (m : ℕ). p (get_or s (i + m) 0) ≡ false) (sym e) (rw get_or-drop at (lead-stops p (drop i s) v))

module _ (p : ℕ → Bool) (s : List ℕ) (i n r : ℕ) (h : i ≤ length s) (e : r ≡ lead p (take n (drop i s))) where
  copied : r ≤ length (take n (drop i s))
  copied = rw e (lead-le p (take n (drop i s)))

  pub copy-room : r ≤ n
  copy-room = omega (arith, simp (length-take, length-drop) at copied)

  pub copy-inside : i + r ≤ length s
  copy-inside = omega (arith, simp (length-take, length-drop) at copied)

  pub copy-all : All p s i r
  copy-all k u =
      let v : k < n = lt_of_lt_of_le u copy-room in
      rw (get_or-take, get_or-drop) at (lead-all p (take n (drop i s)) k (subst (λ (m : ℕ). k < m) e u))

  pub copy-stops : r < n → i + r < length s → p (get_or s (i + r) 0) ≡ false
  copy-stops u v =
      let w : lead p (take n (drop i s)) < length (take n (drop i s)) = simp (length-take, length-drop) (omega arith) in
      let x : lead p (take n (drop i s)) < n = omega arith in
      subst (λ (m : ℕ). p (get_or s (i + m) 0) ≡ false) (sym e) (rw (get_or-take, get_or-drop) at (lead-stops p (take n (drop i s)) w))

-- a run goes on behind what was passed: `run` cites this
pub lead-on : (p : ℕ → Bool) (s : List ℕ) (i m : ℕ) → i + m ≤ length s → All p s i m → lead p (drop i s) ≡ m + lead p (drop (i + m) s)
lead-on p s i m h f =
    let r = lead p (drop (i + m) s) in
    let e : i + m + r ≡ i + (m + r) = add_assoc i m r in
    lead-drop p s i (m + r) (omega (arith, run_inside p s (i + m) r h refl)) (all-add p s i m r f (run-all p s (i + m) r h refl))
    (λ u. subst (λ (k : ℕ). p (get_or s k 0) ≡ false) e (run-stops p s (i + m) r h refl (omega arith)))

-- a run is what `take_while` gives
pub lead-prefix_len : (p : ℕ → Bool) (xs : List ℕ) → lead p xs ≡ prefix_len p xs
unfolding lead
lead-prefix_len p [] = refl
lead-prefix_len p (x ∷ xs) =
    let e : suc (prefix_len p xs) ≡ 1 + prefix_len p xs = omega arith in
    ap (λ (n : ℕ). cond (p x) n 0) (ap suc (lead-prefix_len p xs) ∙ e)

-- the least of two: `copy_run` cites these
pub least : (n x y : ℕ) → n ≡ min x y → (n ≤ x) × (n ≤ y)
least n x y e = (omega (arith, min-le_left x y), omega (arith, min-le_right x y))

pub least-greatest : (n x y : ℕ) → n ≡ min x y → n < x → n < y → ⊥
least-greatest n x y e h g =
    let u : n + 1 ≤ x = omega arith in
    let v : n + 1 ≤ y = omega arith in
    omega (arith, le-min u v)
