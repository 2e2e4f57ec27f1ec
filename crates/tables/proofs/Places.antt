-- What the arrays' searches and stores are in 01's places. Assumes nothing.
use mathlib.Core.Path.{◌≡◌, refl, sym, ◌∙◌, ap}
use Prim.Native.Nat.{ℕ, zero, suc, ◌+◌, ◌≤◌, ◌<◌}
use mathlib.Core.Bool.{Bool, true, false, cond, ◌||◌}
use mathlib.Core.List.{List, [], ◌∷◌}
use mathlib.Core.Option.{none, some}
use native.Mathlib.Omega.{arith}
use lib.ListN.{length, get_or, set, length-set, get_or-eq_default}
use lib.Seq.{get_or-set_same, get_or-set_other, set-get_or, ext_get_or}
use lib.Dec.{eqb, ltb}
use borrow.Author.Tests.{eqb-true, eqb-false, eq-eqb, ne_eqb, lt-ltb, le-ltb}
use Rattle.tables.specs.Keys.{first_of, seat_of}
use Rattle.tables.specs.Places.{Place, free, held, holds, is_free, first_with, holder, is_held, vacancy, has_room, seat, stored, removed, value_at, place_of, places_from, places_of}
use Rattle.tables.proofs.Laws.{first_holds}

-- a test of two successors is the test of the two
pub eqb-suc : (j k : ℕ) → eqb (suc j) (suc k) ≡ eqb j k
eqb-suc j k = go (eqb j k) refl
  where
    go : (t : Bool) → eqb j k ≡ t → eqb (suc j) (suc k) ≡ t
    go true e = eq-eqb (suc j) (suc k) (ap suc (eqb-true j k e))
    go false e = ne_eqb (suc j) (suc k) (λ p. eqb-false j k e (omega arith))

module _ {A : Type 0} where
  place_of-agree : (k : ℕ) (v w : A) → ((k ≡ 0 → ⊥) → v ≡ w) → place_of k v ≡ place_of k w
  place_of-agree zero v w h = refl
  place_of-agree (suc k) v w h = ap (held k) (h (λ e. omega arith))

  module _ (values : ℕ → A) where
    length-places_from : (b : ℕ) (keys : List ℕ) → length (places_from values b keys) ≡ length keys
    unfolding places_from
    length-places_from b [] = refl
    length-places_from b (k ∷ ks) = ap suc (length-places_from (suc b) ks)

    pub length-places : (keys : List ℕ) → length (places_of keys values) ≡ length keys
    length-places keys = length-places_from 0 keys

    get_or-places_from : (b : ℕ) (keys : List ℕ) (i : ℕ) → get_or (places_from values b keys) i free ≡ place_of (get_or keys i 0) (values (b + i))
    unfolding places_from
    get_or-places_from b [] i = refl
    get_or-places_from b (k ∷ ks) zero = ap (λ (n : ℕ). place_of k (values n)) (omega arith)
    get_or-places_from b (k ∷ ks) (suc i) = get_or-places_from (suc b) ks i ∙ ap (λ (n : ℕ). place_of (get_or ks i 0) (values n)) (omega arith)

    pub get_or-places : (keys : List ℕ) (i : ℕ) → get_or (places_of keys values) i free ≡ place_of (get_or keys i 0) (values i)
    get_or-places keys i = get_or-places_from 0 keys i ∙ ap (λ (n : ℕ). place_of (get_or keys i 0) (values n)) (omega arith)

    holds-place_of : (k x : ℕ) (v : A) → holds k (place_of x v) ≡ eqb x (suc k)
    holds-place_of k zero v = sym (ne_eqb zero (suc k) (λ e. omega arith))
    holds-place_of k (suc j) v = sym (eqb-suc j k)

    is_free-place_of : (x : ℕ) (v : A) → is_free (place_of x v) ≡ eqb x 0
    is_free-place_of zero v = sym (eq-eqb zero 0 refl)
    is_free-place_of (suc j) v = sym (ne_eqb (suc j) 0 (λ e. omega arith))

    first_with-places_from : (test : Place A → Bool) (x : ℕ) → ((k : ℕ) (v : A) → test (place_of k v) ≡ eqb k x) → (b : ℕ) (keys : List ℕ) → first_with test (places_from values b keys) ≡ first_of keys x
    unfolding places_from first_with first_of
    first_with-places_from test x h b [] = refl
    first_with-places_from test x h b (k ∷ ks) = rw (h k (values b), first_with-places_from test x h (suc b) ks)

    -- the place that holds a key, and the first free place, are found by the keys
    pub holder-places : (keys : List ℕ) (k : ℕ) → holder (places_of keys values) k ≡ first_of keys (suc k)
    holder-places keys k = first_with-places_from (holds k) (suc k) (holds-place_of k) 0 keys

    pub vacancy-places : (keys : List ℕ) → vacancy (places_of keys values) ≡ first_of keys 0
    vacancy-places keys = first_with-places_from is_free 0 is_free-place_of 0 keys

    pub is_held-places : (keys : List ℕ) (k : ℕ) → is_held (places_of keys values) k ≡ ltb (first_of keys (suc k)) (length keys)
    is_held-places keys k = rw (holder-places, length-places)

    pub seat-places : (keys : List ℕ) (k : ℕ) → seat (places_of keys values) k ≡ seat_of keys (suc k)
    unfolding seat_of
    seat-places keys k = rw (is_held-places, holder-places, vacancy-places)

    pub has_room-places : (keys : List ℕ) (k : ℕ) → has_room (places_of keys values) k ≡ ltb (seat_of keys (suc k)) (length keys)
    unfolding seat_of
    has_room-places keys k = rw (is_held-places, vacancy-places, length-places) (go (ltb (first_of keys (suc k)) (length keys)) refl)
      where
        go : (t : Bool) → ltb (first_of keys (suc k)) (length keys) ≡ t → (t || ltb (first_of keys 0) (length keys)) ≡ ltb (cond t (first_of keys (suc k)) (first_of keys 0)) (length keys)
        go true e = sym e
        go false e = refl

    -- what is held under a key
    pub value_at-held : (keys : List ℕ) (k : ℕ) → first_of keys (suc k) < length keys → value_at (places_of keys values) k ≡ some (values (first_of keys (suc k)))
    value_at-held keys k h = rw (holder-places, get_or-places, first_holds keys (suc k) h)

    pub value_at-none : (keys : List ℕ) (k : ℕ) → length keys ≤ first_of keys (suc k) → value_at (places_of keys values) k ≡ none
    value_at-none keys k h = rw (holder-places, get_or-places, get_or-eq_default keys 0 h)

  -- a key and a value put at a place of the arrays are put at that place of the table; at free places the values say nothing
  pub set-places : (values after : ℕ → A) (keys : List ℕ) (i x : ℕ) (v : A) → ((x ≡ 0 → ⊥) → after i ≡ v) → ((j : ℕ) → (j ≡ i → ⊥) → (get_or keys j 0 ≡ 0 → ⊥) → after j ≡ values j) → places_of (set keys i x) after ≡ set (places_of keys values) i (place_of x v)
  set-places values after keys i x v same other =
      ext_get_or free (places_of (set keys i x) after) (set (places_of keys values) i (place_of x v)) sizes (λ j h. at j (rw (length-places after (set keys i x), length-set keys i x) at h) (eqb j i) refl)
    where
      sizes : length (places_of (set keys i x) after) ≡ length (set (places_of keys values) i (place_of x v))
      sizes = rw (length-places after (set keys i x), length-set keys i x, length-set (places_of keys values) i (place_of x v), length-places values keys)

      at : (j : ℕ) → j < length keys → (t : Bool) → eqb j i ≡ t → get_or (places_of (set keys i x) after) j free ≡ get_or (set (places_of keys values) i (place_of x v)) j free
      at j h true e =
          let p : j ≡ i = eqb-true j i e in
          rw p (get_or-places after (set keys i x) i ∙ rw (get_or-set_same keys i x 0 (rw p at h), get_or-set_same (places_of keys values) i (place_of x v) free (rw (length-places values keys) (rw p at h))) (place_of-agree x (after i) v same))
      at j h false e =
          let n : j ≡ i → ⊥ = eqb-false j i e in
          get_or-places after (set keys i x) j ∙ rw (get_or-set_other keys i j x 0 n, get_or-set_other (places_of keys values) i j (place_of x v) free n, get_or-places values keys j) (place_of-agree (get_or keys j 0) (after j) (values j) (other j n))

  -- a place's key taken out of the arrays is the entry taken out of the table
  pub removed-places : (values : ℕ → A) (keys : List ℕ) (k : ℕ) → places_of (set keys (first_of keys (suc k)) 0) values ≡ removed (places_of keys values) k
  removed-places values keys k = rw (holder-places values keys k) (set-places values values keys (first_of keys (suc k)) 0 (values 0) (λ n. absurd (n refl)) (λ j n m. refl))

  -- an entry put at its seat in the arrays is stored in the table
  pub stored-places : (values after : ℕ → A) (keys : List ℕ) (k : ℕ) (v : A) → after (seat_of keys (suc k)) ≡ v → ((j : ℕ) → (j ≡ seat_of keys (suc k) → ⊥) → (get_or keys j 0 ≡ 0 → ⊥) → after j ≡ values j) → places_of (set keys (seat_of keys (suc k)) (suc k)) after ≡ stored (places_of keys values) k v
  stored-places values after keys k v same other = rw (seat-places values keys k) (set-places values after keys (seat_of keys (suc k)) (suc k) v (λ n. same) other)

-- the seat of a key that is held is its place
pub seat-held : (keys : List ℕ) (key : ℕ) → first_of keys key < length keys → seat_of keys key ≡ first_of keys key
unfolding seat_of
seat-held keys key h = rw (lt-ltb _ _ h)

-- the seat of a new key is the first free place
pub seat-new : (keys : List ℕ) (key : ℕ) → length keys ≤ first_of keys key → seat_of keys key ≡ first_of keys 0
unfolding seat_of
seat-new keys key h = rw (le-ltb _ _ h)

-- the same for a table whose values are an array of numbers
module _ (keys numbers : List ℕ) (k n : ℕ) (sized : length numbers ≡ length keys) where
  pub stored-numbers : seat_of keys (suc k) < length keys → places_of (set keys (seat_of keys (suc k)) (suc k)) (λ i. get_or (set numbers (seat_of keys (suc k)) n) i 0) ≡ stored (places_of keys (λ i. get_or numbers i 0)) k n
  stored-numbers h = stored-places (λ i. get_or numbers i 0) (λ i. get_or (set numbers (seat_of keys (suc k)) n) i 0) keys k n (get_or-set_same numbers (seat_of keys (suc k)) n 0 (rw sized h)) (λ j ne m. get_or-set_other numbers (seat_of keys (suc k)) j n 0 ne)

  -- a held number replaced
  pub replaced-numbers : first_of keys (suc k) < length keys → places_of keys (λ i. get_or (set numbers (first_of keys (suc k)) n) i 0) ≡ stored (places_of keys (λ i. get_or numbers i 0)) k n
  replaced-numbers h =
      let e : seat_of keys (suc k) ≡ first_of keys (suc k) = seat-held keys (suc k) h in
      let s : set keys (first_of keys (suc k)) (suc k) ≡ keys = ap (set keys (first_of keys (suc k))) (sym (first_holds keys (suc k) h)) ∙ set-get_or keys (first_of keys (suc k)) 0 in
      ap (λ (l : List ℕ). places_of l (λ i. get_or (set numbers (first_of keys (suc k)) n) i 0)) (sym s) ∙ (rw e at (stored-numbers (rw e h)))

  -- a number stored where the same one stands under the same key
  pub stored-again : get_or keys (seat_of keys (suc k)) 0 ≡ suc k → get_or numbers (seat_of keys (suc k)) 0 ≡ n → seat_of keys (suc k) < length keys → places_of keys (λ i. get_or numbers i 0) ≡ stored (places_of keys (λ i. get_or numbers i 0)) k n
  stored-again a b h =
      let s : set keys (seat_of keys (suc k)) (suc k) ≡ keys = ap (set keys (seat_of keys (suc k))) (sym a) ∙ set-get_or keys (seat_of keys (suc k)) 0 in
      let t : set numbers (seat_of keys (suc k)) n ≡ numbers = ap (set numbers (seat_of keys (suc k))) (sym b) ∙ set-get_or numbers (seat_of keys (suc k)) 0 in
      rw (s, t) at (stored-numbers h)
