-- A table is a finite map: what a look-up gives after an entry is stored or taken out, and no key is held twice. Assumes nothing.
use mathlib.Core.Path.{◌≡◌, refl, sym, ◌∙◌, ap}
use Prim.Native.Nat.{ℕ, zero, suc, ◌≤◌, ◌<◌}
use mathlib.Core.Bool.{Bool, true, false, cond}
use mathlib.Core.List.{List, [], ◌∷◌}
use mathlib.Core.Option
use mathlib.Core.Option.{Option, none, some}
use native.Mathlib.Omega.{arith}
use lib.ListN.{length, get_or, set, length-set, get_or-eq_default}
use lib.Seq.{get_or-set_same, get_or-set_other, set_out}
use lib.Dec.{eqb, ltb}
use borrow.Author.Tests.{eqb-true, eqb-false, eq-eqb, ne_eqb, ltb-true, ltb-false}
use Rattle.laws.proofs.Cases.{by, never}
use Rattle.tables.specs.Places.{Place, free, held, holds, is_free, first_with, holder, is_held, vacancy, has_room, seat, stored, removed, value_in, value_at, Distinct, inserted, deleted}

-- a claim proved for either value of a test
module _ {A : Type 0} where
  module _ (test : Place A → Bool) where
    first_with-le : (ps : List (Place A)) → first_with test ps ≤ length ps
    unfolding first_with
    first_with-le [] = omega arith
    first_with-le (p ∷ ps) = go (test p) (first_with-le ps)
      where
        go : (t : Bool) → first_with test ps ≤ length ps → cond t 0 (suc (first_with test ps)) ≤ suc (length ps)
        go true h = omega arith
        go false h = omega arith

    first_with-passes : (ps : List (Place A)) → first_with test ps < length ps → test (get_or ps (first_with test ps) free) ≡ true
    unfolding first_with
    first_with-passes [] h = absurd (omega arith)
    first_with-passes (p ∷ ps) h = go (test p) refl (first_with-passes ps) h
      where
        go : (t : Bool) → test p ≡ t → (first_with test ps < length ps → test (get_or ps (first_with test ps) free) ≡ true) → cond t 0 (suc (first_with test ps)) < suc (length ps) → test (get_or (p ∷ ps) (cond t 0 (suc (first_with test ps))) free) ≡ true
        go true e r h = e
        go false e r h = r (omega arith)

    first_with-before : (ps : List (Place A)) (i : ℕ) → i < first_with test ps → test (get_or ps i free) ≡ false
    unfolding first_with
    first_with-before [] i h = absurd (omega arith)
    first_with-before (p ∷ ps) i h = go (test p) refl (first_with-before ps) i h
      where
        go : (t : Bool) → test p ≡ t → ((i : ℕ) → i < first_with test ps → test (get_or ps i free) ≡ false) → (i : ℕ) → i < cond t 0 (suc (first_with test ps)) → test (get_or (p ∷ ps) i free) ≡ false
        go true e r i h = absurd (omega arith)
        go false e r zero h = e
        go false e r (suc i) h = r i (omega arith)

    -- the first place that passes is the one that passes with none before it
    first_with-is : (ps : List (Place A)) (n : ℕ) → test (get_or ps n free) ≡ true → n < length ps → ((i : ℕ) → i < n → test (get_or ps i free) ≡ false) → first_with test ps ≡ n
    unfolding first_with
    first_with-is [] n e h r = absurd (omega arith)
    first_with-is (p ∷ ps) zero e h r = rw e
    first_with-is (p ∷ ps) (suc n) e h r = rw (r 0 (omega arith)) (ap suc (first_with-is ps n e (omega arith) (λ i l. r (suc i) (omega arith))))

    first_with-none : (ps : List (Place A)) → ((i : ℕ) → test (get_or ps i free) ≡ false) → first_with test ps ≡ length ps
    unfolding first_with
    first_with-none [] r = refl
    first_with-none (p ∷ ps) r = rw (r 0) (ap suc (first_with-none ps (λ i. r (suc i))))

    first_with-set : (ps : List (Place A)) (s : ℕ) (p : Place A) → test (get_or ps s free) ≡ test p → first_with test (set ps s p) ≡ first_with test ps
    unfolding first_with
    first_with-set [] s p e = refl
    first_with-set (q ∷ ps) zero p e = rw e
    first_with-set (q ∷ ps) (suc s) p e = rw (first_with-set ps s p e)

  module _ (ps : List (Place A)) (k : ℕ) where
    -- a key that is not held is held at no place
    not-held : is_held ps k ≡ false → (i : ℕ) → holds k (get_or ps i free) ≡ false
    not-held e i =
        by (ltb i (length ps))
        (λ t. first_with-before (holds k) ps i (omega (arith, ltb-true i (length ps) t, ltb-false (holder ps k) (length ps) e)))
        (λ t. rw (get_or-eq_default ps free (ltb-false i (length ps) t)))

    pub holder-holds : is_held ps k ≡ true → holds k (get_or ps (holder ps k) free) ≡ true
    holder-holds e = first_with-passes (holds k) ps (ltb-true (holder ps k) (length ps) e)

    -- no place before the seat holds the key
    seat-before : (i : ℕ) → i < seat ps k → holds k (get_or ps i free) ≡ false
    seat-before i h = by (is_held ps k) (λ e. first_with-before (holds k) ps i (rw e at h)) (λ e. not-held e i)

    seat-room : has_room ps k ≡ true → seat ps k < length ps
    seat-room r = by (is_held ps k) (λ e. rw e (ltb-true (holder ps k) (length ps) e)) (λ e. rw e (ltb-true (vacancy ps) (length ps) (rw e at r)))

    -- another key is not held at the seat
    seat-other : (j : ℕ) → (j ≡ k → ⊥) → holds j (get_or ps (seat ps k) free) ≡ false
    seat-other j n = by (is_held ps k) (λ e. rw e (apart (get_or ps (holder ps k) free) (holder-holds e))) (λ e. rw e (empty (ltb (vacancy ps) (length ps)) refl))
      where
        apart : (p : Place A) → holds k p ≡ true → holds j p ≡ false
        apart free h = refl
        apart (held i v) h = rw (eqb-true i k h) (ne_eqb k j (λ e. n (sym e)))

        none-there : (p : Place A) → is_free p ≡ true → holds j p ≡ false
        none-there free h = refl
        none-there (held i v) h = never h

        empty : (t : Bool) → ltb (vacancy ps) (length ps) ≡ t → holds j (get_or ps (vacancy ps) free) ≡ false
        empty true e = none-there (get_or ps (vacancy ps) free) (first_with-passes is_free ps (ltb-true (vacancy ps) (length ps) e))
        empty false e = rw (get_or-eq_default ps free (ltb-false (vacancy ps) (length ps) e))

  -- a store at a place that does not hold a key, of what does not hold it, is not seen by a look-up of that key
  set-unseen : (ps : List (Place A)) (s : ℕ) (p : Place A) (j : ℕ) → holds j (get_or ps s free) ≡ false → holds j p ≡ false → value_at (set ps s p) j ≡ value_at ps j
  set-unseen ps s p j a b = rw (first_with-set (holds j) ps s p (a ∙ sym b)) (by (eqb (holder ps j) s) (λ e. here (eqb-true (holder ps j) s e)) (λ e. ap value_in (get_or-set_other ps s (holder ps j) p free (eqb-false (holder ps j) s e))))
    where
      here : holder ps j ≡ s → value_in (get_or (set ps s p) (holder ps j) free) ≡ value_in (get_or ps (holder ps j) free)
      here e =
          by (is_held ps j)
          (λ t. never (sym (rw (← e) at a) ∙ holder-holds ps j t))
          (λ t. ap (λ (l : List (Place A)). value_in (get_or l (holder ps j) free)) (set_out ps s p (rw e at (ltb-false (holder ps j) (length ps) t))))

  -- after an entry is stored, look-ups are those of a map after an insert
  pub value_at-stored : (ps : List (Place A)) (k : ℕ) (v : A) → has_room ps k ≡ true → (j : ℕ) → value_at (stored ps k v) j ≡ inserted (value_at ps) k v j
  value_at-stored ps k v room j = by (eqb j k) (λ e. rw e (same (eqb-true j k e))) (λ e. rw e (set-unseen ps (seat ps k) (held k v) j (seat-other ps k j (eqb-false j k e)) (ne_eqb k j (λ p. eqb-false j k e (sym p)))))
    where
      at : get_or (stored ps k v) (seat ps k) free ≡ held k v
      at = get_or-set_same ps (seat ps k) (held k v) free (seat-room ps k room)

      found : holder (stored ps k v) k ≡ seat ps k
      found = first_with-is (holds k) (stored ps k v) (seat ps k) (rw at (eq-eqb k k refl)) (rw (length-set ps (seat ps k) (held k v)) (seat-room ps k room)) (λ i l. rw (get_or-set_other ps (seat ps k) i (held k v) free (λ e. omega arith)) (seat-before ps k i l))

      same : j ≡ k → value_at (stored ps k v) j ≡ some v
      same e = rw e (rw (found, at))

  -- after an entry is taken out of a table that holds no key twice, look-ups are those of a map after a remove
  pub value_at-removed : (ps : List (Place A)) (k : ℕ) → Distinct ps → (j : ℕ) → value_at (removed ps k) j ≡ deleted (value_at ps) k j
  value_at-removed ps k distinct j = by (eqb j k) (λ e. rw e (same (eqb-true j k e))) (λ e. rw e (set-unseen ps (holder ps k) free j (other (eqb-false j k e)) refl))
    where
      apart : (p : Place A) → (j ≡ k → ⊥) → holds k p ≡ true → holds j p ≡ false
      apart free n h = refl
      apart (held i v) n h = rw (eqb-true i k h) (ne_eqb k j (λ e. n (sym e)))

      other : (j ≡ k → ⊥) → holds j (get_or ps (holder ps k) free) ≡ false
      other n = by (is_held ps k) (λ t. apart (get_or ps (holder ps k) free) n (holder-holds ps k t)) (λ t. rw (get_or-eq_default ps free (ltb-false (holder ps k) (length ps) t)))

      gone : (i : ℕ) → holds k (get_or (removed ps k) i free) ≡ false
      gone i = by (eqb i (holder ps k)) (λ e. freed (eqb-true i (holder ps k) e)) (λ e. rw (get_or-set_other ps (holder ps k) i free free (eqb-false i (holder ps k) e)) (kept (eqb-false i (holder ps k) e)))
        where
          freed : i ≡ holder ps k → holds k (get_or (removed ps k) i free) ≡ false
          freed e = rw e (by (is_held ps k) (λ t. rw (get_or-set_same ps (holder ps k) free free (ltb-true (holder ps k) (length ps) t))) (λ t. rw (set_out ps (holder ps k) free (ltb-false (holder ps k) (length ps) t)) (not-held ps k t (holder ps k))))

          kept : (i ≡ holder ps k → ⊥) → holds k (get_or ps i free) ≡ false
          kept n = by (is_held ps k) (λ t. by (holds k (get_or ps i free)) (λ h. absurd (n (distinct i (holder ps k) k h (holder-holds ps k t)))) (λ h. h)) (λ t. not-held ps k t i)

      same : j ≡ k → value_at (removed ps k) j ≡ none
      same e = rw e (ap value_in (get_or-eq_default (removed ps k) free {n = holder (removed ps k) k} (omega (arith, first_with-none (holds k) (removed ps k) gone))))

  -- an entry stored, and one taken out, leave each key at one place
  pub distinct-stored : (ps : List (Place A)) (k : ℕ) (v : A) → Distinct ps → Distinct (stored ps k v)
  distinct-stored ps k v distinct i j l a b = by (ltb (seat ps k) (length ps)) (λ t. inside (ltb-true (seat ps k) (length ps) t)) (λ t. outside (set_out ps (seat ps k) (held k v) (ltb-false (seat ps k) (length ps) t)))
    where
      outside : stored ps k v ≡ ps → i ≡ j
      outside e = distinct i j l (rw e at a) (rw e at b)

      -- a place other than the seat does not hold the key
      alone : (n : ℕ) → (n ≡ seat ps k → ⊥) → holds k (get_or ps n free) ≡ true → ⊥
      alone n ne h = by (is_held ps k) (λ t. ne (rw t (distinct n (holder ps k) k h (holder-holds ps k t)))) (λ t. never (sym (not-held ps k t n) ∙ h))

      one : seat ps k < length ps → (m n : ℕ) → m ≡ seat ps k → (n ≡ seat ps k → ⊥) → holds l (get_or (stored ps k v) m free) ≡ true → holds l (get_or (stored ps k v) n free) ≡ true → ⊥
      one h m n e ne x y =
          let p : holds l (held k v) ≡ true = rw (get_or-set_same ps (seat ps k) (held k v) free h) at (rw e at x) in
          let q : holds l (get_or ps n free) ≡ true = rw (get_or-set_other ps (seat ps k) n (held k v) free ne) at y in
          alone n ne (rw (eqb-true k l p) q)

      inside : seat ps k < length ps → i ≡ j
      inside h =
          by (eqb i (seat ps k))
          (λ e. by (eqb j (seat ps k)) (λ f. eqb-true i (seat ps k) e ∙ sym (eqb-true j (seat ps k) f)) (λ f. absurd (one h i j (eqb-true i (seat ps k) e) (eqb-false j (seat ps k) f) a b)))
          (λ e. by (eqb j (seat ps k)) (λ f. absurd (one h j i (eqb-true j (seat ps k) f) (eqb-false i (seat ps k) e) b a))
          (λ f. distinct i j l (rw (get_or-set_other ps (seat ps k) i (held k v) free (eqb-false i (seat ps k) e)) at a) (rw (get_or-set_other ps (seat ps k) j (held k v) free (eqb-false j (seat ps k) f)) at b)))

  pub distinct-removed : (ps : List (Place A)) (k : ℕ) → Distinct ps → Distinct (removed ps k)
  distinct-removed ps k distinct i j l a b = distinct i j l (was i a) (was j b)
    where
      was : (n : ℕ) → holds l (get_or (removed ps k) n free) ≡ true → holds l (get_or ps n free) ≡ true
      was n h = by (eqb n (holder ps k)) (λ e. at (eqb-true n (holder ps k) e)) (λ e. rw (get_or-set_other ps (holder ps k) n free free (eqb-false n (holder ps k) e)) at h)
        where
          at : n ≡ holder ps k → holds l (get_or ps n free) ≡ true
          at e = by (ltb (holder ps k) (length ps)) (λ t. never (rw (get_or-set_same ps (holder ps k) free free (ltb-true (holder ps k) (length ps) t)) at (rw e at h))) (λ t. rw (set_out ps (holder ps k) free (ltb-false (holder ps k) (length ps) t)) at h)

  -- a key taken out is not held
  pub is_held-removed : (ps : List (Place A)) (k : ℕ) → Distinct ps → is_held (removed ps k) k ≡ false
  is_held-removed ps k distinct = by (is_held (removed ps k) k) (λ t. never (looked t)) (λ t. t)
    where
      looked : is_held (removed ps k) k ≡ true → false ≡ true
      looked t = never (gone (get_or (removed ps k) (holder (removed ps k) k) free) (value_at-removed ps k distinct k ∙ rw (eq-eqb k k refl)) (holder-holds (removed ps k) k t))
        where
          gone : (p : Place A) → value_in p ≡ none → holds k p ≡ true → false ≡ true
          gone free e h = h
          gone (held i v) e h = absurd (let z : ◌≡◌ {A = ℕ} 0 1 = cc in omega arith)

  -- a look-up of a key that is not held gives nothing, of one that is held something
  pub value_at-unheld : (ps : List (Place A)) (k : ℕ) → is_held ps k ≡ false → value_at ps k ≡ none
  value_at-unheld ps k e = ap value_in (get_or-eq_default ps free (ltb-false (holder ps k) (length ps) e))

  pub value_at-is_held : (ps : List (Place A)) (k : ℕ) (z : A) → is_held ps k ≡ true → value_at ps k ≡ some (Option.get_or (value_at ps k) z)
  value_at-is_held ps k z e = something (get_or ps (holder ps k) free) (holder-holds ps k e)
    where
      something : (p : Place A) → holds k p ≡ true → value_in p ≡ some (Option.get_or (value_in p) z)
      something free h = never h
      something (held j v) h = refl

  -- storing under another key, and taking any key out, leave a key that is not held not held
  pub value_at-stored-other : (ps : List (Place A)) (k : ℕ) (v : A) (j : ℕ) → (j ≡ k → ⊥) → value_at (stored ps k v) j ≡ value_at ps j
  value_at-stored-other ps k v j n = set-unseen ps (seat ps k) (held k v) j (seat-other ps k j n) (ne_eqb k j (λ p. n (sym p)))

  pub value_at-removed-unheld : (ps : List (Place A)) (k j : ℕ) → is_held ps j ≡ false → value_at (removed ps k) j ≡ none
  value_at-removed-unheld ps k j e = set-unseen ps (holder ps k) free j (not-held ps j e (holder ps k)) refl ∙ value_at-unheld ps j e

  -- what a look-up gives says whether a key is held
  pub unheld-value_at : (ps : List (Place A)) (k : ℕ) → value_at ps k ≡ none → is_held ps k ≡ false
  unheld-value_at ps k e = by (is_held ps k) (λ t. absurd (clash (get_or ps (holder ps k) free) e (holder-holds ps k t))) (λ t. t)
    where
      clash : (p : Place A) → value_in p ≡ none → holds k p ≡ true → ⊥
      clash free a h = never h
      clash (held j v) a h = let z : ◌≡◌ {A = ℕ} 0 1 = cc in omega arith
