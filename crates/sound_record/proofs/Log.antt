-- Laws of a log: it is a list of sound records in one way, and a reader finds just these, up to its end. Assumes nothing.
use mathlib.Core.Path.{◌≡◌, refl, sym, ◌∙◌, ap, subst}
use Prim.Native.Nat.{ℕ, zero, suc, ◌+◌, ◌<◌}
use mathlib.Core.Bool.{Bool, true, false, cond}
use mathlib.Core.List.{List, [], ◌∷◌, ◌++◌, append_assoc, append-nil}
use native.Mathlib.Nat.{le_of_suc-le-suc}
use native.Mathlib.Omega.{arith}
use lib.ListN.{length, get_or, drop, length-append}
use lib.Seq.{take-append_seam, drop-append_seam}
use Rattle.sound_record.specs.Record.{written, known, sound_at, sound_in}
use Rattle.sound_record.specs.Log.{joined, all_sound, Log, Here, Finds}
use Rattle.sound_record.proofs.Soundness.{both}
use Rattle.sound_record.proofs.Places.{Ended, sound-ended, same-front, stands-within}

-- logs one behind the other are one log
pub joined-append : (rs ss : List (List ℕ)) → joined (rs ++ ss) ≡ joined rs ++ joined ss
joined-append [] ss = refl
joined-append (r ∷ rs) ss = ap (λ (l : List ℕ). r ++ l) (joined-append rs ss) ∙ sym (append_assoc r (joined rs) (joined ss))

module _ (sound : List ℕ → Bool) where
  pub all_sound-append : (rs ss : List (List ℕ)) → all_sound sound rs ≡ true → all_sound sound ss ≡ true → all_sound sound (rs ++ ss) ≡ true
  all_sound-append [] ss a b = b
  all_sound-append (r ∷ rs) ss a b = let h = both (sound r) (all_sound sound rs) a in rw h.0 (all_sound-append rs ss h.1 b)

  pub all_sound-each : (rs : List (List ℕ)) → all_sound sound rs ≡ true → (i : ℕ) (d : List ℕ) → i < length rs → sound (get_or rs i d) ≡ true
  all_sound-each [] a i d l = absurd (omega arith)
  all_sound-each (r ∷ rs) a zero d l = (both (sound r) (all_sound sound rs) a).0
  all_sound-each (r ∷ rs) a (suc i) d l = all_sound-each rs (both (sound r) (all_sound sound rs) a).1 i d (le_of_suc-le-suc l)

  pub log-append : (a b : List ℕ) → Log sound a → Log sound b → Log sound (a ++ b)
  log-append a b x y =
      record {
        records = x.records ++ y.records;
        each = all_sound-append x.records y.records x.each y.each;
        bytes = rw (joined-append x.records y.records, x.bytes, y.bytes);
      }

  -- where a sound record ends as its length says, the bytes of a log give its records
  module _ (ended : (r : List ℕ) → sound r ≡ true → Ended r) where
    longer : (r : List ℕ) → Ended r → (x : List ℕ) → [] ≡ r ++ x → ⊥
    longer [] e x q = omega (arith, e.least)
    longer (y ∷ r) e x q = let n : 0 ≡ length ((y ∷ r) ++ x) = ap length q in omega arith

    pub one_list : (rs ss : List (List ℕ)) → all_sound sound rs ≡ true → all_sound sound ss ≡ true → joined rs ≡ joined ss → rs ≡ ss
    one_list [] [] a b q = refl
    one_list [] (s ∷ ss) a b q = absurd (longer s (ended s (both (sound s) (all_sound sound ss) b).0) (joined ss) q)
    one_list (r ∷ rs) [] a b q = absurd (longer r (ended r (both (sound r) (all_sound sound rs) a).0) (joined rs) (sym q))
    one_list (r ∷ rs) (s ∷ ss) a b q =
        let g = both (sound r) (all_sound sound rs) a in
        let h = both (sound s) (all_sound sound ss) b in
        let e : r ≡ s = same-front r s (joined rs) (joined ss) (ended r g.0) (ended s h.0) q in
        let f : joined rs ≡ joined ss =
        sym (drop-append_seam r (joined rs)) ∙ ap (drop (length r)) q ∙ ap (λ (n : List ℕ). drop (length n) (s ++ joined ss)) e ∙ drop-append_seam s (joined ss) in
        rw (e, one_list rs ss g.1 h.1 f)

-- a record of any of some versions ends as its length says ..
pub sound_in-ended : (vs : List ℕ) (r : List ℕ) → sound_in vs r ≡ true → Ended r
sound_in-ended [] r e = let z : ◌≡◌ {A = ℕ} 0 1 = cc in absurd (omega arith)
sound_in-ended (v ∷ vs) r e = go (sound_in-ended vs r) (sound_at v r) refl e
  where
    go : (sound_in vs r ≡ true → Ended r) → (t : Bool) → sound_at v r ≡ t → cond t true (sound_in vs r) ≡ true → Ended r
    go rest true s q = sound-ended v r s
    go rest false s q = rest q

-- .. so that a log of any mixture of them is a list of records in one way
pub one-log : (vs : List ℕ) (rs ss : List (List ℕ)) → all_sound (sound_in vs) rs ≡ true → all_sound (sound_in vs) ss ≡ true → joined rs ≡ joined ss → rs ≡ ss
one-log vs = one_list (sound_in vs) (sound_in-ended vs)

-- a record is sound at a known version exactly if it is at the one that is written: there is no other
pub sound_in-known : (r : List ℕ) → sound_in known r ≡ sound_at written r
sound_in-known r = go (sound_at written r)
  where
    go : (t : Bool) → cond t true false ≡ t
    go true = refl
    go false = refl

-- a reader of version v finds the records of a log of version v
module _ (v : ℕ) where
  here : (p r x : List ℕ) → sound_at v r ≡ true → Here v (p ++ (r ++ x)) (length p) r
  here p r x s = record { stands = stands-within v r s p x; bytes = rw (drop-append_seam p (r ++ x)) (take-append_seam r x) }

  finds-from : (p : List ℕ) (rs : List (List ℕ)) → all_sound (sound_at v) rs ≡ true → Finds v (p ++ joined rs) (length p) rs
  finds-from p [] a = ap length (sym (append-nil p))
  finds-from p (r ∷ rs) a =
      let h = both (sound_at v r) (all_sound (sound_at v) rs) a in (
        here p r (joined rs) h.0,
        subst (λ (l : List ℕ). Finds v l (length p + length r) rs) (append_assoc p r (joined rs))
            (subst (λ (n : ℕ). Finds v ((p ++ r) ++ joined rs) n rs) (length-append p r) (finds-from (p ++ r) rs h.1)),
      )

  pub log-finds : (rs : List (List ℕ)) → all_sound (sound_at v) rs ≡ true → Finds v (joined rs) 0 rs
  log-finds rs a = finds-from [] rs a
