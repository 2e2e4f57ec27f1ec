-- The waiting commands in their arrays: storing one changes just its place, and a length over the limit is one of a held place. Assumes nothing.
use mathlib.Core.Path.{◌≡◌, refl, sym, ◌∙◌, ap}
use Prim.Native.Nat.{ℕ, zero, suc, ◌+◌, ◌-◌, ◌*◌, ◌≤◌, ◌<◌}
use mathlib.Core.Bool.{Bool, true, false, cond, not, ◌&&◌}
use mathlib.Core.List.{List, [], ◌∷◌, ◌++◌, append_assoc}
use native.Mathlib.Omega.{arith}
use lib.ListN.{length, get_or, set, take, drop, length-take, length-drop, get_or-append, get_or-eq_default}
use lib.Seq.{paste, length-paste, drop-paste, get_or-take, get_or-drop, get_or-set_same, get_or-set_other, take-length, length-take-le, drop_at, take_at, drop-drop, ext_get_or}
use lib.Dec.{eqb, ltb}
use borrow.Author.Tests.{ne_eqb, lt-ltb, le-ltb, ltb-true, ltb-false}
use Rattle.answers.specs.Stored.{kept_limit, stride, pool_size}
use Rattle.laws.proofs.Cases.{by}
use Rattle.tables.specs.Keys.{seat_of, over_of}
use Rattle.tables.specs.Places.{place_of, places_from, places_of, stored}
use Rattle.tables.proofs.Places.{stored-places}
use Rattle.transport_receiver.specs.State.{Command, command_in, payload_at}
use Rattle.transport_receiver.specs.Step.{is_over, is_over_limit}
use Rattle.transport_receiver.specs.Lent.{request_payload}

-- what is pasted changes no element before it and none behind it
module _ (d : List ℕ) (at : ℕ) (s : List ℕ) (n : ℕ) (fits : at + n ≤ length d) (has : n ≤ length s) where
  parts : paste d at s n ≡ take at d ++ (take n s ++ drop (at + n) d)
  parts = append_assoc (take at d) (take n s) (drop (at + n) d)

  get_or-paste-before : (m : ℕ) → m < at → get_or (paste d at s n) m 0 ≡ get_or d m 0
  get_or-paste-before m h =
      ap (λ (l : List ℕ). get_or l m 0) parts
      ∙ get_or-append (take at d) (take n s ++ drop (at + n) d) 0 m (rw (length-take-le at d (omega arith)) h)
      ∙ get_or-take at d m 0 h

  get_or-paste-behind : (m : ℕ) → at + n ≤ m → get_or (paste d at s n) m 0 ≡ get_or d m 0
  get_or-paste-behind m h =
      let e : m ≡ (at + n) + (m - (at + n)) = omega arith in
      rw e (sym (get_or-drop (at + n) (paste d at s n) (m - (at + n)) 0) ∙ ap (λ (l : List ℕ). get_or l (m - (at + n)) 0) (drop-paste d at s n (omega arith) has) ∙ get_or-drop (at + n) d (m - (at + n)) 0)

  -- and stands where it was pasted
  taken-paste : take n (drop at (paste d at s n)) ≡ take n s
  taken-paste =
      ap (λ (l : List ℕ). take n (drop at l)) parts
      ∙ ap (take n) (drop_at (take at d) (take n s ++ drop (at + n) d) at (length-take-le at d (omega arith)))
      ∙ take_at (take n s) (drop (at + n) d) n (length-take-le n s has)

  -- a part that lies wholly before it or behind it is as it was
  part-paste : (from size : ℕ) → ((m : ℕ) → from ≤ m → m < from + size → get_or (paste d at s n) m 0 ≡ get_or d m 0) → take size (drop from (paste d at s n)) ≡ take size (drop from d)
  part-paste from size same = ext_get_or 0 (take size (drop from (paste d at s n))) (take size (drop from d)) sizes each
    where
      sizes : length (take size (drop from (paste d at s n))) ≡ length (take size (drop from d))
      sizes = rw (length-take size (drop from (paste d at s n)), length-take size (drop from d), length-drop from (paste d at s n), length-drop from d, length-paste d at s n fits has)

      each : (i : ℕ) → i < length (take size (drop from (paste d at s n))) → get_or (take size (drop from (paste d at s n))) i 0 ≡ get_or (take size (drop from d)) i 0
      each i h =
          let b : i < size = omega (arith, length-take size (drop from (paste d at s n))) in
          get_or-take size (drop from (paste d at s n)) i 0 b
          ∙ get_or-drop from (paste d at s n) i 0
          ∙ same (from + i) (omega arith) (omega arith)
          ∙ sym (get_or-drop from d i 0)
          ∙ sym (get_or-take size (drop from d) i 0 b)

-- a payload kept at a place changes no other place's payload, as long as lengths are within their room
module _ (pool : List ℕ) (i : ℕ) (q : List ℕ) (sized : length pool ≡ pool_size) (place : i < 64) (few : length q ≤ kept_limit) where
  abbrev kept : List ℕ
  kept = paste pool (i * stride) q (length q)

  payload_same : payload_at kept i (length q) ≡ q
  payload_same = taken-paste pool (i * stride) q (length q) (omega arith) (omega arith) ∙ take-length q

  payload-other : (j size : ℕ) → (j ≡ i → ⊥) → size ≤ kept_limit → payload_at kept j size ≡ payload_at pool j size
  payload-other j size ne small = part-paste pool (i * stride) q (length q) (omega arith) (omega arith) (j * stride) size (λ m a b. apart m a b (ltb j i) refl)
    where
      apart : (m : ℕ) → j * stride ≤ m → m < j * stride + size → (t : Bool) → ltb j i ≡ t → get_or kept m 0 ≡ get_or pool m 0
      apart m a b true e = get_or-paste-before pool (i * stride) q (length q) (omega arith) (omega arith) m (omega (arith, ltb-true j i e))
      apart m a b false e = get_or-paste-behind pool (i * stride) q (length q) (omega arith) (omega arith) m (omega (arith, ltb-false j i e))

-- no held place is over the limit: then each is within it
next : (j : ℕ) → suc j ≡ 1 + j
next j = omega arith

held_low : (keys lengths : List ℕ) (limit : ℕ) → over_of keys lengths limit ≡ false → (j : ℕ) → j < length keys → (get_or keys j 0 ≡ 0 → ⊥) → get_or lengths j 0 ≤ limit
unfolding over_of
held_low [] lengths limit e j h ne = absurd (omega arith)
held_low (k ∷ ks) lengths limit e zero h ne = go (ltb limit (get_or lengths 0 0)) refl (rw (ne_eqb k 0 ne) at e)
  where
    go : (t : Bool) → ltb limit (get_or lengths 0 0) ≡ t → cond t true (over_of ks (drop 1 lengths) limit) ≡ false → get_or lengths 0 0 ≤ limit
    go true a b = absurd (let z : ◌≡◌ {A = ℕ} 0 1 = cc in omega arith)
    go false a b = ltb-false limit (get_or lengths 0 0) a
held_low (k ∷ ks) lengths limit e (suc j) h ne = rest (not (eqb k 0) && ltb limit (get_or lengths 0 0)) e (λ b. held_low ks (drop 1 lengths) limit b j (omega arith) ne)
  where
    rest : (t : Bool) → cond t true (over_of ks (drop 1 lengths) limit) ≡ false → (over_of ks (drop 1 lengths) limit ≡ false → get_or (drop 1 lengths) j 0 ≤ limit) → get_or lengths (suc j) 0 ≤ limit
    rest true b r = absurd (let z : ◌≡◌ {A = ℕ} 0 1 = cc in omega arith)
    rest false b r = rw (ap (λ (n : ℕ). get_or lengths n 0) (next j)) (rw (get_or-drop 1 lengths j 0) at (r b))

-- what 12 asks of the table is what the arrays are searched for
is_over_limit-from : (types lengths pool : List ℕ) (b : ℕ) (keys : List ℕ) → is_over_limit (places_from (command_in types lengths pool) b keys) ≡ over_of keys (drop b lengths) kept_limit
unfolding is_over_limit over_of places_from
is_over_limit-from types lengths pool b [] = refl
is_over_limit-from types lengths pool b (k ∷ ks) =
    rw (is_over_limit-from types lengths pool (suc b) ks, here k, get_or-drop b lengths 0 0, drop-drop 1 b lengths) (ends (b + 0) (omega arith) (b + 1) (omega arith))
  where
    here : (k : ℕ) → is_over (place_of k (command_in types lengths pool b)) ≡ (not (eqb k 0) && ltb kept_limit (get_or lengths b 0))
    here zero = refl
    here (suc j) = rw (ne_eqb (suc j) 0 (λ e. omega arith))

    ends : (x : ℕ) → x ≡ b → (y : ℕ) → y ≡ suc b → cond (not (eqb k 0) && ltb kept_limit (get_or lengths b 0)) true (over_of ks (drop (suc b) lengths) kept_limit) ≡ cond (not (eqb k 0) && ltb kept_limit (get_or lengths x 0)) true (over_of ks (drop y lengths) kept_limit)
    ends x e y f = rw (e, f)

pub is_over_limit-places : (keys types lengths pool : List ℕ) → is_over_limit (places_of keys (command_in types lengths pool)) ≡ over_of keys lengths kept_limit
is_over_limit-places keys types lengths pool = is_over_limit-from types lengths pool 0 keys

-- a key that is not 0 stands at a place
inside : (l : List ℕ) (j : ℕ) → (get_or l j 0 ≡ 0 → ⊥) → j < length l
inside l j n = by (ltb j (length l)) (λ e. ltb-true _ _ e) (λ e. absurd (n (get_or-eq_default l 0 (ltb-false _ _ e))))

-- a command put at its seat in the arrays is stored in the table
module _ (keys types lengths pool : List ℕ) (k t : ℕ) (q : List ℕ) (tn : length types ≡ 64) (ln : length lengths ≡ 64) (pn : length pool ≡ pool_size) (kn : length keys ≡ 64) where
  abbrev i : ℕ
  i = seat_of keys (suc k)

  abbrev command : Command
  command = record { packet_type = t; size = length q; payload = q }

  pub stored-commands : over_of keys lengths kept_limit ≡ false → seat_of keys (suc k) < 64 → length q ≤ kept_limit → places_of (set keys i (suc k)) (command_in (set types i t) (set lengths i (length q)) (paste pool (i * stride) q (length q))) ≡ stored (places_of keys (command_in types lengths pool)) k command
  stored-commands within place few = stored-places (command_in types lengths pool) (command_in (set types i t) (set lengths i (length q)) (paste pool (i * stride) q (length q))) keys k command same other
    where
      same : command_in (set types i t) (set lengths i (length q)) (paste pool (i * stride) q (length q)) i ≡ command
      same = rw (get_or-set_same types i t 0 (omega arith), get_or-set_same lengths i (length q) 0 (omega arith), payload_same pool i q pn place few)

      other : (j : ℕ) → (j ≡ i → ⊥) → (get_or keys j 0 ≡ 0 → ⊥) → command_in (set types i t) (set lengths i (length q)) (paste pool (i * stride) q (length q)) j ≡ command_in types lengths pool j
      other j ne full =
          rw (get_or-set_other types i j t 0 ne, get_or-set_other lengths i j (length q) 0 ne, payload-other pool i q pn place few j (get_or lengths j 0) ne (held_low keys lengths kept_limit within j (inside keys j full) full))

-- what `request_payload` gives is the payload that the tables hold, for every place and every length that a state within its limits has
pub request_payload-held : (pool : List ℕ) (place size : ℕ) → place < 64 → size ≤ kept_limit → request_payload pool place size ≡ payload_at pool place size
unfolding request_payload
request_payload-held pool place size p n = rw (lt-ltb place 64 p, le-ltb kept_limit size n)
