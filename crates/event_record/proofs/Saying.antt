-- Every sound record of bytes is the record of the event that it says: soundness lets through the encoders' records and nothing else.
-- Assumes nothing.
use mathlib.Core.Path.{◌≡◌, refl, sym, ◌∙◌, ap}
use mathlib.Core.Option.{some}
use Prim.Native.Nat.{ℕ, zero, suc, ◌+◌, ◌*◌, ◌/◌, ◌%◌, ◌≤◌, ◌<◌}
use mathlib.Core.Bool.{true, false}
use mathlib.Core.List.{List, [], ◌∷◌, ◌++◌}
use native.Mathlib.Omega.{arith}
use lib.ListN.{length, get_or, take, drop}
use lib.Seq.{length-take-le, split_at, get_or-drop}
use lib.Dec.{leb, eqb}
use borrow.Author.Tests.{eqb-true, leb-true}
use Rattle.laws.specs.Bytes.{Bytes}
use Rattle.sound_record.specs.Record.{kind_at, between, body_start, is_counter, is_body, sound_body, all_below, sound_at}
use Rattle.event_record.specs.Layout.{extra, framed}
use Rattle.event_record.specs.Event.{Event, enumeration_started, identity, version_text, enumeration_ended, slot_captured, slot_counter, packet, command, kind_of, body_of, record_of, event_of, gateway_in, says_of}
use Rattle.sound_record.proofs.Numbers.{numbers}
use Rattle.sound_record.proofs.Soundness.{Parts, both, sound-parts, sound_body-1, sound_body-4, sound_body-5, sound_body-8, sound_body-other}
use Rattle.event_record.proofs.Written.{sound-small}

-- an event that a body of a kind says, and that has just that body
pub record Said (v k : ℕ) (b : List ℕ) : Type 0 where
  pub event : Event
  pub says : event_of v k b ≡ some event
  pub kind : kind_of event ≡ k
  pub body : body_of v event ≡ b

empty : (b : List ℕ) → eqb (length b) 0 ≡ true → [] ≡ b
empty [] e = refl
empty (x ∷ xs) e = absurd (omega (arith, eqb-true (length (x ∷ xs)) 0 e))

module _ (v : ℕ) where
  no_kind : {P : Type 0} (k : ℕ) (b : List ℕ) → 8 < k → sound_body v k b ≡ true → P
  no_kind k b h s =
      let f : sound_body v k b ≡ false = sound_body-other v b k (λ kind e. omega (arith, numbers kind)) in
      let z : ◌≡◌ {A = ℕ} 0 1 = cc in
      absurd (omega arith)

  counted : (b : List ℕ) → sound_body v 6 b ≡ true → (length b ≡ 3) × (get_or b 2 0 ≤ 1)
  unfolding sound_body is_body
  counted b s =
      let t = both (leb (length b) 1024) (is_counter b) s in
      let u = both (eqb (length b) 3) (leb (get_or b 2 0) 1) t.1 in
      (eqb-true (length b) 3 u.0, leb-true (get_or b 2 0) 1 u.1)

  counter : (b : List ℕ) → Bytes b → length b ≡ 3 → get_or b 2 0 ≤ 1 → Said v 6 b
  unfolding event_of
  counter [] h l m = absurd (omega arith)
  counter (x ∷ []) h l m = absurd (omega arith)
  counter (x ∷ y ∷ []) h l m = absurd (omega arith)
  counter (x ∷ y ∷ z ∷ u ∷ w) h l m = absurd (omega arith)
  counter (x ∷ y ∷ zero ∷ []) h l m =
      let d : (x * 256 + y) / 256 ≡ x = omega (arith, h 1) in
      let r : (x * 256 + y) % 256 ≡ y = omega (arith, h 1) in
      record { event = slot_counter (x * 256 + y) false; says = refl; kind = refl; body = rw (d, r) }
  counter (x ∷ y ∷ suc zero ∷ []) h l m =
      let d : (x * 256 + y) / 256 ≡ x = omega (arith, h 1) in
      let r : (x * 256 + y) % 256 ≡ y = omega (arith, h 1) in
      record { event = slot_counter (x * 256 + y) true; says = refl; kind = refl; body = rw (d, r) }
  counter (x ∷ y ∷ suc (suc z) ∷ []) h l m = absurd (omega arith)

  asked : (b : List ℕ) → 3 + get_or b 1 0 ≤ length b → Said v 8 b
  unfolding event_of
  asked [] h = absurd (omega arith)
  asked (t ∷ []) h = absurd (omega arith)
  asked (t ∷ n ∷ rest) h =
      let k : 2 + n ≡ suc (suc n) = omega arith in
      let m : 2 + n + 1 ≡ suc (suc (suc n)) = omega arith in
      let l : length (take n rest) ≡ n = length-take-le n rest (omega arith) in
      let s : rest ≡ take n rest ++ get_or rest n 0 ∷ drop (suc n) rest = split_at rest n 0 (omega arith) in
      record {
        event = command t (take n rest) (get_or rest n 0) (drop (suc n) rest);
        says = rw (m, k);
        kind = refl;
        body = rw l (ap (λ (x : List ℕ). t ∷ n ∷ x) (sym s));
      }

  said : (k : ℕ) (b : List ℕ) → Bytes b → sound_body v k b ≡ true → Said v k b
  unfolding event_of
  said zero b h s = let f : sound_body v 0 b ≡ false = sound_body-other v b 0 (λ kind e. omega (arith, numbers kind)) in let z : ◌≡◌ {A = ℕ} 0 1 = cc in absurd (omega arith)
  said (suc zero) b h s = record { event = enumeration_started; says = refl; kind = refl; body = empty b (sym (sound_body-1 v b) ∙ s) }
  said (suc (suc zero)) b h s = record { event = identity b; says = refl; kind = refl; body = refl }
  said (suc (suc (suc zero))) b h s = record { event = version_text b; says = refl; kind = refl; body = refl }
  said (suc (suc (suc (suc zero)))) b h s = record { event = enumeration_ended; says = refl; kind = refl; body = empty b (sym (sound_body-4 v b) ∙ s) }
  said (suc (suc (suc (suc (suc zero))))) b h s = record { event = slot_captured; says = refl; kind = refl; body = empty b (sym (sound_body-5 v b) ∙ s) }
  said (suc (suc (suc (suc (suc (suc zero)))))) b h s = let p = counted b s in counter b h p.0 p.1
  said (suc (suc (suc (suc (suc (suc (suc zero))))))) b h s = record { event = packet b; says = refl; kind = refl; body = refl }
  said (suc (suc (suc (suc (suc (suc (suc (suc zero)))))))) b h s =
      asked b (leb-true (3 + get_or b 1 0) (length b) (sym (sound_body-8 v b (h 1) (sound-small v 8 b s)) ∙ s))
  said (suc (suc (suc (suc (suc (suc (suc (suc (suc k))))))))) b h s = no_kind _ b (omega arith) s

-- what may stand between gateway and body is what is written there, and nothing else
extra-told : (v : ℕ) (rest : List ℕ) → all_below (between v) rest ≡ true → extra v ++ drop (length (between v)) rest ≡ rest
unfolding extra between
extra-told v rest m = refl

-- the head of a sound record is the one that is written
parts-framed : (v : ℕ) (r : List ℕ) → Bytes r → Parts v r → framed v (get_or r kind_at 0) (gateway_in r) (drop (body_start v) r) ≡ r
unfolding framed
parts-framed v [] h p = absurd (omega (arith, p.head))
parts-framed v (a ∷ []) h p = absurd (omega (arith, p.head))
parts-framed v (a ∷ b ∷ []) h p = absurd (omega (arith, p.head))
parts-framed v (a ∷ b ∷ w ∷ []) h p = absurd (omega (arith, p.head))
parts-framed v (a ∷ b ∷ w ∷ k ∷ []) h p = absurd (omega (arith, p.head))
parts-framed v (a ∷ b ∷ w ∷ k ∷ c ∷ []) h p = absurd (omega (arith, p.head))
parts-framed v (a ∷ b ∷ w ∷ k ∷ c ∷ d ∷ rest) h p =
    let m : body_start v ≡ suc (suc (suc (suc (suc (suc (length (between v))))))) = omega arith in
    let n : ℕ = suc (suc (suc (suc (length rest)))) in
    let e₁ : n / 256 ≡ a = omega (arith, p.whole, h 1) in
    let e₂ : n % 256 ≡ b = omega (arith, p.whole, h 1) in
    let e₃ : (c * 256 + d) / 256 ≡ c = omega (arith, h 5) in
    let e₄ : (c * 256 + d) % 256 ≡ d = omega (arith, h 5) in
    rw (m, extra-told v rest p.between, e₁, e₂, e₃, e₄, p.version)

module _ (v : ℕ) (r : List ℕ) (h : Bytes r) (s : sound_at v r ≡ true) where
  -- what a sound record says
  pub told : Said v (get_or r kind_at 0) (drop (body_start v) r)
  told = said v (get_or r kind_at 0) (drop (body_start v) r) (λ i. rw (get_or-drop (body_start v) r i 0) (h (body_start v + i))) (sound-parts v r s).body

  pub record-says : says_of v r ≡ some told.event
  record-says = told.says

  pub record-told : record_of v (gateway_in r) told.event ≡ r
  record-told = rw (told.kind, told.body) (parts-framed v r h (sound-parts v r s))
