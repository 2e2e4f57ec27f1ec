-- A record says the event that it was made of; what an encoder writes is sound and stands at the start of the buffer; an answer is told
-- apart from any other by what it hands back. Assumes nothing.
use mathlib.Core.Path.{◌≡◌, refl, sym, ◌∙◌, ap}
use mathlib.Core.Option.{some}
use Prim.Native.Nat.{ℕ, suc, ◌+◌, ◌≤◌}
use mathlib.Core.Bool.{Bool, true, false, cond, not}
use mathlib.Core.List.{List, [], ◌∷◌, ◌++◌}
use native.Mathlib.Omega.{arith}
use native.Mathlib.Nat.{div-add-mod'}
use lib.ListN.{length, get_or, drop}
use lib.Seq.{take-append_seam, drop-append-add, get_or-append_seam}
use lib.Dec.{ltb}
use borrow.Author.Tests.{ltb-false}
use Rattle.laws.specs.Bytes.{laid_if}
use Rattle.laws.specs.Handed.{Handed, refused, value}
use Rattle.laws.specs.Numbers.{number_of}
use Rattle.sound_record.specs.Record.{written, sound_at, stands_at}
use Rattle.event_record.specs.Layout.{extra, framed}
use Rattle.event_record.specs.Event.{Event, enumeration_started, identity, version_text, enumeration_ended, slot_captured, slot_counter, packet, command, kind_of, body_of, record_of, event_of, gateway_in, says_of}
use Rattle.event_record.specs.Handed.{refusal_of, handed, framed_handed, record_handed, record_bytes}
use Rattle.std.specs.Prelude.{Some, Result, Ok, Err}
use Rattle.event_record.specs.declared.RecordError.{RecordError}
use Rattle.event_record.specs.declared.RecordError.TheVariants.{InvalidGatewayID, Unsound, NoRoom}
use Rattle.sound_record.proofs.Places.{stands-within}
use Rattle.event_record.proofs.Written.{drop-framed}

-- 01, "Event record": enumeration ended at 0x1201: 00 04 01 04 12 01
pub ended-1201 : record_of written 0x1201 enumeration_ended ≡ 0x00 ∷ 0x04 ∷ 0x01 ∷ 0x04 ∷ 0x12 ∷ 0x01 ∷ []
unfolding framed extra
ended-1201 = refl

-- any two answers of an encoder that hand back the same are the same
pub handed-apart : (x y : Result ℕ RecordError) → handed x ≡ handed y → x ≡ y
handed-apart (Ok m) (Ok n) e = let f : m ≡ n = cc in ap Ok f
handed-apart (Ok m) (Err y) e = let z : ◌≡◌ {A = ℕ} 0 1 = cc in absurd (omega arith)
handed-apart (Err x) (Ok n) e = let z : ◌≡◌ {A = ℕ} 0 1 = cc in absurd (omega arith)
handed-apart (Err x) (Err y) e = let f : number_of (refusal_of x) ≡ number_of (refusal_of y) = cc in ap Err (apart x y f)
  where
    apart : (x y : RecordError) → number_of (refusal_of x) ≡ number_of (refusal_of y) → x ≡ y
    apart InvalidGatewayID InvalidGatewayID e = refl
    apart Unsound Unsound e = refl
    apart NoRoom NoRoom e = refl
    apart InvalidGatewayID Unsound e = absurd (omega arith)
    apart InvalidGatewayID NoRoom e = absurd (omega arith)
    apart Unsound InvalidGatewayID e = absurd (omega arith)
    apart Unsound NoRoom e = absurd (omega arith)
    apart NoRoom InvalidGatewayID e = absurd (omega arith)
    apart NoRoom Unsound e = absurd (omega arith)

module _ (v : ℕ) where
  -- a body says the event that it was made of
  event-body : (e : Event) → event_of v (kind_of e) (body_of v e) ≡ some e
  unfolding event_of
  event-body enumeration_started = refl
  event-body (identity address) = refl
  event-body (version_text text) = refl
  event-body enumeration_ended = refl
  event-body slot_captured = refl
  event-body (slot_counter counter true) = ap (λ (n : ℕ). some (slot_counter n true)) (div-add-mod' counter 256)
  event-body (slot_counter counter false) = ap (λ (n : ℕ). some (slot_counter n false)) (div-add-mod' counter 256)
  event-body (packet bytes) = refl
  event-body (command t q u p) =
      let b : List ℕ = t ∷ length q ∷ (q ++ (u ∷ p)) in
      let k : 2 + length q ≡ suc (suc (length q)) = omega arith in
      let l : 2 + length q + 1 ≡ suc (suc (length q + 1)) = omega arith in
      let answered : get_or b (2 + length q) 0 ≡ u = ap (λ (n : ℕ). get_or b n 0) k ∙ get_or-append_seam q u p 0 in
      let response : drop (2 + length q + 1) b ≡ p = ap (λ (n : ℕ). drop n b) l ∙ drop-append-add q (u ∷ p) 1 in
      rw (take-append_seam q (u ∷ p), answered, response)

  module _ (g : ℕ) (e : Event) where
    -- a record says the gateway and the event that it was made of
    pub gateway-record : gateway_in (record_of v g e) ≡ g
    unfolding framed
    gateway-record = div-add-mod' g 256

    pub says-record : says_of v (record_of v g e) ≡ some e
    unfolding framed
    says-record = ap (event_of v (kind_of e)) (drop-framed v (kind_of e) g (body_of v e)) ∙ event-body e

  -- so two events with the same record are the same, at the same gateway
  pub one-event : (g h : ℕ) (e f : Event) → record_of v g e ≡ record_of v h f → (g ≡ h) × (e ≡ f)
  one-event g h e f s =
      let t : some e ≡ some f = sym (says-record g e) ∙ ap (says_of v) s ∙ says-record h f in
      (sym (gateway-record g e) ∙ ap gateway_in s ∙ gateway-record h f, cc)

-- what is written is sound, has its exact length, and stands at the start of the buffer
module _ (g : ℕ) (e : Event) where
  pub written-sound : (room n : ℕ) → record_handed g e room ≡ value n
      → (sound_at written (record_of written g e) ≡ true) × (n ≡ length (record_of written g e)) × (n ≤ room)
  unfolding framed_handed
  written-sound room n = go (ltb 0x7fff g) (sound_at written r) refl (ltb room (length r)) refl
    where
      r : List ℕ
      r = record_of written g e

      go : (a b : Bool) → sound_at written r ≡ b → (c : Bool) → ltb room (length r) ≡ c
          → cond a (refused 13) (cond (not b) (refused 41) (cond c (refused 40) (value (length r)))) ≡ value n
          → (sound_at written r ≡ true) × (n ≡ length r) × (n ≤ room)
      go true b s c f h = let z : ◌≡◌ {A = ℕ} 0 1 = cc in absurd (omega arith)
      go false false s c f h = let z : ◌≡◌ {A = ℕ} 0 1 = cc in absurd (omega arith)
      go false true s true f h = let z : ◌≡◌ {A = ℕ} 0 1 = cc in absurd (omega arith)
      go false true s false f h = let m : length r ≡ n = cc in (s, sym m, omega (arith, ltb-false room (length r) f))

  pub written_stands : (out : List ℕ) (n : ℕ) → record_handed g e (length out) ≡ value n → stands_at written (record_bytes g e out) 0 ≡ Some n
  written_stands out n h =
      let r = record_of written g e in
      let s = written-sound (length out) n h in
      let z : 0 + length r ≡ n = omega (arith, s.1) in
      ap (λ (x : Handed ℕ). stands_at written (laid_if x r out) 0) h
      ∙ stands-within written r s.0 [] (drop (length r) out)
      ∙ ap Some z
