-- Every event that the step gives is written without 13 and without 41: each of its records is sound. Assumes nothing.
use mathlib.Core.Path.{◌≡◌, refl, sym, ◌∙◌, ap, subst}
use Prim.Native.Nat.{ℕ, zero, suc, ◌+◌, ◌-◌, ◌≤◌, ◌<◌}
use mathlib.Core.Bool.{Bool, true, false, cond, not, ◌&&◌}
use mathlib.Core.List.{List, [], ◌∷◌, append-nil}
use mathlib.Core.Option.{some}
use native.Mathlib.Omega.{arith}
use lib.ListN.{length, get_or, take, drop, length-take, length-drop}
use lib.Seq.{length-take-le}
use lib.Dec.{eqb, ltb}
use borrow.Author.Tests.{not-false, eqb-true, ltb-true, ltb-false, le-ltb}
use Rattle.answers.specs.Stored.{kept_limit}
use Rattle.laws.specs.Bytes.{Bytes, be16_at}
use Rattle.laws.proofs.Bytes.{bytes_drop}
use Rattle.address.specs.Address.{gateway_of, address_of, is_from}
use Rattle.address.specs.declared.Address.TheVariants.{From, To}
use Rattle.utf8.specs.Scan.{is_text}
use Rattle.utf8.proofs.Laws.{is_text-text}
use Rattle.transport.specs.Status.{needed_of}
use Rattle.tables.specs.Keys.{first_of, over_of}
use Rattle.tables.specs.Places.{value_at}
use Rattle.tables.proofs.Laws.{first_holds}
use Rattle.tables.proofs.Places.{value_at-held, value_at-none}
use Rattle.sound_record.specs.Record.{written, sound_at}
use Rattle.event_record.specs.Event.{record_of}
use Rattle.event_record.specs.Event as kind
use Rattle.event_record.proofs.Written.{length-written}
use Rattle.event_record.proofs.Commands.{length-command}
use Rattle.event_record.proofs.Fit.{fits-started, fits-identity, fits-version, fits-ended, fits-captured, fits-counter, fits-command}
use Rattle.transport_receiver.specs.State.{State, Frame, Command, command_in, state_of}
use Rattle.transport_receiver.specs.Step.{Event, identity, event, step_of, is_over_limit, key_of, status_of}
use Rattle.transport_receiver.specs.declared.Receiver.{Receiver}
use Rattle.transport_receiver.proofs.Pool.{is_over_limit-places}
use Rattle.laws.proofs.Cases.{by}
use Rattle.event_log.specs.Records.{Entry, entry, records_of, bytes_of, any_over, any_unsound}
use Rattle.event_log.proofs.Areas.{none_over, none-unsound, space-small}
use Rattle.event_log.proofs.Writes.{length-slot}
use Rattle.event_log.proofs.Came.{NoneHolds, rows_of, passed-step, came}

-- records that 13 and 41 do not refuse
abbrev pub Fine : List Entry → Type 0
Fine xs = (any_over xs ≡ false) × (any_unsound xs ≡ false)

fine-one : (g : ℕ) (e : kind.Event) → g ≤ 0x7fff → sound_at written (record_of written g e) ≡ true → Fine (entry g e ∷ [])
fine-one g e h s = (rw (le-ltb 0x7fff g h), rw s)

-- a held place's length is within the limit, if none is over it
over-at : (keys lengths : List ℕ) (limit i : ℕ) → over_of keys lengths limit ≡ false → (get_or keys i 0 ≡ 0 → ⊥) → get_or lengths i 0 ≤ limit
unfolding over_of
over-at [] lengths limit i o h = absurd (h refl)
over-at (k ∷ ks) lengths limit zero o h = go (eqb k 0) refl (ltb limit (get_or lengths 0 0)) refl o
  where
    go : (t : Bool) → eqb k 0 ≡ t → (u : Bool) → ltb limit (get_or lengths 0 0) ≡ u → cond (not t && u) true (over_of ks (drop 1 lengths) limit) ≡ false → get_or lengths 0 0 ≤ limit
    go true e u v q = absurd (h (eqb-true k 0 e))
    go false e true v q = absurd (let z : ◌≡◌ {A = ℕ} 0 1 = cc in omega arith)
    go false e false v q = ltb-false limit (get_or lengths 0 0) v
over-at (k ∷ ks) [] limit (suc i) o h = omega arith
over-at (k ∷ ks) (l ∷ ls) limit (suc i) o h = over-at ks ls limit i (go (not (eqb k 0) && ltb limit l) o) h
  where
    go : (t : Bool) → cond t true (over_of ks ls limit) ≡ false → over_of ks ls limit ≡ false
    go true q = absurd (let z : ◌≡◌ {A = ℕ} 0 1 = cc in omega arith)
    go false q = q

-- the length of a waiting command's payload, in a state that 12 does not refuse
pub held_small : (r : Receiver) (k : ℕ) → over_of r.commands.keys r.commands.lengths kept_limit ≡ false → first_of r.commands.keys (suc k) < length r.commands.keys → get_or r.commands.lengths (first_of r.commands.keys (suc k)) 0 ≤ kept_limit
held_small r k o h = over-at r.commands.keys r.commands.lengths kept_limit (first_of r.commands.keys (suc k)) o (λ z. omega (arith, first_holds r.commands.keys (suc k) h))

command-small : (r : Receiver) (k : ℕ) (c : Command) → is_over_limit (state_of r).tables.commands ≡ false → value_at (state_of r).tables.commands k ≡ some c → length c.payload ≤ kept_limit
unfolding state_of
command-small r k c o v =
    let i = first_of r.commands.keys (suc k) in
    let values = command_in r.commands.types r.commands.lengths r.commands.payloads in
    by (ltb i (length r.commands.keys))
    (λ t. let h = ltb-true i (length r.commands.keys) t in
    let e : values i ≡ c = cc (value_at-held values r.commands.keys k h) in
    let n : get_or r.commands.lengths i 0 ≤ kept_limit = held_small r k (sym (is_over_limit-places r.commands.keys r.commands.types r.commands.lengths r.commands.payloads) ∙ o) h in
    subst (λ (d : Command). length d.payload ≤ kept_limit) e (simp length-take (omega arith)))
    (λ t. absurd (let z : ◌≡◌ {A = ℕ} 0 1 = cc (value_at-none values r.commands.keys k (ltb-false i (length r.commands.keys) t)) in omega arith))

-- in a state that 12 does not refuse, the payload of a waiting command has at most 245 bytes; so it is in every state that arrays mean
abbrev pub Small : State → Type 0
Small s = is_over_limit s.tables.commands ≡ false → (k : ℕ) (c : Command) → value_at s.tables.commands k ≡ some c → length c.payload ≤ kept_limit

pub arrays-small : (r : Receiver) → Small (state_of r)
arrays-small r o k c v = command-small r k c o v

-- a To address names a gateway of 15 bits
to-15 : (n : ℕ) → is_from (address_of n) ≡ false → gateway_of (address_of n) ≤ 0x7fff
unfolding address_of
to-15 n = go (ltb n 0x8000) refl
  where
    go : (t : Bool) → ltb n 0x8000 ≡ t → is_from (cond t (To (record { 0 = n })) (From (record { 0 = n - 0x8000 }))) ≡ false → gateway_of (cond t (To (record { 0 = n })) (From (record { 0 = n - 0x8000 }))) ≤ 0x7fff
    go true e q = omega (arith, ltb-true n 0x8000 e)
    go false e q = absurd (let z : ◌≡◌ {A = ℕ} 0 1 = cc in omega arith)

length-one : (g : ℕ) (e : kind.Event) → length (bytes_of written (entry g e ∷ [])) ≡ 6 + length (kind.body_of written e)
length-one g e = ap length (append-nil (record_of written g e)) ∙ length-written (kind.kind_of e) g (kind.body_of written e)

-- any frame of bytes, at any such state
module _ (s : State) (small : Small s) (f : Frame) (b : Bytes f.payload) (e : Event) (q : (step_of s f).outcome ≡ event e) where
  rows : NoneHolds (rows_of s f)
  rows = (passed-step s f e q).0

  gateway-15 : f.gateway ≤ 0x7fff
  gateway-15 = ltb-false 0x7fff f.gateway rows.1.0

  payload-250 : length f.payload ≤ 250
  payload-250 = ltb-false 250 (length f.payload) rows.1.1.0

  identified : not (eqb (length f.payload) 10) ≡ false → Fine (records_of (identity f.gateway (take 8 f.payload)))
  identified n =
      let l = eqb-true (length f.payload) 10 (not-false (eqb (length f.payload) 10) n) in
      fine-one f.gateway (kind.identity (take 8 f.payload)) gateway-15 (fits-identity f.gateway gateway-15 (take 8 f.payload) (length-take-le 8 f.payload (omega arith)))

  -- no record of the event is refused by 13 or 41
  pub every-sound : Fine (records_of e)
  every-sound =
      came s f (λ x. Fine (records_of x))
      (λ k. fine-one f.gateway kind.slot_captured gateway-15 (fits-captured f.gateway gateway-15))
      (λ k n m. let a = drop (needed_of (status_of f)) f.payload in (rw (le-ltb 0x7fff f.gateway gateway-15, none_over f.gateway gateway-15 _), rw (fits-counter f.gateway gateway-15 n m) (none-unsound f.gateway gateway-15 a (bytes_drop (needed_of (status_of f)) f.payload b))))
      (λ k c v. let l = small rows.0 (key_of f) c v in fine-one f.gateway (kind.command c.packet_type c.payload (get_or f.payload 3 0) (drop 5 f.payload)) gateway-15 (fits-command f.gateway gateway-15 c.packet_type c.payload (get_or f.payload 3 0) (drop 5 f.payload) (omega arith) (simp length-drop (omega (arith, payload-250)))))
      (λ k. let n : is_from (address_of (be16_at f.payload 4)) ≡ false = rw k at rows.1.1.1.1.1.1.1.1.1.1.0 in let h = to-15 (be16_at f.payload 4) n in fine-one (gateway_of (address_of (be16_at f.payload 4))) kind.enumeration_started h (fits-started (gateway_of (address_of (be16_at f.payload 4))) h))
      (λ k. identified (rw k at rows.1.1.1.1.1.1.0))
      (λ k. identified (rw k at rows.1.1.1.1.1.1.0))
      (λ k. let n : not (is_text f.payload) ≡ false = rw k at rows.1.1.1.1.1.1.1.1.1.1.1.0 in fine-one f.gateway (kind.version_text f.payload) gateway-15 (fits-version f.gateway gateway-15 f.payload (omega (arith, payload-250)) ((is_text-text f.payload).0 (not-false (is_text f.payload) n))))
      (λ k. fine-one f.gateway kind.enumeration_ended gateway-15 (fits-ended f.gateway gateway-15))
      e
      (passed-step s f e q).1

  -- and they are few bytes
  pub every-small : length (bytes_of written (records_of e)) ≤ 512
  every-small =
      came s f (λ x. length (bytes_of written (records_of x)) ≤ 512)
      (λ k. omega (arith, length-one f.gateway kind.slot_captured))
      (λ k n m. let a = drop (needed_of (status_of f)) f.payload in omega (arith, length-slot f.gateway n m a, space-small a, length-drop (needed_of (status_of f)) f.payload, payload-250))
      (λ k c v. let l = small rows.0 (key_of f) c v in omega (arith, length-one f.gateway (kind.command c.packet_type c.payload (get_or f.payload 3 0) (drop 5 f.payload)), length-command c.packet_type (get_or f.payload 3 0) c.payload (drop 5 f.payload), length-drop 5 f.payload, payload-250))
      (λ k. omega (arith, length-one (gateway_of (address_of (be16_at f.payload 4))) kind.enumeration_started))
      (λ k. identity-small)
      (λ k. identity-small)
      (λ k. omega (arith, length-one f.gateway (kind.version_text f.payload), payload-250))
      (λ k. omega (arith, length-one f.gateway kind.enumeration_ended))
      e
      (passed-step s f e q).1
    where
      identity-small : length (bytes_of written (records_of (identity f.gateway (take 8 f.payload)))) ≤ 512
      identity-small = let n : length (take 8 f.payload) ≤ 8 = simp length-take (omega arith) in omega (arith, length-one f.gateway (kind.identity (take 8 f.payload)))
