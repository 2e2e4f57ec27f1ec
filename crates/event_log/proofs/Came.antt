-- Where an event of the step comes from: a frame that no row refuses, of one of the eight types that have one. Assumes nothing.
use mathlib.Core.Path.{◌≡◌, refl, sym, ◌∙◌, ap, subst}
use Prim.Native.Nat.{ℕ}
use mathlib.Core.Bool.{Bool, true, false}
use mathlib.Core.List.{List, [], ◌∷◌}
use mathlib.Core.Option.{Option, none, some}
use native.Mathlib.Omega.{arith}
use lib.ListN.{take, drop, get_or}
use lib.Dec.{eqb}
use borrow.Author.Tests.{eqb-true}
use Rattle.laws.proofs.Cases.{by, never}
use Rattle.laws.specs.Bytes.{be16_at}
use Rattle.address.specs.Address.{gateway_of, address_of}
use Rattle.transport.specs.Status.{needed_of}
use Rattle.tables.specs.Places.{value_at}
use Rattle.answers.specs.Types
use Rattle.transport_receiver.specs.State.{State, Frame, Command}
use Rattle.transport_receiver.specs.Step.{is_refusal, Event, enumeration_started, identity, version, enumeration_ended, slot_captured, slot_counter, command, silent, event, Row, rows_of_any, rows_of_type, judged, accepted, executed_of, step_of, key_of, status_of}

abbrev pub NoneHolds : List Row → Type 0
NoneHolds [] = Unit {0}
NoneHolds (r ∷ rs) = (r.holds ≡ false) × NoneHolds rs

abbrev Refusals : List Row → Type 0
Refusals [] = Unit {0}
Refusals (r ∷ rs) = (is_refusal r.outcome ≡ true) × Refusals rs

passed : (rows : List Row) (s : State) (f : Frame) (e : Event) → Refusals rows → (judged rows s f).outcome ≡ event e → NoneHolds rows × ((accepted s f).outcome ≡ event e)
passed [] s f e n q = (tt, q)
passed (r ∷ rs) s f e n q =
    by r.holds
    (λ t. let u : r.outcome ≡ event e = rw t at q in never (sym (ap is_refusal u) ∙ n.0))
    (λ t. let u = passed rs s f e n.1 (rw t at q) in ((t, u.0), u.1))

-- the rows of 01's table, in order
abbrev pub rows_of : State → Frame → List Row
rows_of s f = rows_of_any s f (rows_of_type s f)

pub passed-step : (s : State) (f : Frame) (e : Event) → (step_of s f).outcome ≡ event e → NoneHolds (rows_of s f) × ((accepted s f).outcome ≡ event e)
unfolding step_of
passed-step s f e q = passed (rows_of s f) s f e (refl, (refl, (refl, (refl, (refl, (refl, (refl, (refl, (refl, (refl, (refl, (refl, (refl, (refl, (refl, (refl, tt)))))))))))))))) q

-- what is to be shown of an event is shown of each type's
module _ (s : State) (f : Frame) (P : Event → Type 0)
    (captured : f.frame_type ≡ Types.receive_request → P (slot_captured f.gateway))
    (received : f.frame_type ≡ Types.receive_response → (n : ℕ) (m : Bool) → P (slot_counter f.gateway n m (drop (needed_of (status_of f)) f.payload)))
    (executed : f.frame_type ≡ Types.command_response → (c : Command) → value_at s.tables.commands (key_of f) ≡ some c → P (command f.gateway c.packet_type c.payload (get_or f.payload 3 0) (drop 5 f.payload)))
    (started : f.frame_type ≡ Types.enumeration_start_request → P (enumeration_started (gateway_of (address_of (be16_at f.payload 4)))))
    (enumerated : f.frame_type ≡ Types.enumeration_response → P (identity f.gateway (take 8 f.payload)))
    (identified : f.frame_type ≡ Types.identify_response → P (identity f.gateway (take 8 f.payload)))
    (versioned : f.frame_type ≡ Types.version_response → P (version f.gateway f.payload))
    (ended : f.frame_type ≡ Types.enumeration_end_response → P (enumeration_ended f.gateway))
    (e : Event) where
  is : (x : Event) → P x → event x ≡ event e → P e
  is x p q = let z : x ≡ e = cc in subst P z p

  quiet : silent ≡ event e → P e
  quiet q = absurd (let z : ◌≡◌ {A = ℕ} 0 1 = cc in omega arith)

  answered : f.frame_type ≡ Types.command_response → (v : Option Command) → value_at s.tables.commands (key_of f) ≡ v → executed_of v f ≡ event e → P e
  answered k none u q = quiet q
  answered k (some c) u q = is _ (executed k c u) q

  pub came : (accepted s f).outcome ≡ event e → P e
  came q =
      by (eqb f.frame_type Types.receive_request) (λ t. is _ (captured (eqb-true _ _ t)) (rw t at q))
      (λ t1. by (eqb f.frame_type Types.receive_response) (λ t. is _ (received (eqb-true _ _ t) _ _) (rw (t1, t) at q))
      (λ t2. by (eqb f.frame_type Types.command_request) (λ t. quiet (rw (t1, t2, t) at q))
      (λ t3. by (eqb f.frame_type Types.command_response) (λ t. answered (eqb-true _ _ t) (value_at s.tables.commands (key_of f)) refl (rw (t1, t2, t3, t) at q))
      (λ t4. by (eqb f.frame_type Types.enumeration_start_request) (λ t. is _ (started (eqb-true _ _ t)) (rw (t1, t2, t3, t4, t) at q))
      (λ t5. by (eqb f.frame_type Types.enumeration_response) (λ t. is _ (enumerated (eqb-true _ _ t)) (rw (t1, t2, t3, t4, t5, t) at q))
      (λ t6. by (eqb f.frame_type Types.identify_response) (λ t. is _ (identified (eqb-true _ _ t)) (rw (t1, t2, t3, t4, t5, t6, t) at q))
      (λ t7. by (eqb f.frame_type Types.version_response) (λ t. is _ (versioned (eqb-true _ _ t)) (rw (t1, t2, t3, t4, t5, t6, t7, t) at q))
      (λ t8. by (eqb f.frame_type Types.enumeration_end_response) (λ t. is _ (ended (eqb-true _ _ t)) (rw (t1, t2, t3, t4, t5, t6, t7, t8, t) at q))
      (λ t9. quiet (rw (t1, t2, t3, t4, t5, t6, t7, t8, t9) at q))))))))))
