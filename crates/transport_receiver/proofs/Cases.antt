-- An accepted frame is one of five: whatever holds of each holds of it. Assumes nothing.
use mathlib.Core.Path.{◌≡◌, refl}
use Prim.Native.Nat.{ℕ}
use mathlib.Core.Bool.{false}
use mathlib.Core.List.{List, [], ◌∷◌}
use lib.ListN.{drop}
use lib.Dec.{eqb}
use borrow.Author.Tests.{eqb-true}
use Rattle.laws.proofs.Cases.{by}
use Rattle.tables.specs.Places.{value_at}
use Rattle.transport.specs.Status.{needed_of}
use Rattle.answers.specs.Types
use Rattle.transport_receiver.specs.State.{State, Frame}
use Rattle.transport_receiver.specs.Step.{Outcome, is_refusal, Result, Row, status_of, number_in, captured, received, kept, executed, counted, accepted, judged, refuse}

module _ (P : Result → Type 0) (s : State) (f : Frame) where
  pub accepted-cases :
      (f.frame_type ≡ Types.receive_request → P (captured s f))
      → (f.frame_type ≡ Types.receive_response → P (received s f (number_in (value_at s.tables.numbers f.gateway)) (drop (needed_of (status_of f)) f.payload)))
      → (f.frame_type ≡ Types.command_request → P (kept s f))
      → (f.frame_type ≡ Types.command_response → P (executed s f))
      → ((o : Outcome) (i : ℕ) → is_refusal o ≡ false → P (counted s o i))
      → P (accepted s f)
  accepted-cases p1 p2 p3 p4 p =
      by (eqb f.frame_type Types.receive_request) (λ e. rw e (p1 (eqb-true _ _ e)))
      (λ e1. by (eqb f.frame_type Types.receive_response) (λ e. rw (e1, e) (p2 (eqb-true _ _ e)))
      (λ e2. by (eqb f.frame_type Types.command_request) (λ e. rw (e1, e2, e) (p3 (eqb-true _ _ e)))
      (λ e3. by (eqb f.frame_type Types.command_response) (λ e. rw (e1, e2, e3, e) (p4 (eqb-true _ _ e)))
      (λ e4. by (eqb f.frame_type Types.enumeration_start_request) (λ e. rw (e1, e2, e3, e4, e) (p _ _ refl))
      (λ e5. by (eqb f.frame_type Types.enumeration_response) (λ e. rw (e1, e2, e3, e4, e5, e) (p _ _ refl))
      (λ e6. by (eqb f.frame_type Types.identify_response) (λ e. rw (e1, e2, e3, e4, e5, e6, e) (p _ _ refl))
      (λ e7. by (eqb f.frame_type Types.version_response) (λ e. rw (e1, e2, e3, e4, e5, e6, e7, e) (p _ _ refl))
      (λ e8. by (eqb f.frame_type Types.enumeration_end_response) (λ e. rw (e1, e2, e3, e4, e5, e6, e7, e8, e) (p _ _ refl))
      (λ e9. rw (e1, e2, e3, e4, e5, e6, e7, e8, e9) (p _ _ refl))))))))))

  -- a judged frame is accepted, or refused by one of the rows
  pub judged-cases : ((r : Row) → P (refuse s r)) → P (accepted s f) → (rows : List Row) → P (judged rows s f)
  judged-cases q a [] = a
  judged-cases q a (r ∷ rs) = by r.holds (λ e. rw e (q r)) (λ e. rw e (judged-cases q a rs))
