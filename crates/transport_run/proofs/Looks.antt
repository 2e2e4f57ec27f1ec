-- What a step hands back, and what it counts, depends on the tables only through the look-ups of the frame's keys, room for its entries, and 12.
-- Assumes nothing.
use mathlib.Core.Path.{◌≡◌, refl, sym, ◌∙◌, ap, subst}
use Prim.Native.Nat.{ℕ}
use mathlib.Core.List.{List, [], ◌∷◌}
use lib.Dec.{eqb}
use Rattle.laws.proofs.Cases.{by}
use Rattle.tables.specs.Places.{Place, is_held, value_at}
use Rattle.tables.proofs.Maps.{value_at-unheld, unheld-value_at}
use Rattle.answers.specs.Types
use Rattle.transport_receiver.specs.State.{State, Frame}
use Rattle.transport_receiver.specs.Step.{Result, Row, rows_of_any, rows_of_type, raise_any, judged, accepted, step_of, gateway_key_of, answer_key_of}
use Rattle.transport_run.specs.Looks.{LookSame}

-- whether a key is held is told by its look-up
is_held-same : {A : Type 0} (ps qs : List (Place A)) (k : ℕ) → value_at ps k ≡ value_at qs k → is_held ps k ≡ is_held qs k
is_held-same ps qs k e =
    by (is_held qs k)
    (λ b. by (is_held ps k) (λ a. a ∙ sym b) (λ a. a ∙ sym (unheld-value_at qs k (sym e ∙ value_at-unheld ps k a))))
    (λ b. unheld-value_at ps k (e ∙ value_at-unheld qs k b) ∙ sym b)

module _ (s t : State) (f : Frame) (h : LookSame f s.tables t.tables) (c : s.counters ≡ t.counters) where
  abbrev number-held : is_held s.tables.numbers (gateway_key_of f) ≡ is_held t.tables.numbers (gateway_key_of f)
  number-held = is_held-same s.tables.numbers t.tables.numbers (gateway_key_of f) h.number

  abbrev command-held : is_held s.tables.commands (answer_key_of f) ≡ is_held t.tables.commands (answer_key_of f)
  command-held = is_held-same s.tables.commands t.tables.commands (answer_key_of f) h.waiting

  -- what is handed back and what is counted
  abbrev Alike : Result → Result → Type 0
  Alike q r = (q.outcome ≡ r.outcome) × (q.state.counters ≡ r.state.counters)

  rows_same : rows_of_any s f (rows_of_type s f) ≡ rows_of_any t f (rows_of_type t f)
  rows_same = rw (h.over, h.number_room, h.sequence_room, h.command_room, number-held, command-held)

  accepted-same : Alike (accepted s f) (accepted t f)
  accepted-same =
      by (eqb f.frame_type Types.receive_request) (λ e. rw (e, c) (refl, refl))
      (λ e1. by (eqb f.frame_type Types.receive_response) (λ e. rw (e1, e, c, h.number) (refl, refl))
      (λ e2. by (eqb f.frame_type Types.command_request) (λ e. rw (e1, e2, e, c, h.sequence) (refl, refl))
      (λ e3. by (eqb f.frame_type Types.command_response) (λ e. rw (e1, e2, e3, e, c, h.waiting) (refl, refl))
      (λ e4. by (eqb f.frame_type Types.enumeration_start_request) (λ e. rw (e1, e2, e3, e4, e, c) (refl, refl))
      (λ e5. by (eqb f.frame_type Types.enumeration_response) (λ e. rw (e1, e2, e3, e4, e5, e, c) (refl, refl))
      (λ e6. by (eqb f.frame_type Types.identify_response) (λ e. rw (e1, e2, e3, e4, e5, e6, e, c) (refl, refl))
      (λ e7. by (eqb f.frame_type Types.version_response) (λ e. rw (e1, e2, e3, e4, e5, e6, e7, e, c) (refl, refl))
      (λ e8. by (eqb f.frame_type Types.enumeration_end_response) (λ e. rw (e1, e2, e3, e4, e5, e6, e7, e8, e, c) (refl, refl))
      (λ e9. rw (e1, e2, e3, e4, e5, e6, e7, e8, e9, c) (refl, refl))))))))))

  judged-same : (rows : List Row) → Alike (judged rows s f) (judged rows t f)
  judged-same [] = accepted-same
  judged-same (r ∷ rs) = by r.holds (λ e. rw e (refl, ap (raise_any r.counter) c)) (λ e. rw e (judged-same rs))

  -- two states that look the same to a frame, with the same counters, hand back the same and count the same
  pub looks-up : Alike (step_of s f) (step_of t f)
  unfolding step_of
  looks-up =
      subst (λ (rows : List Row). Alike (judged (rows_of_any s f (rows_of_type s f)) s f) (judged rows t f)) rows_same
      (judged-same (rows_of_any s f (rows_of_type s f)))
