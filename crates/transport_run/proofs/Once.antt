-- A refusal touches no table; a command is executed once, until a new request is stored under its key. Assumes nothing.
use mathlib.Core.Path.{◌≡◌, refl, sym, ◌∙◌}
use Prim.Native.Nat.{ℕ}
use mathlib.Core.Bool.{true, false}
use mathlib.Core.List.{List, [], ◌∷◌}
use mathlib.Core.Option.{Option, none, some}
use lib.ListN.{length}
use lib.Dec.{ltb}
use Rattle.laws.proofs.Cases.{by, never}
use Rattle.tables.specs.Places.{is_held, value_at, removed, Distinct}
use Rattle.tables.proofs.Maps.{value_at-stored-other, value_at-removed-unheld, unheld-value_at, value_at-unheld, is_held-removed}
use Rattle.answers.specs.Types
use Rattle.transport_receiver.specs.State.{State, Frame, Command}
use Rattle.transport_receiver.specs.Step.{Event, is_refusal, event, Result, Row, rows_of_any, rows_of_type, judged, accepted, executed_of, step_of, reset_of, is_over_limit, key_of, request_of, frame, reset}
use Rattle.transport_receiver.proofs.Cases.{accepted-cases, judged-cases}
use Rattle.transport_run.specs.Reached.{Since, here, on}
use Rattle.transport_run.proofs.Reached.{clash}

module _ (s : State) (f : Frame) where
  executed-silent : (o : Option Command) → is_refusal (executed_of o f) ≡ false
  executed-silent none = refl
  executed-silent (some c) = refl

  -- an accepted frame is not refused
  accepted-no-refusal : is_refusal (accepted s f).outcome ≡ false
  accepted-no-refusal =
      accepted-cases (λ (r : Result). is_refusal r.outcome ≡ false) s f
      (λ e. refl) (λ e. refl) (λ e. refl) (λ e. executed-silent (value_at s.tables.commands (key_of f)))
      (λ o i e. e)

  quiet-judged : (rows : List Row) → is_refusal (judged rows s f).outcome ≡ true → (judged rows s f).state.tables ≡ s.tables
  quiet-judged [] n = never (sym accepted-no-refusal ∙ n)
  quiet-judged (r ∷ rs) n = by r.holds (λ e. rw e) (λ e. rw e (quiet-judged rs (rw e at n)))

  -- no refusal touches a table
  pub quiet : is_refusal (step_of s f).outcome ≡ true → (step_of s f).state.tables ≡ s.tables
  unfolding step_of
  quiet n = quiet-judged (rows_of_any s f (rows_of_type s f)) n

  -- a key under which nothing waits: only a command request under it changes that
  module _ (k : ℕ) (gone : value_at s.tables.commands k ≡ none) (other : f.frame_type ≡ Types.command_request → key_of f ≡ k → ⊥) where
    Unheld : Result → Type 0
    Unheld r = value_at r.state.tables.commands k ≡ none

    unheld-accepted : Unheld (accepted s f)
    unfolding Unheld
    unheld-accepted =
        accepted-cases Unheld s f
        (λ e. gone)
        (λ e. gone)
        (λ e. value_at-stored-other s.tables.commands (key_of f) (request_of f.payload) k (λ p. other e (sym p)) ∙ gone)
        (λ e. value_at-removed-unheld s.tables.commands (key_of f) k (unheld-value_at s.tables.commands k gone))
        (λ o i e. gone)

    unheld-step : value_at (step_of s f).state.tables.commands k ≡ none
    unfolding step_of Unheld
    unheld-step = judged-cases Unheld s f (λ r. gone) unheld-accepted (rows_of_any s f (rows_of_type s f))

  -- a response whose request does not wait gives no event
  no-event : (e : Event) → value_at s.tables.commands (key_of f) ≡ none → f.frame_type ≡ Types.command_response → (step_of s f).outcome ≡ event e → ⊥
  unfolding step_of
  no-event e gone k got =
      by (is_over_limit s.tables.commands) (λ a. clash (rw (k, a) at got))
      (λ a. by (ltb 0x7fff f.gateway) (λ b. clash (rw (k, a, b) at got))
      (λ b. by (ltb 250 (length f.payload)) (λ c. clash (rw (k, a, b, c) at got))
      (λ c. by f.from
      (λ t. by (ltb (length f.payload) 5) (λ l. clash (rw (k, a, b, c, t, l) at got))
      (λ l. clash (rw (k, a, b, c, t, l, unheld-value_at s.tables.commands (key_of f) gone) at got)))
      (λ t. clash (rw (k, a, b, c, t) at got)))))

  -- a response that gives its event has taken its request out
  taken : (e : Event) → Distinct s.tables.commands → f.frame_type ≡ Types.command_response → (step_of s f).outcome ≡ event e → value_at (step_of s f).state.tables.commands (key_of f) ≡ none
  unfolding step_of
  taken e d k got =
      by (is_over_limit s.tables.commands) (λ a. clash (rw (k, a) at got))
      (λ a. by (ltb 0x7fff f.gateway) (λ b. clash (rw (k, a, b) at got))
      (λ b. by (ltb 250 (length f.payload)) (λ c. clash (rw (k, a, b, c) at got))
      (λ c. by f.from
      (λ t. by (ltb (length f.payload) 5) (λ l. clash (rw (k, a, b, c, t, l) at got))
      (λ l. by (is_held s.tables.commands (key_of f))
      (λ h. rw (k, a, b, c, t, l, h) (value_at-unheld (removed s.tables.commands (key_of f)) (key_of f) (is_held-removed s.tables.commands (key_of f) d)))
      (λ h. clash (rw (k, a, b, c, t, l, h) at got))))
      (λ t. clash (rw (k, a, b, c, t) at got)))))

unheld-reset : (s : State) (k : ℕ) → value_at s.tables.commands k ≡ none → value_at (reset_of s).state.tables.commands k ≡ none
unfolding reset_of
unheld-reset s k gone = by (is_over_limit s.tables.commands) (λ e. rw e gone) (λ e. rw e gone)

unheld-since : {k : ℕ} {s t : State} → Since k s t → value_at s.tables.commands k ≡ none → value_at t.tables.commands k ≡ none
unheld-since here gone = gone
unheld-since {k} (on {t} r (frame f) other) gone = unheld-step t f k (unheld-since r gone) (other f refl)
unheld-since {k} (on {t} r reset other) gone = unheld-reset t k (unheld-since r gone)

-- once a response has given its event, no response to that request gives one before a new request is stored under the key
pub answered-once : (s : State) (f : Frame) (e : Event) → Distinct s.tables.commands → f.frame_type ≡ Types.command_response → (step_of s f).outcome ≡ event e → {t : State} → Since (key_of f) (step_of s f).state t → (g : Frame) (e₂ : Event) → g.frame_type ≡ Types.command_response → key_of g ≡ key_of f → (step_of t g).outcome ≡ event e₂ → ⊥
answered-once s f e d k got {t} r g e₂ kg same = no-event t g e₂ (rw same (unheld-since r (taken s f e d k got))) kg
