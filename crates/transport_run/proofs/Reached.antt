-- From fresh no table ever holds two places of one key; a response that found its request gets 30 the next time. Assumes nothing.
use mathlib.Core.Path.{◌≡◌}
use Prim.Native.Nat.{ℕ, zero, suc}
use mathlib.Core.Bool.{Bool, true, false, cond}
use mathlib.Core.List.{List, [], ◌∷◌}
use native.Mathlib.Omega.{arith}
use lib.ListN.{length, get_or, set, replicate, get_or-replicate, length-replicate, get_or-eq_default}
use lib.Dec.{ltb}
use borrow.Author.Tests.{ltb-true, ltb-false}
use Rattle.tables.specs.Places.{Place, free, holds, places_of, is_held, value_at, Distinct}
use Rattle.laws.specs.Bytes.{be16_at}
use Rattle.transport.specs.Number.{number_of}
use Rattle.tables.proofs.Places.{get_or-places}
use Rattle.tables.proofs.Maps.{distinct-stored, distinct-removed, is_held-removed}
use Rattle.layouts.specs.Layouts.{request_sequence}
use Rattle.answers.specs.Types
use Rattle.transport_receiver.specs.State.{State, Frame, Command, state_of, fresh}
use Rattle.transport_receiver.specs.Step.{Event, refused, event, Result, rows_of_any, rows_of_type, accepted, step_of, reset_of, is_over, is_over_limit, gateway_key_of, key_of, status_of, number_in, request_of, frame, reset}
use Rattle.transport_receiver.proofs.Cases.{accepted-cases, judged-cases}
use Rattle.transport_run.specs.Reached.{Reached, start, on, AllDistinct}
use Rattle.laws.proofs.Cases.{by}

-- a table with no key at all
zero-at : (n i : ℕ) → ◌≡◌ {A = ℕ} (get_or (replicate n 0) i 0) 0
zero-at n i = by (ltb i n) (λ t. get_or-replicate n i 0 0 (ltb-true i n t)) (λ t. get_or-eq_default (replicate n 0) 0 (omega (arith, ltb-false i n t, length-replicate {A = ℕ} n 0)))

pub all-free-at : {A : Type 0} (n : ℕ) (values : ℕ → A) (i k : ℕ) → holds k (get_or (places_of (replicate n 0) values) i free) ≡ false
all-free-at n values i k = rw (get_or-places values (replicate n 0) i, zero-at n i)

all-free : {A : Type 0} (n : ℕ) (values : ℕ → A) → Distinct (places_of (replicate n 0) values)
all-free n values i j k a b = absurd (let z : ◌≡◌ {A = ℕ} 0 1 = cc (all-free-at n values i k) in omega arith)

distinct-fresh : AllDistinct (state_of fresh).tables
unfolding state_of
distinct-fresh = record { numbers = all-free 32 _; sequences = all-free 32 _; commands = all-free 64 _ }

module _ (s : State) (f : Frame) (d : AllDistinct s.tables) where
  abbrev Kept : Result → Type 0
  Kept r = AllDistinct r.state.tables

  distinct-accepted : Kept (accepted s f)
  distinct-accepted =
      accepted-cases Kept s f
      (λ e. record { numbers = distinct-stored s.tables.numbers (gateway_key_of f) (be16_at f.payload 2) d.numbers; sequences = d.sequences; commands = d.commands })
      (λ e. record { numbers = distinct-stored s.tables.numbers (gateway_key_of f) (number_of (status_of f) f.payload (number_in (value_at s.tables.numbers (gateway_key_of f)))) d.numbers; sequences = d.sequences; commands = d.commands })
      (λ e. record { numbers = d.numbers; sequences = distinct-stored s.tables.sequences (gateway_key_of f) (request_sequence f.payload) d.sequences; commands = distinct-stored s.tables.commands (key_of f) (request_of f.payload) d.commands })
      (λ e. record { numbers = d.numbers; sequences = d.sequences; commands = distinct-removed s.tables.commands (key_of f) d.commands })
      (λ o i e. d)

  pub distinct-step : AllDistinct (step_of s f).state.tables
  unfolding step_of
  distinct-step = judged-cases Kept s f (λ r. d) distinct-accepted (rows_of_any s f (rows_of_type s f))

pub distinct-reset : (s : State) → AllDistinct s.tables → AllDistinct (reset_of s).state.tables
unfolding reset_of
distinct-reset s d = by (is_over_limit s.tables.commands) (λ e. rw e d) (λ e. rw e d)

-- from fresh no table ever holds two places of one key
pub distinct-reached : {s : State} → Reached s → AllDistinct s.tables
distinct-reached start = distinct-fresh
distinct-reached (on {s} r (frame f)) = distinct-step s f (distinct-reached r)
distinct-reached (on {s} r reset) = distinct-reset s (distinct-reached r)

-- freeing a place puts no length over its limit
over-freed : (ps : List (Place Command)) (i : ℕ) → is_over_limit ps ≡ false → is_over_limit (set ps i free) ≡ false
unfolding is_over_limit
over-freed [] i e = e
over-freed (p ∷ ps) zero e = go (is_over p) e
  where
    go : (t : Bool) → cond t true (is_over_limit ps) ≡ false → is_over_limit ps ≡ false
    go true e = absurd (let z : ◌≡◌ {A = ℕ} 0 1 = cc in omega arith)
    go false e = e
over-freed (p ∷ ps) (suc i) e = go (is_over p) e (over-freed ps i)
  where
    go : (t : Bool) → cond t true (is_over_limit ps) ≡ false → (is_over_limit ps ≡ false → is_over_limit (set ps i free) ≡ false) → cond t true (is_over_limit (set ps i free)) ≡ false
    go true e r = absurd (let z : ◌≡◌ {A = ℕ} 0 1 = cc in omega arith)
    go false e r = r e

pub clash : {P : Type 0} {n : ℕ} {e : Event} → refused n ≡ event e → P
clash q = absurd (let z : ◌≡◌ {A = ℕ} 0 1 = cc in omega arith)

-- a response that found its request, given again, gets 30: its request is gone until a new one is stored
pub again-30 : (s : State) (f : Frame) (e : Event) → Distinct s.tables.commands → f.frame_type ≡ Types.command_response → (step_of s f).outcome ≡ event e → (step_of (step_of s f).state f).outcome ≡ refused 30
unfolding step_of
again-30 s f e d k got =
    by (is_over_limit s.tables.commands) (λ a. clash (rw (k, a) at got))
    (λ a. by (ltb 0x7fff f.gateway) (λ b. clash (rw (k, a, b) at got))
    (λ b. by (ltb 250 (length f.payload)) (λ c. clash (rw (k, a, b, c) at got))
    (λ c. by f.from
    (λ t. by (ltb (length f.payload) 5) (λ l. clash (rw (k, a, b, c, t, l) at got))
    (λ l. by (is_held s.tables.commands (key_of f))
    (λ h. rw (k, a, b, c, t, l, h) (rw (over-freed s.tables.commands _ a, is_held-removed s.tables.commands (key_of f) d)))
    (λ h. clash (rw (k, a, b, c, t, l, h) at got))))
    (λ t. clash (rw (k, a, b, c, t) at got)))))
