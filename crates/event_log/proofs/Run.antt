-- The log of any frames that a fresh receiver is given: every record is sound, and the log is read back record by record. Assumes nothing.
use mathlib.Core.Path.{◌≡◌, refl}
use Prim.Native.Nat.{ℕ, zero, suc, ◌≤◌}
use mathlib.Core.Bool.{false}
use mathlib.Core.List.{List, [], ◌∷◌}
use mathlib.Core.Option.{some}
use native.Mathlib.Omega.{arith}
use lib.ListN.{length, get_or, set, replicate, length-drop}
use lib.Dec.{ltb}
use borrow.Author.Tests.{ltb-false}
use Rattle.answers.specs.Stored.{kept_limit}
use Rattle.laws.specs.Bytes.{Bytes}
use Rattle.tables.specs.Places.{Place, free, held, holder, seat, value_in, places_from}
use Rattle.sound_record.specs.Record.{written}
use Rattle.transport_receiver.specs.State.{State, Frame, Command, state_of, fresh}
use Rattle.transport_receiver.specs.Step.{Outcome, silent, event, Result, accepted, step_of, reset_of, is_over_limit, key_of, request_of, Input, frame, reset, event_of}
use Rattle.transport_receiver.proofs.Cases.{accepted-cases, judged-cases}
use Rattle.transport_receiver.specs.Step as step
use Rattle.laws.proofs.Cases.{by}
use Rattle.event_log.specs.Records.{records_in, bytes_of, any_unsound}
use Rattle.event_log.specs.Answers.{log_of}
use Rattle.event_log.proofs.Came.{rows_of}
use Rattle.event_log.proofs.Every.{Small, every-sound}
use Rattle.event_log.proofs.Log.{Holds, log-holds, none-unsound-append}

-- every waiting command's payload has at most 245 bytes
abbrev SmallAt : Place Command → Type 0
SmallAt free = Unit {0}
SmallAt (held k c) = length c.payload ≤ kept_limit

abbrev AllSmall : List (Place Command) → Type 0
AllSmall [] = Unit {0}
AllSmall (p ∷ ps) = SmallAt p × AllSmall ps

small-set : (ps : List (Place Command)) (i : ℕ) (x : Place Command) → AllSmall ps → SmallAt x → AllSmall (set ps i x)
small-set [] i x a s = tt
small-set (p ∷ ps) zero x a s = (s, a.1)
small-set (p ∷ ps) (suc i) x a s = (a.0, small-set ps i x a.1 s)

small-get_or : (ps : List (Place Command)) (i : ℕ) → AllSmall ps → SmallAt (get_or ps i free)
small-get_or [] i a = tt
small-get_or (p ∷ ps) zero a = a.0
small-get_or (p ∷ ps) (suc i) a = small-get_or ps i a.1

small-value : (p : Place Command) (c : Command) → SmallAt p → value_in p ≡ some c → length c.payload ≤ kept_limit
small-value free c a v = absurd (let z : ◌≡◌ {A = ℕ} 0 1 = cc in omega arith)
small-value (held k d) c a v = let e : d ≡ c = cc in rw (← e) a

all_small : (s : State) → AllSmall s.tables.commands → Small s
all_small s a o k c v = small-value (get_or s.tables.commands (holder s.tables.commands k) free) c (small-get_or s.tables.commands (holder s.tables.commands k) a) v

free-small : (values : ℕ → Command) (i n : ℕ) → AllSmall (places_from values i (replicate n 0))
unfolding places_from
free-small values i zero = tt
free-small values i (suc n) = (tt, free-small values (suc i) n)

fresh-small : AllSmall (state_of fresh).tables.commands
unfolding state_of
fresh-small = free-small _ 0 64

module _ (s : State) (a : AllSmall s.tables.commands) (f : Frame) where
  accepted-small : length f.payload ≤ 250 → AllSmall (accepted s f).state.tables.commands
  accepted-small l =
      accepted-cases (λ (r : Result). AllSmall r.state.tables.commands) s f
      (λ e. a) (λ e. a)
      (λ e. small-set s.tables.commands (seat s.tables.commands (key_of f)) (held (key_of f) (request_of f.payload)) a (simp length-drop (omega arith)))
      (λ e. small-set s.tables.commands (holder s.tables.commands (key_of f)) free a tt)
      (λ o i e. a)

  step_small : AllSmall (step_of s f).state.tables.commands
  unfolding step_of
  step_small =
      by (is_over_limit s.tables.commands) (λ t. rw t a)
      (λ t1. by (ltb 0x7fff f.gateway) (λ t. rw (t1, t) a)
      (λ t2. by (ltb 250 (length f.payload)) (λ t. rw (t1, t2, t) a)
      (λ t3. judged-cases (λ (r : Result). AllSmall r.state.tables.commands) s f (λ r. a) (accepted-small (ltb-false 250 (length f.payload) t3)) (rows_of s f))))

  one-sound : Bytes f.payload → (o : Outcome) → (step_of s f).outcome ≡ o → any_unsound (records_in (event_of o)) ≡ false
  one-sound b (step.refused n) e = refl
  one-sound b (step.refused_with n v) e = refl
  one-sound b silent e = refl
  one-sound b (event x) e = (every-sound s (all_small s a) f b x e).1

-- a reset gives no record, and touches no table
reset-small : (s : State) → AllSmall s.tables.commands → AllSmall (reset_of s).state.tables.commands
unfolding reset_of
reset-small s a = by (is_over_limit s.tables.commands) (λ e. rw e a) (λ e. rw e a)

reset-silent : (s : State) → records_in (event_of (reset_of s).outcome) ≡ []
unfolding reset_of
reset-silent s = by (is_over_limit s.tables.commands) (λ e. rw e) (λ e. rw e)

-- frames of bytes
abbrev pub AllBytes : List Input → Type 0
AllBytes [] = Unit {0}
AllBytes (frame f ∷ is) = Bytes f.payload × AllBytes is
AllBytes (reset ∷ is) = AllBytes is

log-sound : (s : State) → AllSmall s.tables.commands → (is : List Input) → AllBytes is → any_unsound (log_of s is) ≡ false
log-sound s a [] b = refl
log-sound s a (reset ∷ is) b = rw (reset-silent s) (log-sound (reset_of s).state (reset-small s a) is b)
log-sound s a (frame f ∷ fs) b =
    none-unsound-append (records_in (event_of (step_of s f).outcome)) (log_of (step_of s f).state fs) (one-sound s a f b.0 (step_of s f).outcome refl) (log-sound (step_of s f).state (step_small s a f) fs b.1)

-- whatever inputs come, from fresh: each record of the log is sound, and a reader finds just these records, up to the log's end
pub run_sound : (fs : List Input) → AllBytes fs → any_unsound (log_of (state_of fresh) fs) ≡ false
run_sound fs b = log-sound (state_of fresh) fresh-small fs b

pub run_holds : (fs : List Input) → AllBytes fs → Holds (bytes_of written (log_of (state_of fresh) fs)) 0 (log_of (state_of fresh) fs)
run_holds fs b = log-holds (log_of (state_of fresh) fs) (run_sound fs b)
