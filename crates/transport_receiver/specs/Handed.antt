-- 01's number and values for each answer of a step. Assumes nothing.
use Rattle.std.specs.Prelude.{ℕ, List, drop, Result, Ok, Err, Option, Some, None}
use Rattle.laws.specs.Numbers.{over_limit}
use Rattle.layouts.specs.Layouts.{long_address, response_data}
use Rattle.transport_receiver.specs.State.{Frame, state_of, payload_at}
use Rattle.transport_receiver.specs.Step.{enumeration_started, identity, version, enumeration_ended, slot_captured, slot_counter, command, Outcome, refused, refused_with, silent, event, Result as Told, refused_as}
use Rattle.transport_receiver.specs.Lent.{Stepped, WasReset}
use Rattle.transport_receiver.specs.declared.OverLimit.{OverLimit}
use Rattle.answers.specs.declared.Accepted.TheVariants as accepted
use Rattle.answers.specs.Refusals.{Answer, refusal_number, length_needed}

-- a refusal by its number, with the value that comes with it or without
abbrev pub refused_by : ℕ → Option ℕ → Outcome
refused_by n None = refused n
refused_by n (Some value) = refused_with n value

-- what is answered to a frame of the gateway g with the payload p, in 01's numbers and values: a part of the payload is that part; `asked` gives the
-- request payload of a length at a place of the pool
abbrev pub outcome_of : (ℕ → ℕ → List ℕ) → ℕ → List ℕ → Answer → Outcome
outcome_of asked g p (Err r) = refused_by (refusal_number r) (length_needed r)
outcome_of asked g p (Ok accepted.Counted) = silent
outcome_of asked g p (Ok accepted.CommandKept) = silent
outcome_of asked g p (Ok (accepted.EnumerationStarted gateway)) = event (enumeration_started gateway.0)
outcome_of asked g p (Ok accepted.IdentityObserved) = event (identity g (long_address p))
outcome_of asked g p (Ok accepted.VersionObserved) = event (version g p)
outcome_of asked g p (Ok accepted.EnumerationEnded) = event (enumeration_ended g)
outcome_of asked g p (Ok accepted.SlotCounterCaptured) = event (slot_captured g)
outcome_of asked g p (Ok (accepted.SlotCounterObserved number slot repeat area)) = event (slot_counter g slot.0 repeat (drop area p))
outcome_of asked g p (Ok (accepted.CommandExecuted place request length response)) = event (command g request.0 (asked place length) response.0 (response_data p))

-- an answer to a frame, with the pool of the state after it
abbrev pub handed : List ℕ → Frame → Answer → Outcome
handed pool f a = outcome_of (payload_at pool) f.gateway f.payload a

-- what a step says of a frame: what it hands back, and the tables and counters after it
abbrev pub told : Frame → Stepped → Told
told f t = record { outcome = handed t.receiver.commands.payloads f t.answer; state = state_of t.receiver }

-- an answer of the reset
abbrev pub handed_reset : Result Unit OverLimit → Outcome
handed_reset (Ok done) = silent
handed_reset (Err over) = refused_as over_limit

-- and of a reset
abbrev pub told_reset : WasReset → Told
told_reset w = record { outcome = handed_reset w.answer; state = state_of w.receiver }
