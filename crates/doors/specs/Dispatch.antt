-- How the transport receiver's answers cross a door. Assumes nothing.
use Rattle.std.specs.Prelude.{ℕ, ◌*◌, ◌^◌, Bool, cond, List, [], ◌∷◌, Result, Ok, Err, unwrap_or}
use Rattle.answers.specs.Refusals.{Answer, refusal_number, length_needed}
use Rattle.answers.specs.declared.Accepted.TheVariants as accepted
use Rattle.transport_receiver.specs.declared.Receiver.{Receiver}
use Rattle.transport_receiver.specs.declared.OverLimit.{OverLimit}
use Rattle.transport_receiver.specs.State.{frame_of}
use Rattle.transport_receiver.specs.Lent.{Stepped, step_in}
use Rattle.doors.specs.Addresses.{toward}
use Rattle.doors.specs.declared.dispatch.Crossed.{Crossed}

-- a number, and four values besides
abbrev pub across : ℕ → ℕ → ℕ → ℕ → ℕ → Crossed
across n a b c d = record { number = n; news = a ∷ b ∷ c ∷ d ∷ [] }

-- 2^32 times the number of 01's table; 0 for a frame that is counted and no more, 9 for a command kept; else 01's kind of event. What is said
-- besides; zeros where there is nothing
abbrev pub crossed_by : Answer → Crossed
crossed_by (Err r) = across (refusal_number r * 2 ^ 32) (unwrap_or (length_needed r) 0) 0 0 0
crossed_by (Ok accepted.Counted) = across 0 0 0 0 0
crossed_by (Ok accepted.CommandKept) = across 9 0 0 0 0
crossed_by (Ok (accepted.EnumerationStarted gateway)) = across 1 gateway.0 0 0 0
crossed_by (Ok accepted.IdentityObserved) = across 2 0 0 0 0
crossed_by (Ok accepted.VersionObserved) = across 3 0 0 0 0
crossed_by (Ok accepted.EnumerationEnded) = across 4 0 0 0 0
crossed_by (Ok accepted.SlotCounterCaptured) = across 5 0 0 0 0
crossed_by (Ok (accepted.SlotCounterObserved number slot repeat area)) = across 6 number.0 slot.0 (cond repeat 1 0) area
crossed_by (Ok (accepted.CommandExecuted place request length response)) = across 8 place request.0 length response.0

-- an answer as one number ..
abbrev pub step_answer : Answer → ℕ
step_answer a = (crossed_by a).number

-- .. and what it says besides
abbrev pub step_news : Answer → List ℕ
step_news a = (crossed_by a).news

-- what comes of a frame From or To a gateway
abbrev pub stepped_at : Receiver → Bool → ℕ → ℕ → List ℕ → Stepped
stepped_at r «from» id frame_type payload = step_in r (frame_of (toward «from» id) (record { 0 = frame_type }) payload)

-- 12 where the state is over a limit
abbrev pub reset_answer : Result Unit OverLimit → ℕ
reset_answer (Ok done) = 0
reset_answer (Err over) = 12 * 2 ^ 32
