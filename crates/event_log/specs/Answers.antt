-- The event of an answer of the transport step, the log of frames, and how much room is left. Assumes nothing.
use Rattle.std.specs.Prelude.{ℕ, ◌-◌, List, [], ◌∷◌, ◌++◌, leb}
use Rattle.std.proofs.Math.Option.{Option}
use Rattle.transport_receiver.specs.Handed.{outcome_of}
use Rattle.transport_receiver.specs.Lent.{request_payload}
use Rattle.transport_receiver.specs.Step.{Event, event_of, Input, taken_of}
use Rattle.transport_receiver.specs.State.{State}
use Rattle.answers.specs.Refusals.{Answer}
use Rattle.event_log.specs.Records.{Entry, records_in}
use Rattle.std.specs.Prelude as std
use Rattle.std.specs.Bool.{then_some}

-- the event of an answer, of a frame of a gateway and the pool of the state after the step. Of a made-up answer it is what is there: an area past
-- the payload is empty, a long address has the bytes that the payload has of eight, and at no place of the pool stands an empty request
-- (`request_payload`)
abbrev pub event_in : List ℕ → ℕ → List ℕ → Answer → Option Event
event_in pool g p a = event_of (outcome_of (request_payload pool) g p a)

-- the log of inputs, one after another, from a state on
abbrev pub log_of : State → List Input → List Entry
log_of s [] = []
log_of s (i ∷ is) = records_in (event_of (taken_of s i).outcome) ++ log_of (taken_of s i).state is

-- what is left of a room after so many bytes, if it has them
unfoldable pub room_after : ℕ → ℕ → std.Option ℕ
room_after space room = then_some (leb space room) (room - space)
