-- What a sound frame means: 01's refusals in their order, and what an accepted frame does. Assumes nothing.
use Rattle.std.specs.Prelude.{ℕ, Bool, true, false, cond, not, ◌&&◌, ◌||◌, List, [], ◌∷◌, length, drop, replicate, eqb, ltb}
use Rattle.std.proofs.Math.Option.{Option, none, some}
use Rattle.laws.specs.Bytes.{be16_at}
use Rattle.laws.specs.Numbers.{Refusal, number_of as refusal_number, over_limit, invalid_id, wrong_direction, wrong_length, wrong_status, too_short, unknown_gateway, numbers_full, sequences_full, commands_full, names_from, no_text, no_request, unhandled_type, payload_too_long}
use Rattle.address.specs.Address.{id_limit, gateway_of, is_from}
use Rattle.link.specs.Wire.{payload_limit}
use Rattle.utf8.specs.Scan.{is_text}
use Rattle.transport.specs.Status.{accepted_of, needed_of, slot_counter_at}
use Rattle.transport.specs.Number.{number_of}
use Rattle.layouts.specs.Layouts.{command_request_length, command_response_length, receive_request_length, identify_response_length, enumeration_start_request_length, request_type, request_sequence, request_data, response_type, response_sequence, response_data, requested_number, long_address, enumeration_address}
use Rattle.tables.specs.Places.{Place, free, held, is_held, has_room, stored, removed, value_at}
use Rattle.answers.specs.Counters
use Rattle.answers.specs.Counters.{raise, count_packets, counter_count}
use Rattle.answers.specs.Types
use Rattle.answers.specs.Types.{is_one_of, is_named, invalid_of, counter_of}
use Rattle.answers.specs.Stored.{gateway_key, command_key, kept_limit, repeats}
use Rattle.transport_receiver.specs.State.{Command, State, Frame}

-- 01, "Event record": what an event says; its gateway comes first
pub data Event : Type 0 where
  enumeration_started : ℕ → Event
  identity : ℕ → List ℕ → Event
  version : ℕ → List ℕ → Event
  enumeration_ended : ℕ → Event
  slot_captured : ℕ → Event
  -- slot counter, repeat mark, packet area
  slot_counter : ℕ → ℕ → Bool → List ℕ → Event
  -- request type and payload, response type and payload
  command : ℕ → ℕ → List ℕ → ℕ → List ℕ → Event

-- what a step hands back: a number of 01's table, alone or with a value (23 has the length needed), or that the frame is accepted, with its event if it has one
pub data Outcome : Type 0 where
  refused : ℕ → Outcome
  refused_with : ℕ → ℕ → Outcome
  silent : Outcome
  event : Event → Outcome

-- a refusal, handed back by its number
abbrev pub refused_as : Refusal → Outcome
refused_as r = refused (refusal_number r)

-- a number of 01's table, with a value or without
abbrev pub is_refusal : Outcome → Bool
is_refusal (refused n) = true
is_refusal (refused_with n value) = true
is_refusal silent = false
is_refusal (event e) = false

-- the event of what is handed back, if it has one
abbrev pub event_of : Outcome → Option Event
event_of (refused n) = none
event_of (refused_with n value) = none
event_of silent = none
event_of (event e) = some e

-- what a step hands back, and the state after it
pub record Result : Type 0 where
  pub outcome : Outcome
  pub state : State

-- the key of a frame's gateway, in the tables of packet numbers and of last sequences
abbrev pub gateway_key_of : Frame → ℕ
gateway_key_of f = gateway_key f.gateway

-- the key of a command's request: 01, "Transport": a command request is kept under gateway and sequence
abbrev pub key_of : Frame → ℕ
key_of f = command_key f.gateway (request_sequence f.payload)

-- and of a command's response, which takes its request out
abbrev pub answer_key_of : Frame → ℕ
answer_key_of f = command_key f.gateway (response_sequence f.payload)

-- 01, "Numbers handed back", 12: state with a length over its limit. Only a held place's length can be
abbrev pub is_over : Place Command → Bool
is_over free = false
is_over (held k c) = ltb kept_limit c.size

-- .. at any place
unfoldable pub is_over_limit : List (Place Command) → Bool
is_over_limit [] = false
is_over_limit (p ∷ ps) = cond (is_over p) true (is_over_limit ps)

-- 20: wrong direction, or enumeration start not To 0
abbrev pub has_wrong_direction : Frame → Bool
has_wrong_direction f =
    cond (is_one_of (Types.receive_request ∷ Types.command_request ∷ []) f.frame_type) f.from
    (cond (eqb f.frame_type Types.enumeration_start_request) (f.from || not (eqb f.gateway 0))
    (cond (is_one_of (Types.receive_response ∷ Types.command_response ∷ Types.enumeration_response ∷ Types.identify_response ∷ Types.version_response ∷ Types.enumeration_end_response ∷ []) f.frame_type) (not f.from)
    false))

-- 21: wrong or short fixed length
abbrev pub has_wrong_length : Frame → Bool
has_wrong_length f =
    cond (eqb f.frame_type Types.receive_request) (not (eqb (length f.payload) receive_request_length))
    (cond (is_one_of (Types.identify_response ∷ Types.enumeration_response ∷ []) f.frame_type) (not (eqb (length f.payload) identify_response_length))
    (cond (eqb f.frame_type Types.enumeration_start_request) (not (eqb (length f.payload) enumeration_start_request_length))
    (cond (eqb f.frame_type Types.command_request) (ltb (length f.payload) command_request_length)
    (cond (eqb f.frame_type Types.command_response) (ltb (length f.payload) command_response_length)
    false))))

-- a receive response's status word
abbrev pub status_of : Frame → ℕ
status_of f = be16_at f.payload 0

-- a refusal: when its row holds, what it hands back, and the counter that it raises, if any
pub record Row : Type 0 where
  pub holds : Bool
  pub outcome : Outcome
  pub counter : Option ℕ

-- such a row, by its three parts
abbrev pub row : Bool → Outcome → Option ℕ → Row
row h o c = record { holds = h; outcome = o; counter = c }

-- 01, "Numbers handed back": the order 12, 13, 32 ..
abbrev pub rows_of_any : State → Frame → List Row → List Row
rows_of_any s f rows =
    row (is_over_limit s.tables.commands) (refused_as over_limit) none
    ∷ row (ltb id_limit f.gateway) (refused_as invalid_id) none
    ∷ row (ltb payload_limit (length f.payload)) (refused_as payload_too_long) none
    ∷ rows

-- .. 31, 20, 24, 21 (for a receive response 23 if under 2 bytes, then 22, then 23), 28, 29, 26, 27, 25, 30.
-- Refusals 20 to 24 and 28 to 31 raise the source's counter for that case; the others raise none
abbrev pub rows_of_type : State → Frame → List Row
rows_of_type s f =
    row (not (is_named f.frame_type)) (refused_as unhandled_type) (some Counters.unhandled_frame_type)
    ∷ row (has_wrong_direction f) (refused_as wrong_direction) (some (invalid_of f.frame_type))
    ∷ row (eqb f.frame_type Types.receive_response && not (is_held s.tables.numbers (gateway_key_of f))) (refused_as unknown_gateway) (some Counters.receive_response_from_unknown_gateway)
    ∷ row (has_wrong_length f) (refused_as wrong_length) (some (invalid_of f.frame_type))
    ∷ row (eqb f.frame_type Types.receive_response && ltb (length f.payload) 2) (refused_with (refusal_number too_short) 5) (some (invalid_of f.frame_type))
    ∷ row (eqb f.frame_type Types.receive_response && not (accepted_of (status_of f))) (refused_as wrong_status) (some (invalid_of f.frame_type))
    ∷ row (eqb f.frame_type Types.receive_response && ltb (length f.payload) (needed_of (status_of f))) (refused_with (refusal_number too_short) (needed_of (status_of f))) (some (invalid_of f.frame_type))
    ∷ row (eqb f.frame_type Types.enumeration_start_request && is_from (enumeration_address f.payload)) (refused_as names_from) (some (invalid_of f.frame_type))
    ∷ row (eqb f.frame_type Types.version_response && not (is_text f.payload)) (refused_as no_text) (some (invalid_of f.frame_type))
    ∷ row (eqb f.frame_type Types.command_request && not (has_room s.tables.sequences (gateway_key_of f))) (refused_as sequences_full) none
    ∷ row (eqb f.frame_type Types.command_request && not (has_room s.tables.commands (key_of f))) (refused_as commands_full) none
    ∷ row (eqb f.frame_type Types.receive_request && not (has_room s.tables.numbers (gateway_key_of f))) (refused_as numbers_full) none
    ∷ row (eqb f.frame_type Types.command_response && not (is_held s.tables.commands (answer_key_of f))) (refused_as no_request) (some Counters.retransmitted_command_responses)
    ∷ []

-- a state with other counters
abbrev pub counting : State → List ℕ → State
counting s cs = record { tables = s.tables; counters = cs }

-- the counter that a row names raised, if it names one
abbrev pub raise_any : Option ℕ → List ℕ → List ℕ
raise_any none cs = cs
raise_any (some i) cs = raise i cs

-- no refusal gives an event or touches a table
abbrev pub refuse : State → Row → Result
refuse s r = record { outcome = r.outcome; state = counting s (raise_any r.counter s.counters) }

-- the number that a look-up gave; 24 refuses a response where it gave none
abbrev pub number_in : Option ℕ → ℕ
number_in none = 0
number_in (some n) = n

-- a good receive response: the number replaces the one stored before
abbrev pub received : State → Frame → ℕ → List ℕ → Result
received s f before area =
    record {
      outcome = event (slot_counter f.gateway (be16_at f.payload (slot_counter_at (status_of f))) (repeats (number_of (status_of f) f.payload before) before area) area);
      state = record {
        tables = record { numbers = stored s.tables.numbers (gateway_key_of f) (number_of (status_of f) f.payload before); sequences = s.tables.sequences; commands = s.tables.commands };
        counters = count_packets area (raise Counters.receive_responses s.counters);
      };
    }

-- a receive request stores its number for the gateway
abbrev pub captured : State → Frame → Result
captured s f =
    record {
      outcome = event (slot_captured f.gateway);
      state = record {
        tables = record { numbers = stored s.tables.numbers (gateway_key_of f) (requested_number f.payload); sequences = s.tables.sequences; commands = s.tables.commands };
        counters = raise Counters.receive_requests s.counters;
      };
    }

-- it counts as retransmitted if its sequence is the gateway's last
abbrev pub is_last : Option ℕ → ℕ → Bool
is_last none n = false
is_last (some m) n = eqb m n

-- a request's packet type and payload
abbrev pub request_of : List ℕ → Command
request_of p = record { packet_type = request_type p; size = length (request_data p); payload = request_data p }

-- a command request is kept under gateway and sequence, replacing an older one there
abbrev pub kept : State → Frame → Result
kept s f =
    record {
      outcome = silent;
      state = record {
        tables = record {
          numbers = s.tables.numbers;
          sequences = stored s.tables.sequences (gateway_key_of f) (request_sequence f.payload);
          commands = stored s.tables.commands (key_of f) (request_of f.payload);
        };
        counters = raise (cond (is_last (value_at s.tables.sequences (gateway_key_of f)) (request_sequence f.payload)) Counters.retransmitted_command_requests Counters.command_requests) s.counters;
      };
    }

-- what a response says of the request that a look-up gave; 30 refuses it where it gave none
abbrev pub executed_of : Option Command → Frame → Outcome
executed_of none f = silent
executed_of (some c) f = event (command f.gateway c.packet_type c.payload (response_type f.payload) (response_data f.payload))

-- a response takes its request out
abbrev pub executed : State → Frame → Result
executed s f =
    record {
      outcome = executed_of (value_at s.tables.commands (answer_key_of f)) f;
      state = record {
        tables = record { numbers = s.tables.numbers; sequences = s.tables.sequences; commands = removed s.tables.commands (answer_key_of f) };
        counters = raise Counters.command_responses s.counters;
      };
    }

-- an accepted frame that changes a counter alone
abbrev pub counted : State → Outcome → ℕ → Result
counted s o i = record { outcome = o; state = counting s (raise i s.counters) }

-- what an accepted frame does, by its type
abbrev pub accepted : State → Frame → Result
accepted s f =
    cond (eqb f.frame_type Types.receive_request) (captured s f)
    (cond (eqb f.frame_type Types.receive_response) (received s f (number_in (value_at s.tables.numbers (gateway_key_of f))) (drop (needed_of (status_of f)) f.payload))
    (cond (eqb f.frame_type Types.command_request) (kept s f)
    (cond (eqb f.frame_type Types.command_response) (executed s f)
    (cond (eqb f.frame_type Types.enumeration_start_request) (counted s (event (enumeration_started (gateway_of (enumeration_address f.payload)))) Counters.enumeration_start_requests)
    (cond (eqb f.frame_type Types.enumeration_response) (counted s (event (identity f.gateway (long_address f.payload))) Counters.enumeration_responses)
    (cond (eqb f.frame_type Types.identify_response) (counted s (event (identity f.gateway (long_address f.payload))) Counters.identify_responses)
    (cond (eqb f.frame_type Types.version_response) (counted s (event (version f.gateway f.payload)) Counters.version_responses)
    (cond (eqb f.frame_type Types.enumeration_end_response) (counted s (event (enumeration_ended f.gateway)) Counters.enumeration_end_responses)
    (counted s silent (counter_of f.frame_type))))))))))

-- each refusal is given exactly when its row holds and no earlier one does
abbrev pub judged : List Row → State → Frame → Result
judged [] s f = accepted s f
judged (r ∷ rs) s f = cond r.holds (refuse s r) (judged rs s f)

-- behind 12, 13 and 32
unfoldable pub handled_of : State → Frame → Result
handled_of s f = judged (rows_of_type s f) s f

-- the whole step: what a frame hands back, and the tables and counters after it
unfoldable pub step_of : State → Frame → Result
step_of s f = judged (rows_of_any s f (rows_of_type s f)) s f

-- 01, "Transport": their reset clears nothing else; 12 refuses it as it does a frame
unfoldable pub reset_of : State → Result
reset_of s =
    cond (is_over_limit s.tables.commands) (record { outcome = refused_as over_limit; state = s })
    (record { outcome = silent; state = counting s (replicate counter_count 0) })

-- what a receiver is given, one after another: a frame, or the reset of its counters
pub data Input : Type 0 where
  frame : Frame → Input
  reset : Input

-- what either of them does
abbrev pub taken_of : State → Input → Result
taken_of s (frame f) = step_of s f
taken_of s reset = reset_of s
