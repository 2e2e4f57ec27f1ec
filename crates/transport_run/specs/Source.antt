-- The source's receiver (transport/receiver.rs): its three maps, which have no limit, by what a look-up gives, and its counters; and what a frame
-- does to it and tells its sink. Assumes nothing.
use Rattle.std.specs.Prelude.{◌≡◌, ℕ, Bool, true, false, cond, List, [], ◌∷◌, length, drop, replicate, eqb, ltb}
use Rattle.std.proofs.Math.Option.{Option, none, some}
use Rattle.laws.specs.Bytes.{be16_at}
use Rattle.laws.specs.Numbers.{Refusal, number_of as refusal_number, over_limit, numbers_full, sequences_full, commands_full, payload_too_long}
use Rattle.address.specs.Address.{id_limit, is_from, gateway_of}
use Rattle.utf8.specs.Scan.{is_text}
use Rattle.tables.specs.Places.{value_at, inserted, deleted}
use Rattle.transport.specs.Status.{accepted_of, needed_of, slot_counter_at}
use Rattle.transport.specs.Number.{number_of}
use Rattle.layouts.specs.Layouts.{command_request_length, command_response_length, receive_request_length, identify_response_length, enumeration_start_request_length, request_sequence, requested_number, response_type, response_data, long_address, enumeration_address}
use Rattle.answers.specs.Counters
use Rattle.answers.specs.Counters.{raise, count_packets, counter_count}
use Rattle.answers.specs.Types
use Rattle.answers.specs.Types.{counter_of}
use Rattle.answers.specs.Stored.{repeats}
use Rattle.transport_receiver.specs.State.{Tables, State, Frame, Command, state_of, fresh}
use Rattle.transport_receiver.specs.Step.{Event, enumeration_started, identity, version, enumeration_ended, slot_captured, slot_counter, command, Outcome, refused, refused_with, silent, event, status_of, gateway_key_of, key_of, answer_key_of, is_last, request_of, Input, frame, reset, taken_of}

-- receiver.rs, `Receiver`: its three maps, each by what a look-up of a key gives
pub record Maps : Type 0 where
  pub numbers : ℕ → Option ℕ
  pub sequences : ℕ → Option ℕ
  pub commands : ℕ → Option Command

-- .. and its counters
pub record Source : Type 0 where
  pub maps : Maps
  pub counters : List ℕ

-- fresh: nothing is held ..
abbrev pub no_entries : Maps
no_entries = record { numbers = λ k. none; sequences = λ k. none; commands = λ k. none }

-- .. and nothing counted
abbrev pub fresh_source : Source
fresh_source = record { maps = no_entries; counters = replicate counter_count 0 }

-- what a frame leads to: what the sink is told, if anything, and the receiver after it
pub record Taken : Type 0 where
  pub told : Option Event
  pub after : Source

-- one counter goes up, and that is all
abbrev pub counts : Source → ℕ → Taken
counts x i = record { told = none; after = record { maps = x.maps; counters = raise i x.counters } }

-- one counter goes up, and the sink is told an event
abbrev pub tells : Source → ℕ → Event → Taken
tells x i e = record { told = some e; after = record { maps = x.maps; counters = raise i x.counters } }

-- the packet number is put in under the gateway
abbrev pub noted : Maps → ℕ → ℕ → Maps
noted m key number =
    record { numbers = inserted m.numbers key number; sequences = m.sequences; commands = m.commands }

-- receiver.rs, `receive_request`
abbrev pub asks : Source → Frame → Taken
asks x f =
    cond f.from (counts x Counters.invalid_receive_request)
    (cond (eqb (length f.payload) receive_request_length)
    (record {
      told = some (slot_captured f.gateway);
      after = record { maps = noted x.maps (gateway_key_of f) (requested_number f.payload); counters = raise Counters.receive_requests x.counters };
    })
    (counts x Counters.invalid_receive_request))

-- receiver.rs, `receive_response`, one that can be read: the number is put in, the sink is told the slot counter, and each packet is counted. The
-- repeat mark is added
abbrev pub answers : Source → Frame → ℕ → List ℕ → Taken
answers x f old area =
    record {
      told = some (slot_counter f.gateway (be16_at f.payload (slot_counter_at (status_of f))) (repeats (number_of (status_of f) f.payload old) old area) area);
      after = record {
        maps = noted x.maps (gateway_key_of f) (number_of (status_of f) f.payload old);
        counters = count_packets area (raise Counters.receive_responses x.counters);
      };
    }

-- .. of a gateway that a look-up gave no number or gave one
abbrev pub responds : Source → Frame → Option ℕ → Taken
responds x f none = counts x Counters.receive_response_from_unknown_gateway
responds x f (some old) =
    cond (ltb (length f.payload) 2) (counts x Counters.invalid_receive_responses)
    (cond (accepted_of (status_of f))
    (cond (ltb (length f.payload) (needed_of (status_of f))) (counts x Counters.invalid_receive_responses)
    (answers x f old (drop (needed_of (status_of f)) f.payload)))
    (counts x Counters.invalid_receive_responses))

-- receiver.rs, `command_request`: the request is put in under gateway and sequence, and the sequence under the gateway; it counts as retransmitted
-- if its sequence was there before
abbrev pub requests : Source → Frame → Taken
requests x f =
    cond f.from (counts x Counters.invalid_command_requests)
    (cond (ltb (length f.payload) command_request_length) (counts x Counters.invalid_command_requests)
    (record {
      told = none;
      after = record {
        maps = record {
          numbers = x.maps.numbers;
          sequences = inserted x.maps.sequences (gateway_key_of f) (request_sequence f.payload);
          commands = inserted x.maps.commands (key_of f) (request_of f.payload);
        };
        counters = raise (cond (is_last (x.maps.sequences (gateway_key_of f)) (request_sequence f.payload)) Counters.retransmitted_command_requests Counters.command_requests) x.counters;
      };
    }))

-- receiver.rs, `command_response`: of a request that a look-up did not give or gave, which is then taken out
abbrev pub executes : Source → Frame → Option Command → Taken
executes x f none = counts x Counters.retransmitted_command_responses
executes x f (some c) =
    record {
      told = some (command f.gateway c.packet_type c.payload (response_type f.payload) (response_data f.payload));
      after = record {
        maps = record { numbers = x.maps.numbers; sequences = x.maps.sequences; commands = deleted x.maps.commands (answer_key_of f) };
        counters = raise Counters.command_responses x.counters;
      };
    }

-- .. by direction and length first
abbrev pub finishes : Source → Frame → Taken
finishes x f =
    cond f.from
    (cond (ltb (length f.payload) command_response_length) (counts x Counters.invalid_command_responses)
    (executes x f (x.maps.commands (answer_key_of f))))
    (counts x Counters.invalid_command_responses)

-- receiver.rs, `enumeration_start_request`: To gateway 0, of its length, naming a gateway
abbrev pub starts : Source → Frame → Taken
starts x f =
    cond f.from (counts x Counters.invalid_enumeration_start_request)
    (cond (eqb f.gateway 0)
    (cond (eqb (length f.payload) enumeration_start_request_length)
    (cond (is_from (enumeration_address f.payload)) (counts x Counters.invalid_enumeration_start_request)
    (tells x Counters.enumeration_start_requests (enumeration_started (gateway_of (enumeration_address f.payload)))))
    (counts x Counters.invalid_enumeration_start_request))
    (counts x Counters.invalid_enumeration_start_request))

-- receiver.rs, `identify_response` and `enumeration_response`, by the counters of a good one and of an invalid one
abbrev pub identifies : Source → Frame → ℕ → ℕ → Taken
identifies x f good invalid =
    cond f.from
    (cond (eqb (length f.payload) identify_response_length) (tells x good (identity f.gateway (long_address f.payload)))
    (counts x invalid))
    (counts x invalid)

-- receiver.rs, `version_response`
abbrev pub versions : Source → Frame → Taken
versions x f =
    cond f.from
    (cond (is_text f.payload) (tells x Counters.version_responses (version f.gateway f.payload))
    (counts x Counters.invalid_version_responses))
    (counts x Counters.invalid_version_responses)

-- receiver.rs, `frame`, of an enumeration end response
abbrev pub ends : Source → Frame → Taken
ends x f =
    cond f.from (tells x Counters.enumeration_end_responses (enumeration_ended f.gateway))
    (counts x Counters.invalid_enumeration_end_responses)

-- receiver.rs, `frame`: nine types have a function or an arm of their own, and all others are counted, each by its counter or as unhandled. An ID
-- above 7fff, which 13 refuses, the source cannot have
unfoldable pub source_of : Source → Frame → Taken
source_of x f =
    cond (ltb id_limit f.gateway) (record { told = none; after = x })
    (cond (eqb f.frame_type Types.receive_request) (asks x f)
    (cond (eqb f.frame_type Types.receive_response) (cond f.from (responds x f (x.maps.numbers (gateway_key_of f))) (counts x Counters.invalid_receive_responses))
    (cond (eqb f.frame_type Types.command_request) (requests x f)
    (cond (eqb f.frame_type Types.command_response) (finishes x f)
    (cond (eqb f.frame_type Types.enumeration_start_request) (starts x f)
    (cond (eqb f.frame_type Types.enumeration_response) (identifies x f Counters.enumeration_responses Counters.invalid_enumeration_responses)
    (cond (eqb f.frame_type Types.identify_response) (identifies x f Counters.identify_responses Counters.invalid_identify_responses)
    (cond (eqb f.frame_type Types.version_response) (versions x f)
    (cond (eqb f.frame_type Types.enumeration_end_response) (ends x f)
    (counts x (counter_of f.frame_type)))))))))))

-- the receiver after an input: receiver.rs, `reset_counters` touches no map
abbrev pub source_after : Source → Input → Source
source_after x (frame f) = (source_of x f).after
source_after x reset = record { maps = x.maps; counters = replicate counter_count 0 }

-- 01, "What comes over": .. in the whole run so far, no refusal 10 to 12, 25 to 27, 32, 40 or 41, which are added: those that a step or a reset gives
abbrev pub added : List Refusal
added = over_limit ∷ numbers_full ∷ sequences_full ∷ commands_full ∷ payload_too_long ∷ []

-- whether a number is that of one of some refusals
abbrev pub is_one_among : List Refusal → ℕ → Bool
is_one_among [] n = false
is_one_among (r ∷ rs) n = cond (eqb n (refusal_number r)) true (is_one_among rs n)

-- whether a step or a reset gave one of them
abbrev pub is_added : Outcome → Bool
is_added (refused n) = is_one_among added n
is_added (refused_with n value) = is_one_among added n
is_added silent = false
is_added (event e) = false

-- a look-up of any key gives the same in the tables as in the maps
pub record Agree (t : Tables) (m : Maps) : Type 0 where
  pub numbers : (k : ℕ) → value_at t.numbers k ≡ m.numbers k
  pub sequences : (k : ℕ) → value_at t.sequences k ≡ m.sequences k
  pub commands : (k : ℕ) → value_at t.commands k ≡ m.commands k

-- the states that inputs lead to from fresh with no added refusal on the way, and the source's receiver after the same inputs
pub data Follows : State → Source → Type 0 where
  start : Follows (state_of fresh) fresh_source
  on : {s : State} {x : Source} → Follows s x → (i : Input) → is_added (taken_of s i).outcome ≡ false → Follows (taken_of s i).state (source_after x i)
