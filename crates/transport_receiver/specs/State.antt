-- The transport receiver's state in 01's words, and what its arrays mean. Assumes nothing.
use Rattle.std.specs.Prelude.{ℕ, ◌*◌, Bool, List, get_or, take, drop, replicate}
use Rattle.address.specs.Address.{is_from, gateway_of}
use Rattle.address.specs.declared.Address.{Address}
use Rattle.link.specs.declared.Type as link
use Rattle.tables.specs.Places.{Place, places_of}
use Rattle.answers.specs.Counters.{counter_count}
use Rattle.answers.specs.Stored.{stride, pool_size}
use Rattle.transport_receiver.specs.declared.Receiver.{Receiver}

-- a waiting command: the request's packet type, its payload's length, its payload
pub record Command : Type 0 where
  pub packet_type : ℕ
  pub size : ℕ
  pub payload : List ℕ

-- 01, "Transport": tables: 32 packet numbers, 32 last sequences, 64 waiting commands
pub record Tables : Type 0 where
  pub numbers : List (Place ℕ)
  pub sequences : List (Place ℕ)
  pub commands : List (Place Command)

-- the three tables, and apart from them the 33 counters
pub record State : Type 0 where
  pub tables : Tables
  pub counters : List ℕ

-- the bytes of the pool that belong to a place, as many as its length says
abbrev pub payload_at : List ℕ → ℕ → ℕ → List ℕ
payload_at pool i size = take size (drop (i * stride) pool)

-- the command at a place of the arrays
abbrev pub command_in : List ℕ → List ℕ → List ℕ → ℕ → Command
command_in types lengths pool i =
    record { packet_type = get_or types i 0; size = get_or lengths i 0; payload = payload_at pool i (get_or lengths i 0) }

-- what the arrays mean: the one definition of it
unfoldable pub state_of : Receiver → State
state_of r =
    record {
      tables = record {
        numbers = places_of r.numbers.keys (λ i. get_or r.numbers.values i 0);
        sequences = places_of r.sequences.keys (λ i. get_or r.sequences.values i 0);
        commands = places_of r.commands.keys (command_in r.commands.types r.commands.lengths r.commands.payloads);
      };
      counters = r.counters;
    }

-- a frame as it is given to the step
pub record Frame : Type 0 where
  pub from : Bool
  pub gateway : ℕ
  pub frame_type : ℕ
  pub payload : List ℕ

-- a frame by its four parts
abbrev pub given : Bool → ℕ → ℕ → List ℕ → Frame
given from gateway frame_type payload = record { from = from; gateway = gateway; frame_type = frame_type; payload = payload }

-- a frame by its address, type and payload, as the step's caller has them
abbrev pub frame_of : Address → link.Type → List ℕ → Frame
frame_of address frame_type payload = given (is_from address) (gateway_of address) frame_type.0 payload

-- a fresh receiver: every place free, every counter 0
abbrev pub fresh : Receiver
fresh =
    record {
      numbers = record { keys = replicate 32 0; values = replicate 32 0 };
      sequences = record { keys = replicate 32 0; values = replicate 32 0 };
      commands = record { keys = replicate 64 0; types = replicate 64 0; lengths = replicate 64 0; payloads = replicate pool_size 0 };
      counters = replicate counter_count 0;
    }
