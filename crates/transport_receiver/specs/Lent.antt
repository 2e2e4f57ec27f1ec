-- What a frame does to a whole state whose arrays a function is lent. Assumes nothing.
use Rattle.std.specs.Prelude.{ℕ, Bool, cond, List, [], replicate, eqb, ltb, Result, Ok, Err}
use Rattle.tables.specs.Keys.{over_of}
use Rattle.answers.specs.Counters.{counter_count}
use Rattle.answers.specs.Types
use Rattle.receive_frames.specs.Receive.{Asked, receive_request_in, Received, receive_response_in}
use Rattle.command_frames.specs.Command.{Noted, noted, Seated, Requested, command_request_in, Answered, command_response_in}
use Rattle.plain_frames.specs.Plain.{Counted, untabled_in}
use Rattle.answers.specs.Refusals.{Answer}
use Rattle.answers.specs.declared.Refusal.TheVariants as refusal
use Rattle.answers.specs.Stored.{kept_limit}
use Rattle.answers.specs.Barred.{unless_barred}
use Rattle.transport_receiver.specs.State.{Frame, payload_at}
use Rattle.transport_receiver.specs.declared.Receiver.{Receiver}
use Rattle.transport_receiver.specs.declared.OverLimit.{OverLimit}

-- a state, and what the step that led to it answers
pub record Stepped : Type 0 where
  pub receiver : Receiver
  pub answer : Answer

-- what a reset of the counters gives: the state, and whether 12 refuses it
pub record WasReset : Type 0 where
  pub receiver : Receiver
  pub answer : Result Unit OverLimit

-- a state with other counters
abbrev pub recounted : Receiver → List ℕ → Receiver
recounted r cs = record { numbers = r.numbers; sequences = r.sequences; commands = r.commands; counters = cs }

-- whether a held command's length is over its limit
abbrev pub is_over_in : Receiver → Bool
is_over_in r = over_of r.commands.keys r.commands.lengths kept_limit

-- the whole state after a frame that touches no table ..
abbrev pub after_counted : Receiver → Counted → Stepped
after_counted r c = record { answer = c.answer; receiver = recounted r c.counters }

-- .. a receive request
abbrev pub after_asked : Receiver → Asked → Stepped
after_asked r a =
    record { answer = a.answer; receiver = record { numbers = record { keys = a.nkeys; values = a.numbers }; sequences = r.sequences; commands = r.commands; counters = a.counters } }

-- .. a command request
abbrev pub after_requested : Receiver → Requested → Stepped
after_requested r a =
    record {
      answer = a.answer;
      receiver = record {
        numbers = r.numbers;
        sequences = record { keys = a.noted.skeys; values = a.noted.sequences };
        commands = record { keys = a.seated.ckeys; types = a.seated.ctypes; lengths = a.seated.clengths; payloads = a.seated.cpayloads };
        counters = a.noted.counters;
      };
    }

-- .. a command response
abbrev pub after_answered : Receiver → Answered → Stepped
after_answered r a =
    record {
      answer = a.answer;
      receiver = record {
        numbers = r.numbers;
        sequences = r.sequences;
        commands = record { keys = a.ckeys; types = r.commands.types; lengths = r.commands.lengths; payloads = r.commands.payloads };
        counters = a.counters;
      };
    }

-- the arrays that a command request is lent: the last sequences with the counters
abbrev pub noted_of : Receiver → Noted
noted_of r = noted r.sequences.keys r.sequences.values r.counters

-- .. and the waiting commands
abbrev pub seated_of : Receiver → Seated
seated_of r =
    record { ckeys = r.commands.keys; ctypes = r.commands.types; clengths = r.commands.lengths; cpayloads = r.commands.payloads }

-- .. a receive response
abbrev pub after_received : Receiver → Received → Stepped
after_received r a =
    record { answer = a.answer; receiver = record { numbers = record { keys = r.numbers.keys; values = a.numbers }; sequences = r.sequences; commands = r.commands; counters = a.counters } }

-- nine arrays as a state
abbrev pub arrays : List ℕ → List ℕ → List ℕ → List ℕ → List ℕ → List ℕ → List ℕ → List ℕ → List ℕ → Receiver
arrays nk n sk s ck ct cl cp cs =
    record {
      numbers = record { keys = nk; values = n };
      sequences = record { keys = sk; values = s };
      commands = record { keys = ck; types = ct; lengths = cl; payloads = cp };
      counters = cs;
    }

-- an answer with the state after it
abbrev pub stepped : Answer → Receiver → Stepped
stepped a r = record { answer = a; receiver = r }

-- a frame by its type
unfoldable pub handled_in : Receiver → Frame → Stepped
handled_in r f =
    cond (eqb f.frame_type Types.receive_request) (after_asked r (receive_request_in r.numbers.keys r.numbers.values r.counters f.from f.gateway f.payload))
    (cond (eqb f.frame_type Types.receive_response) (after_received r (receive_response_in r.numbers.keys r.numbers.values r.counters f.from f.gateway f.payload))
    (cond (eqb f.frame_type Types.command_request) (after_requested r (command_request_in (noted_of r) (seated_of r) f.from f.gateway f.payload))
    (cond (eqb f.frame_type Types.command_response) (after_answered r (command_response_in r.commands.keys r.commands.types r.commands.lengths r.counters f.from f.gateway f.payload))
    (after_counted r (untabled_in r.counters f.from f.gateway f.frame_type f.payload)))))

-- the whole step: 12, 13 and 32 first, with nothing changed
unfoldable pub step_in : Receiver → Frame → Stepped
step_in r f =
    cond (is_over_in r) (stepped (Err refusal.OverLimit) r)
    (unless_barred f.gateway f.payload (λ a. stepped (Err a) r) (handled_in r f))

-- the payload at a place of the pool; empty where no such place or length is
unfoldable pub request_payload : List ℕ → ℕ → ℕ → List ℕ
request_payload pool place size =
    cond (ltb place 64) (cond (ltb kept_limit size) [] (payload_at pool place size)) []

-- 01, "Transport": their reset clears nothing else; 12 refuses it too: the counters after it, where 12 refuses it or not
abbrev pub counters_after : Bool → List ℕ → List ℕ
counters_after over counters = cond over counters (replicate counter_count 0)

-- .. and what it answers
abbrev pub reset_answer : Bool → Result Unit OverLimit
reset_answer over = cond over (Err (record {})) (Ok tt)

-- an answer of the reset with the state after it
abbrev pub was_reset : Result Unit OverLimit → Receiver → WasReset
was_reset a r = record { answer = a; receiver = r }

-- the whole reset: the counters after it, and whether 12 refused it
unfoldable pub reset_in : Receiver → WasReset
reset_in r =
    was_reset (reset_answer (is_over_in r)) (recounted r (counters_after (is_over_in r) r.counters))
