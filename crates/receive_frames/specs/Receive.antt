-- What a receive request and a receive response do to the arrays that a function is lent. Assumes nothing.
use Rattle.std.specs.Prelude.{ℕ, suc, Bool, cond, List, length, get_or, set, drop, eqb, ltb, Ok, Err}
use Rattle.layouts.specs.Layouts.{receive_request_length, requested_number}
use Rattle.tables.specs.Keys.{first_of, seat_of}
use Rattle.transport.specs.declared.ReceiveResponse.{ReceiveResponse}
use Rattle.transport.specs.declared.ReceiveResponseError.TheVariants as error
use Rattle.transport.specs.Response.{Read, receive_read_of}
use Rattle.answers.specs.Counters
use Rattle.answers.specs.Counters.{raise, count_packets}
use Rattle.answers.specs.Stored.{gateway_key, repeats}
use Rattle.answers.specs.Barred.{unless_barred}
use Rattle.answers.specs.Refusals.{Answer}
use Rattle.answers.specs.declared.Accepted.TheVariants.{SlotCounterCaptured, SlotCounterObserved}
use Rattle.answers.specs.declared.Refusal.TheVariants.{WrongDirection, WrongLength, NumbersFull, TooShort, UnknownStatusType, UnknownGateway}

-- a receive request
pub record Asked : Type 0 where
  pub answer : Answer
  pub nkeys : List ℕ
  pub numbers : List ℕ
  pub counters : List ℕ

-- its answer, with the arrays after it
abbrev pub asked : Answer → List ℕ → List ℕ → List ℕ → Asked
asked a ks ns cs = record { answer = a; nkeys = ks; numbers = ns; counters = cs }

-- one with a good direction and length, whose number goes to place i, if there is such a place
abbrev pub asked_at : ℕ → List ℕ → List ℕ → List ℕ → ℕ → List ℕ → Asked
asked_at i ks ns cs g p =
    cond (ltb i 32)
    (asked (Ok SlotCounterCaptured) (set ks i (suc (gateway_key g))) (set ns i (requested_number p)) (raise Counters.receive_requests cs))
    (asked (Err NumbersFull) ks ns cs)

-- behind 13 and 32
unfoldable pub captured_in : List ℕ → List ℕ → List ℕ → Bool → ℕ → List ℕ → Asked
captured_in ks ns cs from g p =
    cond from (asked (Err WrongDirection) ks ns (raise Counters.invalid_receive_request cs))
    (cond (eqb (length p) receive_request_length) (asked_at (seat_of ks (suc (gateway_key g))) ks ns cs g p)
    (asked (Err WrongLength) ks ns (raise Counters.invalid_receive_request cs)))

-- the whole of it: 13 and 32 first
unfoldable pub receive_request_in : List ℕ → List ℕ → List ℕ → Bool → ℕ → List ℕ → Asked
receive_request_in ks ns cs from g p = unless_barred g p (λ a. asked (Err a) ks ns cs) (captured_in ks ns cs from g p)

-- a receive response
pub record Received : Type 0 where
  pub answer : Answer
  pub numbers : List ℕ
  pub counters : List ℕ

-- its answer, with the arrays after it
abbrev pub received : Answer → List ℕ → List ℕ → Received
received a ns cs = record { answer = a; numbers = ns; counters = cs }

-- a good one, of a gateway whose number stands at place i
unfoldable pub good_in : ReceiveResponse → ℕ → ℕ → List ℕ → List ℕ → List ℕ → Received
good_in r area i ns cs p =
    received
    (Ok (SlotCounterObserved r.packet_number r.slot_counter (repeats r.packet_number.0 (get_or ns i 0) (drop area p)) area))
    (set ns i r.packet_number.0)
    (count_packets (drop area p) (raise Counters.receive_responses cs))

-- what is read of it
abbrev pub read_in : Read → ℕ → List ℕ → List ℕ → List ℕ → Received
read_in (Err (error.TooShort n)) i ns cs p = received (Err (TooShort n)) ns (raise Counters.invalid_receive_responses cs)
read_in (Err (error.UnknownStatusType s)) i ns cs p = received (Err UnknownStatusType) ns (raise Counters.invalid_receive_responses cs)
read_in (Ok r) i ns cs p = good_in r.0 r.1 i ns cs p

-- behind 13 and 32
unfoldable pub answered_in : List ℕ → List ℕ → List ℕ → Bool → ℕ → List ℕ → Received
answered_in ks ns cs from g p =
    cond from
    (cond (ltb (first_of ks (suc (gateway_key g))) 32)
    (read_in (receive_read_of p (get_or ns (first_of ks (suc (gateway_key g))) 0)) (first_of ks (suc (gateway_key g))) ns cs p)
    (received (Err UnknownGateway) ns (raise Counters.receive_response_from_unknown_gateway cs)))
    (received (Err WrongDirection) ns (raise Counters.invalid_receive_responses cs))

-- the whole of it: 13 and 32 first
unfoldable pub receive_response_in : List ℕ → List ℕ → List ℕ → Bool → ℕ → List ℕ → Received
receive_response_in ks ns cs from g p = unless_barred g p (λ a. received (Err a) ns cs) (answered_in ks ns cs from g p)
