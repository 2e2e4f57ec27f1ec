-- What a command request and a command response do to the arrays that a function is lent. Assumes nothing.
use Rattle.std.specs.Prelude.{ℕ, suc, ◌*◌, Bool, false, cond, List, length, get_or, set, eqb, ltb, Ok, Err}
use Rattle.std.proofs.Math.Seq.{paste}
use Rattle.layouts.specs.Layouts.{command_request_length, command_response_length, request_type, request_sequence, request_data, response_type, response_sequence}
use Rattle.tables.specs.Keys.{first_of, seat_of}
use Rattle.answers.specs.Counters
use Rattle.answers.specs.Counters.{raise}
use Rattle.answers.specs.Stored.{gateway_key, command_key, stride}
use Rattle.answers.specs.Barred.{unless_barred}
use Rattle.answers.specs.Refusals.{Answer}
use Rattle.answers.specs.declared.Accepted.TheVariants.{CommandKept, CommandExecuted}
use Rattle.answers.specs.declared.Refusal.TheVariants.{WrongDirection, WrongLength, SequencesFull, CommandsFull, NoRequest}

-- the arrays of the waiting commands
pub record Seated : Type 0 where
  pub ckeys : List ℕ
  pub ctypes : List ℕ
  pub clengths : List ℕ
  pub cpayloads : List ℕ

-- a request kept at place i of the arrays
unfoldable pub keep_in : Seated → ℕ → ℕ → List ℕ → Seated
keep_in s i key p = record { ckeys = set s.ckeys i key; ctypes = set s.ctypes i (request_type p); clengths = set s.clengths i (length (request_data p)); cpayloads = paste s.cpayloads (i * stride) (request_data p) (length (request_data p)) }

-- the arrays of the last sequences, and the counters
pub record Noted : Type 0 where
  pub skeys : List ℕ
  pub sequences : List ℕ
  pub counters : List ℕ

-- such arrays, one by one
abbrev pub noted : List ℕ → List ℕ → List ℕ → Noted
noted ks ss cs = record { skeys = ks; sequences = ss; counters = cs }

-- whether place q holds this key and this sequence
unfoldable pub is_last_in : List ℕ → List ℕ → ℕ → ℕ → ℕ → Bool
is_last_in ks ss q key s = cond (eqb (get_or ks q 0) key) (eqb (get_or ss q 0) s) false

-- the sequence noted at place q, and the request counted: as retransmitted if it was the gateway's last
unfoldable pub note_in : Noted → ℕ → ℕ → ℕ → Noted
note_in n q key s =
    cond (is_last_in n.skeys n.sequences q key s)
    (noted n.skeys n.sequences (raise Counters.retransmitted_command_requests n.counters))
    (noted (set n.skeys q key) (set n.sequences q s) (raise Counters.command_requests n.counters))

-- a command request
pub record Requested : Type 0 where
  pub answer : Answer
  pub noted : Noted
  pub seated : Seated

-- its answer, with the arrays after it
abbrev pub requested : Answer → Noted → Seated → Requested
requested a n s = record { answer = a; noted = n; seated = s }

-- the same with the count of an invalid request
abbrev pub invalid : Noted → Noted
invalid n = noted n.skeys n.sequences (raise Counters.invalid_command_requests n.counters)

-- one with a good direction and length, whose sequence goes to place q and whose request goes to place i, if there are such places
abbrev pub requested_at : ℕ → ℕ → Noted → Seated → ℕ → List ℕ → Requested
requested_at q i n s g p =
    cond (ltb q 32)
    (cond (ltb i 64)
    (requested (Ok CommandKept) (note_in n q (suc (gateway_key g)) (request_sequence p)) (keep_in s i (suc (command_key g (request_sequence p))) p))
    (requested (Err CommandsFull) n s))
    (requested (Err SequencesFull) n s)

-- behind 13 and 32
unfoldable pub asked_in : Noted → Seated → Bool → ℕ → List ℕ → Requested
asked_in n s from g p =
    cond from (requested (Err WrongDirection) (invalid n) s)
    (cond (ltb (length p) command_request_length) (requested (Err WrongLength) (invalid n) s)
    (requested_at (seat_of n.skeys (suc (gateway_key g))) (seat_of s.ckeys (suc (command_key g (request_sequence p)))) n s g p))

-- the whole of it: 13 and 32 first
unfoldable pub command_request_in : Noted → Seated → Bool → ℕ → List ℕ → Requested
command_request_in n s from g p = unless_barred g p (λ a. requested (Err a) n s) (asked_in n s from g p)

-- a command response
pub record Answered : Type 0 where
  pub answer : Answer
  pub ckeys : List ℕ
  pub counters : List ℕ

-- its answer, with the arrays after it
abbrev pub answered : Answer → List ℕ → List ℕ → Answered
answered a ks cs = record { answer = a; ckeys = ks; counters = cs }

-- one with a good direction and length, whose request is at place i, if there is such a place
abbrev pub answered_at : ℕ → List ℕ → List ℕ → List ℕ → List ℕ → List ℕ → Answered
answered_at i ks ts ls cs p =
    cond (ltb i 64)
    (answered (Ok (CommandExecuted i (record { 0 = get_or ts i 0 }) (get_or ls i 0) (record { 0 = response_type p }))) (set ks i 0) (raise Counters.command_responses cs))
    (answered (Err NoRequest) ks (raise Counters.retransmitted_command_responses cs))

-- behind 13 and 32
unfoldable pub finished_in : List ℕ → List ℕ → List ℕ → List ℕ → Bool → ℕ → List ℕ → Answered
finished_in ks ts ls cs from g p =
    cond from
    (cond (ltb (length p) command_response_length) (answered (Err WrongLength) ks (raise Counters.invalid_command_responses cs))
    (answered_at (first_of ks (suc (command_key g (response_sequence p)))) ks ts ls cs p))
    (answered (Err WrongDirection) ks (raise Counters.invalid_command_responses cs))

-- the whole of it: 13 and 32 first
unfoldable pub command_response_in : List ℕ → List ℕ → List ℕ → List ℕ → Bool → ℕ → List ℕ → Answered
command_response_in ks ts ls cs from g p = unless_barred g p (λ a. answered (Err a) ks cs) (finished_in ks ts ls cs from g p)
