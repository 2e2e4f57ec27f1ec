-- What the frame types that touch no table do to the counters that a function is lent. Assumes nothing.
use Rattle.std.specs.Prelude.{◌≡◌, ℕ, Bool, false, cond, List, length, eqb, ltb, Ok, Err}
use Rattle.laws.specs.Bytes.{be16_at}
use Rattle.layouts.specs.Layouts.{identify_response_length, enumeration_start_request_length, enumeration_start_request_in}
use Rattle.utf8.specs.Scan.{is_text}
use Rattle.answers.specs.Counters
use Rattle.answers.specs.Counters.{raise}
use Rattle.answers.specs.Types
use Rattle.answers.specs.Types.{counter_of}
use Rattle.answers.specs.Barred.{unless_barred}
use Rattle.answers.specs.Refusals.{Answer}
use Rattle.answers.specs.declared.Accepted.TheVariants.{EnumerationStarted, IdentityObserved, VersionObserved, EnumerationEnded}
use Rattle.answers.specs.declared.Accepted.TheVariants as accepted
use Rattle.answers.specs.declared.Refusal.TheVariants.{WrongDirection, WrongLength, NamesFrom, InvalidVersion, UnhandledType}

-- an answer, and the counters after it
pub record Counted : Type 0 where
  pub answer : Answer
  pub counters : List ℕ

-- the two, one by one
abbrev pub counted : Answer → List ℕ → Counted
counted a cs = record { answer = a; counters = cs }

-- an enumeration start, by the number that it names
abbrev pub started_in : ℕ → List ℕ → Counted
started_in named cs =
    cond (ltb named 0x8000)
    (counted (Ok (EnumerationStarted (record { 0 = named }))) (raise Counters.enumeration_start_requests cs))
    (counted (Err NamesFrom) (raise Counters.invalid_enumeration_start_request cs))

-- an enumeration start request
unfoldable pub enumeration_start_in : List ℕ → Bool → ℕ → List ℕ → Counted
enumeration_start_in cs from g p =
    cond from (counted (Err WrongDirection) (raise Counters.invalid_enumeration_start_request cs))
    (cond (eqb g 0)
    (cond (eqb (length p) enumeration_start_request_length) (started_in (be16_at (enumeration_start_request_in p).enumeration_address 0) cs)
    (counted (Err WrongLength) (raise Counters.invalid_enumeration_start_request cs)))
    (counted (Err WrongDirection) (raise Counters.invalid_enumeration_start_request cs)))

-- an identify or enumeration response, with its two counters
unfoldable pub identity_in : List ℕ → ℕ → ℕ → Bool → List ℕ → Counted
identity_in cs good bad from p =
    cond from
    (cond (eqb (length p) identify_response_length) (counted (Ok IdentityObserved) (raise good cs)) (counted (Err WrongLength) (raise bad cs)))
    (counted (Err WrongDirection) (raise bad cs))

-- a version response
unfoldable pub version_in : List ℕ → Bool → List ℕ → Counted
version_in cs from p =
    cond from
    (cond (is_text p) (counted (Ok VersionObserved) (raise Counters.version_responses cs))
    (counted (Err InvalidVersion) (raise Counters.invalid_version_responses cs)))
    (counted (Err WrongDirection) (raise Counters.invalid_version_responses cs))

-- an enumeration end response
unfoldable pub enumeration_end_in : List ℕ → Bool → Counted
enumeration_end_in cs from =
    cond from (counted (Ok EnumerationEnded) (raise Counters.enumeration_end_responses cs))
    (counted (Err WrongDirection) (raise Counters.invalid_enumeration_end_responses cs))

-- a type that is counted and no more
unfoldable pub count_in : List ℕ → ℕ → Counted
count_in cs frame_type =
    counted (cond (eqb (counter_of frame_type) Counters.unhandled_frame_type) (Err UnhandledType) (Ok accepted.Counted)) (raise (counter_of frame_type) cs)

-- a type that is counted and no more, and its counter; or none of those
abbrev pub IsCountedBy : ℕ → ℕ → Type 0
IsCountedBy counter frame_type = (counter_of frame_type ≡ counter) × (eqb (counter_of frame_type) Counters.unhandled_frame_type ≡ false)

abbrev pub IsUnhandled : ℕ → Type 0
IsUnhandled frame_type = counter_of frame_type ≡ Counters.unhandled_frame_type

-- the types that touch no table; behind 13 and 32
unfoldable pub by_type_in : List ℕ → Bool → ℕ → ℕ → List ℕ → Counted
by_type_in cs from g frame_type p =
    cond (eqb frame_type Types.enumeration_start_request) (enumeration_start_in cs from g p)
    (cond (eqb frame_type Types.enumeration_response) (identity_in cs Counters.enumeration_responses Counters.invalid_enumeration_responses from p)
    (cond (eqb frame_type Types.identify_response) (identity_in cs Counters.identify_responses Counters.invalid_identify_responses from p)
    (cond (eqb frame_type Types.version_response) (version_in cs from p)
    (cond (eqb frame_type Types.enumeration_end_response) (enumeration_end_in cs from)
    (count_in cs frame_type)))))

-- the whole of it: 13 and 32 first
unfoldable pub untabled_in : List ℕ → Bool → ℕ → ℕ → List ℕ → Counted
untabled_in cs from g frame_type p = unless_barred g p (λ a. counted (Err a) cs) (by_type_in cs from g frame_type p)
