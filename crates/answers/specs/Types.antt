-- The frame types that the transport receiver handles (link.rs, `Type`). Assumes nothing.
use Rattle.std.specs.Prelude.{ℕ, Bool, true, false, cond, List, [], ◌∷◌, ◌==◌}
use Rattle.answers.specs.Counters

-- link.rs, `Type`: the eighteen constants and their numbers
abbrev pub receive_request : ℕ
receive_request = 0x0148

abbrev pub receive_response : ℕ
receive_response = 0x0149

abbrev pub command_request : ℕ
command_request = 0x0b0f

abbrev pub command_response : ℕ
command_response = 0x0b10

abbrev pub ping_request : ℕ
ping_request = 0x0b00

abbrev pub ping_response : ℕ
ping_response = 0x0b01

abbrev pub enumeration_start_request : ℕ
enumeration_start_request = 0x0014

abbrev pub enumeration_start_response : ℕ
enumeration_start_response = 0x0015

abbrev pub enumeration_request : ℕ
enumeration_request = 0x0038

abbrev pub enumeration_response : ℕ
enumeration_response = 0x0039

abbrev pub assign_gateway_id_request : ℕ
assign_gateway_id_request = 0x003c

abbrev pub assign_gateway_id_response : ℕ
assign_gateway_id_response = 0x003d

abbrev pub identify_request : ℕ
identify_request = 0x003a

abbrev pub identify_response : ℕ
identify_response = 0x003b

abbrev pub version_request : ℕ
version_request = 0x000a

abbrev pub version_response : ℕ
version_response = 0x000b

abbrev pub enumeration_end_request : ℕ
enumeration_end_request = 0x0e02

abbrev pub enumeration_end_response : ℕ
enumeration_end_response = 0x0006

-- whether a type is one of these
abbrev pub is_one_of : List ℕ → ℕ → Bool
is_one_of [] k = false
is_one_of (t ∷ ts) k = cond (k == t) true (is_one_of ts k)

-- 01, "On the wire": the named frame types are the eighteen constants that belong to `Type`
abbrev pub named : List ℕ
named =
    receive_request
    ∷ receive_response
    ∷ command_request
    ∷ command_response
    ∷ ping_request
    ∷ ping_response
    ∷ enumeration_start_request
    ∷ enumeration_start_response
    ∷ enumeration_request
    ∷ enumeration_response
    ∷ assign_gateway_id_request
    ∷ assign_gateway_id_response
    ∷ identify_request
    ∷ identify_response
    ∷ version_request
    ∷ version_response
    ∷ enumeration_end_request
    ∷ enumeration_end_response
    ∷ []

-- 01, "Numbers handed back", 31: a type that is none of these
abbrev pub is_named : ℕ → Bool
is_named k = is_one_of named k

-- a type and a counter
pub record Row : Type 0 where
  pub frame_type : ℕ
  pub counter : ℕ

-- such a row, by its two parts
abbrev pub row : ℕ → ℕ → Row
row k c = record { frame_type = k; counter = c }

-- the counter that stands beside a type, or another
abbrev pub beside : List Row → ℕ → ℕ → ℕ
beside [] k other = other
beside (r ∷ rs) k other = cond (k == r.frame_type) r.counter (beside rs k other)

-- 01, "Transport": the other counters follow the source, and count without looking at address or payload where it does
abbrev pub counted_only : List Row
counted_only =
    row ping_request Counters.ping_requests
    ∷ row ping_response Counters.ping_responses
    ∷ row enumeration_start_response Counters.enumeration_start_responses
    ∷ row enumeration_request Counters.enumeration_requests
    ∷ row assign_gateway_id_request Counters.assign_gateway_id_requests
    ∷ row assign_gateway_id_response Counters.assign_gateway_id_responses
    ∷ row identify_request Counters.identify_requests
    ∷ row version_request Counters.version_requests
    ∷ row enumeration_end_request Counters.enumeration_end_requests
    ∷ []

-- the counter of a type that is only counted; any other type is unhandled
unfoldable pub counter_of : ℕ → ℕ
counter_of frame_type = beside counted_only frame_type Counters.unhandled_frame_type

-- the source's counter for an invalid frame of a type
abbrev pub invalids : List Row
invalids =
    row receive_request Counters.invalid_receive_request
    ∷ row receive_response Counters.invalid_receive_responses
    ∷ row command_request Counters.invalid_command_requests
    ∷ row command_response Counters.invalid_command_responses
    ∷ row enumeration_start_request Counters.invalid_enumeration_start_request
    ∷ row enumeration_response Counters.invalid_enumeration_responses
    ∷ row version_response Counters.invalid_version_responses
    ∷ row enumeration_end_response Counters.invalid_enumeration_end_responses
    ∷ row identify_response Counters.invalid_identify_responses
    ∷ []

-- 01, "Numbers handed back": refusals 20 to 24 and 28 to 31 raise the source's counter for that case: the one of a type's invalid frames
abbrev pub invalid_of : ℕ → ℕ
invalid_of frame_type = beside invalids frame_type Counters.unhandled_frame_type
