-- The payload layouts of fixed and of least length: what the bytes at each place are. Assumes nothing.
use Rattle.std.specs.Prelude.{ℕ, cond, List, [], ◌∷◌, length, get_or, take, drop, eqb, ltb, Result, Ok, Err}
use Rattle.laws.specs.Bytes.{be16_at}
use Rattle.laws.specs.Handed.{Handed, value}
use Rattle.laws.specs.Numbers.{refused_as, wrong_length, names_from}
use Rattle.address.specs.declared.Address.{Address}
use Rattle.address.specs.declared.Address.TheVariants.{From, To}
use Rattle.address.specs.Address.{address_of}
use Rattle.address.specs.declared.GatewayID.{GatewayID}
use Rattle.layouts.specs.declared.WrongLength.{WrongLength}
use Rattle.layouts.specs.declared.NamesFrom.{NamesFrom}
use Rattle.layouts.specs.declared.CommandRequest.{CommandRequest}
use Rattle.layouts.specs.declared.CommandResponse.{CommandResponse}
use Rattle.layouts.specs.declared.ReceiveRequest.{ReceiveRequest}
use Rattle.layouts.specs.declared.IdentifyResponse.{IdentifyResponse}
use Rattle.layouts.specs.declared.EnumerationStartRequest.{EnumerationStartRequest}

-- 01, "Numbers handed back", 21: wrong or short fixed length
abbrev pub handed : {A : Type 0} → Result A WrongLength → Handed A
handed (Ok a) = value a
handed (Err e) = refused_as wrong_length

-- what is read of a payload of exactly so many bytes, where 01 says "exactly"
abbrev pub exactly : {A : Type 0} → ℕ → List ℕ → A → Result A WrongLength
exactly n payload a = cond (eqb (length payload) n) (Ok a) (Err (record {}))

-- what is read of a payload of so many bytes or more, where 01 gives a length alone
abbrev pub at_least : {A : Type 0} → ℕ → List ℕ → A → Result A WrongLength
at_least n payload a = cond (ltb (length payload) n) (Err (record {})) (Ok a)

-- 01, "Transport": command request 3 unknown, packet type, sequence (5): its length ..
abbrev pub command_request_length : ℕ
command_request_length = 5

-- .. and its fields
abbrev pub command_request_in : List ℕ → CommandRequest
command_request_in p =
    record {
      unknown = get_or p 0 0 ∷ get_or p 1 0 ∷ get_or p 2 0 ∷ [];
      packet_type = record { 0 = get_or p 3 0 };
      sequence_number = record { 0 = get_or p 4 0 };
    }

-- 01, "Transport": command response unknown, buffers free, unknown, packet type, sequence (5): its length ..
abbrev pub command_response_length : ℕ
command_response_length = 5

-- .. and its fields
abbrev pub command_response_in : List ℕ → CommandResponse
command_response_in p =
    record {
      unknown_1 = get_or p 0 0;
      tx_buffers_free = get_or p 1 0;
      unknown_2 = get_or p 2 0;
      packet_type = record { 0 = get_or p 3 0 };
      command_sequence_number = record { 0 = get_or p 4 0 };
    }

-- 01, "Transport": receive request 2 unknown, packet number big-endian, 1 unknown (5, exactly): its length ..
abbrev pub receive_request_length : ℕ
receive_request_length = 5

-- .. and its fields
abbrev pub receive_request_in : List ℕ → ReceiveRequest
receive_request_in p =
    record {
      unknown_1 = get_or p 0 0 ∷ get_or p 1 0 ∷ [];
      packet_number = record { 0 = be16_at p 2 };
      unknown_2 = get_or p 4 0;
    }

-- 01, "Transport": identify and enumeration response long address (8) and gateway address (10, exactly): the long address's length ..
abbrev pub long_address_length : ℕ
long_address_length = 8

-- .. the response's length ..
abbrev pub identify_response_length : ℕ
identify_response_length = 10

-- .. and its fields
abbrev pub identify_response_in : List ℕ → IdentifyResponse
identify_response_in p =
    record {
      pv_long_address = record { 0 = get_or p 0 0 ∷ get_or p 1 0 ∷ get_or p 2 0 ∷ get_or p 3 0 ∷ get_or p 4 0 ∷ get_or p 5 0 ∷ get_or p 6 0 ∷ get_or p 7 0 ∷ [] };
      gateway_address = get_or p 8 0 ∷ get_or p 9 0 ∷ [];
    }

-- 01, "Transport": enumeration start 4 unknown and an address (6, exactly): its length ..
abbrev pub enumeration_start_request_length : ℕ
enumeration_start_request_length = 6

-- .. and its fields
abbrev pub enumeration_start_request_in : List ℕ → EnumerationStartRequest
enumeration_start_request_in p =
    record {
      unknown = get_or p 0 0 ∷ get_or p 1 0 ∷ get_or p 2 0 ∷ get_or p 3 0 ∷ [];
      enumeration_address = get_or p 4 0 ∷ get_or p 5 0 ∷ [];
    }

-- the gateway that an address names if its direction is To
abbrev pub to_gateway : Address → Result GatewayID NamesFrom
to_gateway (To g) = Ok g
to_gateway (From g) = Err (record {})

-- the same of an address's two bytes, big-endian
unfoldable pub named_of : List ℕ → Result GatewayID NamesFrom
named_of address = to_gateway (address_of (be16_at address 0))

-- 01, "Numbers handed back", 28: enumeration start names a From address
abbrev pub handed_named : Result GatewayID NamesFrom → Handed ℕ
handed_named (Ok g) = value g.0
handed_named (Err e) = refused_as names_from

-- WHAT THE STEP READS, each from its layout

-- a command request's packet type ..
abbrev pub request_type : List ℕ → ℕ
request_type p = (command_request_in p).packet_type.0

-- .. its sequence ..
abbrev pub request_sequence : List ℕ → ℕ
request_sequence p = (command_request_in p).sequence_number.0

-- .. and what follows them, its payload in the sense of 01, "Event record": request payload
abbrev pub request_data : List ℕ → List ℕ
request_data p = drop command_request_length p

-- a command response's packet type ..
abbrev pub response_type : List ℕ → ℕ
response_type p = (command_response_in p).packet_type.0

-- .. its sequence ..
abbrev pub response_sequence : List ℕ → ℕ
response_sequence p = (command_response_in p).command_sequence_number.0

-- .. and what follows them, 01's response payload
abbrev pub response_data : List ℕ → List ℕ
response_data p = drop command_response_length p

-- a receive request's packet number
abbrev pub requested_number : List ℕ → ℕ
requested_number p = (receive_request_in p).packet_number.0

-- an identify or enumeration response's long address, of a payload that has one: `long_address-read` says that it is the layout's
abbrev pub long_address : List ℕ → List ℕ
long_address p = take long_address_length p

-- the address that an enumeration start names
abbrev pub enumeration_address : List ℕ → Address
enumeration_address p = address_of (be16_at (enumeration_start_request_in p).enumeration_address 0)
