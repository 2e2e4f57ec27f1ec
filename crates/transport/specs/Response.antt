-- A receive response: which fields it has, and what refuses it. Assumes nothing.
use Rattle.std.specs.Prelude.{ℕ, ◌+◌, Bool, cond, List, [], ◌∷◌, length, nat_lt, slice_index, Option, Some, None, Result, Ok, Err}
use Rattle.laws.specs.Bytes.{be16_at}
use Rattle.laws.specs.Numbers.{number_of as refusal_number, wrong_status, too_short}
use Rattle.transport.specs.declared.ReceiveResponse.{ReceiveResponse}
use Rattle.transport.specs.declared.ReceiveResponseError.{ReceiveResponseError}
use Rattle.transport.specs.declared.ReceiveResponseError.TheVariants.{TooShort, UnknownStatusType}
use Rattle.transport.specs.Status.{accepted_of, clear, rx_buffers_used_at, tx_buffers_free_at, unknown_aat, unknown_bat, slot_counter_at, needed_of}
use Rattle.transport.specs.Number.{number_of}

-- 01, "Transport": each present while its bit is clear: 0x01 one byte, 0x02 one ..
abbrev pub byte_in : Bool → List ℕ → ℕ → Option ℕ
byte_in there p at = cond there (Some (slice_index p at)) None

-- .. 0x04 two, 0x08 two
abbrev pub pair_in : Bool → List ℕ → ℕ → Option (List ℕ)
pair_in there p at = cond there (Some (slice_index p at ∷ slice_index p (at + 1) ∷ [])) None

-- 01, "Transport": fields follow, then the packet number, then slot counter: those of a response with this status
-- word, after the packet number old
unfoldable pub response_in : ℕ → List ℕ → ℕ → ReceiveResponse
response_in status p old =
    record {
      rx_buffers_used = byte_in (clear status 0x01) p (rx_buffers_used_at status);
      tx_buffers_free = byte_in (clear status 0x02) p (tx_buffers_free_at status);
      unknown_a = pair_in (clear status 0x04) p (unknown_aat status);
      unknown_b = pair_in (clear status 0x08) p (unknown_bat status);
      packet_number = record { 0 = number_of status p old };
      slot_counter = record { 0 = be16_at p (slot_counter_at status) };
    }

-- what is read of a payload: the fields and where the packet area starts, or why it is no receive response
abbrev pub Read : Type 0
Read = Result (ReceiveResponse × ℕ) ReceiveResponseError

-- 01, "Numbers handed back", for a receive response: 23 if under 2 bytes (5 is needed), then 22, then 23 with the length needed
unfoldable pub receive_read_of : List ℕ → ℕ → Read
receive_read_of p old =
    cond (nat_lt (length p) 2) (Err (TooShort 5))
    (cond (accepted_of (be16_at p 0))
    (cond (nat_lt (length p) (needed_of (be16_at p 0))) (Err (TooShort (needed_of (be16_at p 0))))
    (Ok (response_in (be16_at p 0) p old, needed_of (be16_at p 0))))
    (Err (UnknownStatusType (be16_at p 0))))

-- a number of 01's table and the value that goes with it, or the fields and where the packet area starts
pub data Told : Type 0 where
  refused : ℕ → ℕ → Told
  fields : ReceiveResponse → ℕ → Told

-- 01, "Numbers handed back", 23: gives the length needed; 22 goes with the status word
abbrev pub handed_read : Read → Told
handed_read (Ok r) = fields r.0 r.1
handed_read (Err (TooShort n)) = refused (refusal_number too_short) n
handed_read (Err (UnknownStatusType status)) = refused (refusal_number wrong_status) status
