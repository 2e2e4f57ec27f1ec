-- How slot counters and the fields of a receive response cross a door. Assumes nothing.
use Rattle.std.specs.Prelude.{ℕ, ◌+◌, ◌*◌, ◌^◌, List, [], ◌∷◌, Option, Some, None, Result, Ok, Err}
use Rattle.laws.specs.Bytes.{be16_at}
use Rattle.slot_counter.specs.Slots.{new_of}
use Rattle.slot_counter.specs.declared.SlotEpoch.{SlotEpoch}
use Rattle.slot_counter.specs.declared.SlotNumber.{SlotNumber}
use Rattle.slot_counter.specs.declared.InvalidSlotNumber.{InvalidSlotNumber}
use Rattle.transport.specs.declared.ReceiveResponse.{ReceiveResponse}
use Rattle.transport.specs.declared.ReceiveResponseError.TheVariants.{TooShort, UnknownStatusType}
use Rattle.transport.specs.Response.{Read}

-- a slot number is itself; a value that is none comes with 2^16 more
abbrev pub numbered_slot : Result SlotNumber InvalidSlotNumber → ℕ
numbered_slot (Ok n) = n.0
numbered_slot (Err n) = 0x10000 + n.0

-- the counter of an epoch and a slot number; a value that is none comes with 2^16 more
abbrev pub counted_slot : SlotEpoch → Result SlotNumber InvalidSlotNumber → ℕ
counted_slot e (Ok n) = new_of e n.0
counted_slot e (Err n) = 0x10000 + n.0

-- the slots since; a value that is no slot number comes with 2^16 more
abbrev pub since_number : Result ℕ InvalidSlotNumber → ℕ
since_number (Ok n) = n
since_number (Err n) = 0x10000 + n.0

-- a field of one byte; 2^16 where it is missing
abbrev pub byte_or : Option ℕ → ℕ
byte_or (Some x) = x
byte_or None = 0x10000

-- a field of two bytes; 2^16 where it is missing
abbrev pub pair_or : Option (List ℕ) → ℕ
pair_or (Some xs) = be16_at xs 0
pair_or None = 0x10000

-- the fields in the order of their bytes, and where the packet area starts
abbrev pub read_fields : ReceiveResponse → ℕ → List ℕ
read_fields r area =
    byte_or r.rx_buffers_used ∷
    byte_or r.tx_buffers_free ∷
    pair_or r.unknown_a ∷
    pair_or r.unknown_b ∷
    r.packet_number.0 ∷
    r.slot_counter.0 ∷
    area ∷
    []

-- 22 and 23 as 2^32 times the number
abbrev pub read_answer : Read → ℕ
read_answer (Ok r) = 0
read_answer (Err (TooShort n)) = 23 * 2 ^ 32
read_answer (Err (UnknownStatusType s)) = 22 * 2 ^ 32

-- the fields; or what goes with the refusal, and zeros
abbrev pub read_news : Read → List ℕ
read_news (Ok r) = read_fields r.0 r.1
read_news (Err (TooShort n)) = n ∷ 0 ∷ 0 ∷ 0 ∷ 0 ∷ 0 ∷ 0 ∷ []
read_news (Err (UnknownStatusType s)) = s ∷ 0 ∷ 0 ∷ 0 ∷ 0 ∷ 0 ∷ 0 ∷ []
