-- Slot counters in plain arithmetic, after slot_counter.rs. Assumes nothing.
use Rattle.std.specs.Prelude.{ℕ, ◌+◌, ◌-◌, ◌*◌, ◌/◌, ◌%◌, cond, ◌==◌, bit_or, nat_le, nat_lt, Result, Ok, Err}
use Rattle.slot_counter.specs.declared.SlotEpoch.{SlotEpoch}
use Rattle.slot_counter.specs.declared.SlotEpoch.TheVariants.{Epoch0, Epoch4, Epoch8, EpochC}
use Rattle.slot_counter.specs.declared.SlotNumber.{SlotNumber}
use Rattle.slot_counter.specs.declared.InvalidSlotNumber.{InvalidSlotNumber}

-- slot_counter.rs, `SlotEpoch`: Epoch0 = 0, Epoch4 = 1, Epoch8 = 2, EpochC = 3: the index of each
abbrev pub index_of : SlotEpoch → ℕ
index_of Epoch0 = 0
index_of Epoch4 = 1
index_of Epoch8 = 2
index_of EpochC = 3

-- the epoch of an index, of the four
unfoldable pub epoch_at : ℕ → SlotEpoch
epoch_at n = cond (n == 0) Epoch0 (cond (n == 1) Epoch4 (cond (n == 2) Epoch8 EpochC))

-- slot_counter.rs, `epoch`: the two highest of a counter's sixteen bits are its epoch's index ..
abbrev pub epoch_of : ℕ → SlotEpoch
epoch_of c = epoch_at (c / 0x4000)

-- .. and, `slot_number`, the other fourteen its slot number
abbrev pub number_in : ℕ → ℕ
number_in c = c % 0x4000

-- slot_counter.rs, `new`: a counter made of an epoch and a slot number: the number's bits beside the epoch's
unfoldable pub new_of : SlotEpoch → ℕ → ℕ
new_of e n = bit_or (index_of e * 0x4000) n

-- slot_counter.rs, `SlotNumber`: slot numbers range from 0 to 11999 inclusive; a value that is over is told
unfoldable pub slot_number_of : ℕ → Result SlotNumber InvalidSlotNumber
slot_number_of n = cond (nat_le n 11999) (Ok (record { 0 = n })) (Err (record { 0 = n }))

-- slot_counter.rs: SlotEpoch addition wraps: it goes around the four
unfoldable pub added_of : SlotEpoch → ℕ → SlotEpoch
added_of e n = epoch_at ((index_of e + n) % 4)

-- slot_counter.rs, `slots_since`: an epoch has 12000 slots, and the counter repeats after 48000: the slots before a slot of an epoch ..
abbrev pub abs_of : ℕ → ℕ → ℕ
abs_of index n = index * 12000 + n

-- .. and before a counter's
abbrev pub abs_in : ℕ → ℕ
abs_in c = abs_of (c / 0x4000) (number_in c)

-- slot_counter.rs, `slots_since`: the slots from one of the 48000 to a later one, around the end where it does not lie behind;
-- equal ones are 48000 apart
abbrev pub apart : ℕ → ℕ → ℕ
apart now past = cond (nat_lt past now) (now - past) (48000 - past + now)

-- slot_counter.rs, `slots_since`: a bad slot number is told instead, the present counter's before the past one's
unfoldable pub slots_since_of : ℕ → ℕ → Result ℕ InvalidSlotNumber
slots_since_of now past =
    cond (nat_le (number_in now) 11999)
    (cond (nat_le (number_in past) 11999) (Ok (apart (abs_in now) (abs_in past))) (Err (record { 0 = number_in past })))
    (Err (record { 0 = number_in now }))
