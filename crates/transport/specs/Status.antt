-- A receive response's status word: whether it is accepted, which fields follow it, and how long the response has to be. Assumes nothing.
use Rattle.std.specs.Prelude.{ℕ, ◌+◌, ◌-◌, ◌*◌, Bool, cond, ◌==◌, bit_and, count_ones}

-- 01, "Transport": a receive response starts with a big-endian status word with all of 0x00e0 set
abbrev pub accepted_of : ℕ → Bool
accepted_of status = bit_and status 0x00e0 == 0x00e0

-- 01, "Transport": fields follow, each present while its bit is clear
abbrev pub clear : ℕ → ℕ → Bool
clear status bit = bit_and status bit == 0

-- how many bytes a field takes: its size if it is present, else none
abbrev pub field_size : ℕ → ℕ → ℕ → ℕ
field_size status bit size = cond (clear status bit) size 0

-- 01, "Transport": 0x01 one byte: it starts behind the status word's two ..
abbrev pub rx_buffers_used_at : ℕ → ℕ
rx_buffers_used_at status = 2

-- .. 0x02 one: where it starts, behind the field before, if that is present ..
abbrev pub tx_buffers_free_at : ℕ → ℕ
tx_buffers_free_at status = rx_buffers_used_at status + field_size status 0x01 1

-- .. 0x04 two ..
abbrev pub unknown_aat : ℕ → ℕ
unknown_aat status = tx_buffers_free_at status + field_size status 0x02 1

-- .. 0x08 two ..
abbrev pub unknown_bat : ℕ → ℕ
unknown_bat status = unknown_aat status + field_size status 0x04 2

-- .. then the packet number ..
abbrev pub number_at : ℕ → ℕ
number_at status = unknown_bat status + field_size status 0x08 2

-- .. two bytes, or one if 0x10 is set; then slot counter ..
abbrev pub slot_counter_at : ℕ → ℕ
slot_counter_at status = number_at status + cond (clear status 0x10) 2 1

-- .. two. The rest is the packet area: the length needed is where it starts, the sum of all these fields
unfoldable pub needed_of : ℕ → ℕ
needed_of status = slot_counter_at status + 2

-- 01, "Transport": the length needed is 12 less the ones among 0x13 less twice the ones among 0x0c
abbrev pub needed_by_ones : ℕ → ℕ
needed_by_ones status = 12 - count_ones (bit_and status 0x13) - 2 * count_ones (bit_and status 0x0c)
