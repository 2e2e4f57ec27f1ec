-- Packet numbers. Assumes nothing.
use Rattle.std.specs.Prelude.{ℕ, ◌+◌, ◌/◌, ◌%◌, cond, List, nat_le, slice_index}
use Rattle.laws.specs.Bytes.{of16, be16_at}
use Rattle.transport.specs.Status.{clear, number_at}

-- 01, "Transport": a one-byte packet number keeps the old high byte if it is at least the old low byte; otherwise the high byte goes up by one, ff to 00
unfoldable pub interpret_of : ℕ → ℕ → ℕ
interpret_of lo old = of16 (cond (nat_le (old % 256) lo) (old / 256) ((old / 256 + 1) % 256)) lo

-- 01, "Transport": the packet number, two bytes, or one if 0x10 is set
unfoldable pub number_of : ℕ → List ℕ → ℕ → ℕ
number_of status payload old =
    cond (clear status 0x10) (be16_at payload (number_at status)) (interpret_of (slice_index payload (number_at status)) old)
