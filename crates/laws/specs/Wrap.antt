-- Tallies that wrap. Assumes nothing.
use Rattle.std.specs.Prelude.{ℕ, ◌+◌, ◌%◌, ◌^◌}

-- 01, "The reading of a stream": tallies wrap at 2^64
abbrev pub raised : ℕ → ℕ
raised n = (n + 1) % 2 ^ 64
