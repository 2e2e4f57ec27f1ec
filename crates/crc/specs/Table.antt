-- What a table of the check is. Assumes nothing.
use Rattle.std.specs.Prelude.{◌≡◌, List, ℕ, ◌<◌, get_or}
use Rattle.crc.specs.Crc.{crc_bits}

-- 01, "What comes over": its 256-entry table is proved to follow the bitwise rule at every entry: eight bits, from the entry's index
unfoldable pub Follows : List ℕ → Type 0
Follows entries = (k : ℕ) → k < 256 → get_or entries k 0 ≡ crc_bits 8 k
