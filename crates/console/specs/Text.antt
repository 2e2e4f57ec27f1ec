-- Text put into an output buffer. Assumes nothing.
use Rattle.std.specs.Prelude.{ℕ, suc, ◌/◌, ◌%◌, cond, List, [], ◌∷◌, ◌++◌, length, set, ltb}
use Rattle.io.specs.Digits.{hex_digit_ascii}
use Rattle.console.specs.declared.text.Output.{Output}

-- an output of a buffer and a place
abbrev pub output : List ℕ → ℕ → Output
output bytes at = record { bytes = bytes; at = at }

-- a byte at the place, and the place after it; past the buffer's end nothing changes
abbrev pub put_byte : Output → ℕ → Output
put_byte o b = cond (ltb o.at (length o.bytes)) (output (set o.bytes o.at b) (suc o.at)) o

-- bytes, one after another
unfoldable pub put_bytes : Output → List ℕ → Output
put_bytes o [] = o
put_bytes o (b ∷ s) = put_bytes (put_byte o b) s

-- a byte as two hex digits, the higher first
abbrev pub hex_of : ℕ → List ℕ
hex_of b = hex_digit_ascii (b / 16) ∷ hex_digit_ascii (b % 16) ∷ []

-- bytes in hex
unfoldable pub hexes_of : List ℕ → List ℕ
hexes_of [] = []
hexes_of (b ∷ s) = hex_of b ++ hexes_of s

-- the buffer once it was written: the next byte goes to its start
abbrev pub emptied : Output → Output
emptied o = output o.bytes 0
