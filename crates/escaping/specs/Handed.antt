-- What the functions of this crate hand back, in 01's numbers and values, and what `escape` writes. Assumes nothing.
use Rattle.std.specs.Prelude.{ℕ, List, [], ◌∷◌, length, ltb, Result}
use Rattle.laws.specs.Bytes.{laid_if}
use Rattle.laws.specs.Handed.{Handed, value}
use Rattle.laws.specs.Numbers.{Refusal, refused_as, handed_by, row, judged, too_long, no_room, no_unit}
use Rattle.escaping.specs.Escapes.{Meaning, datum, opener, closer, neither, meaning, unescaped_of, escaped}
use Rattle.escaping.specs.declared.InvalidEscapeSequence.{InvalidEscapeSequence}
use Rattle.escaping.specs.declared.TooLong.{TooLong}
use Rattle.escaping.specs.declared.EscapeError.{EscapeError}
use Rattle.escaping.specs.declared.EscapeError.TheVariants.{TooLong as TooLongToEscape, NoRoom}

-- 01, "Numbers handed back", 14: unescape: byte above 06; else the byte that is meant
abbrev pub handed_byte : Result ℕ InvalidEscapeSequence → Handed ℕ
handed_byte = handed_by (λ _. no_unit)

-- 01, "Numbers handed back", 10: escape and its length: input over 65,536; else the length
abbrev pub handed_length : Result ℕ TooLong → Handed ℕ
handed_length = handed_by (λ _. too_long)

-- 01, "Numbers handed back", 10: escape: input over 65,536; 11: escape: room below the exact length; else how many bytes were written
abbrev pub refusal_of : EscapeError → Refusal
refusal_of TooLongToEscape = too_long
refusal_of NoRoom = no_room

abbrev pub handed_written : Result ℕ EscapeError → Handed ℕ
handed_written = handed_by refusal_of

-- 01, "Numbers handed back", 14: unescape: byte above 06, which is no data after 7e; this by what the byte means ..
abbrev pub unescape_meant : Meaning → ℕ → Handed ℕ
unescape_meant datum code = value (unescaped_of code)
unescape_meant opener code = refused_as no_unit
unescape_meant closer code = refused_as no_unit
unescape_meant neither code = refused_as no_unit

-- .. and this by the byte
unfoldable pub unescape_handed : ℕ → Handed ℕ
unescape_handed code = unescape_meant (meaning code) code

-- 01, "Numbers handed back", 10: escape and its length: input over 65,536
abbrev pub input_limit : ℕ
input_limit = 65536

-- 01, "Numbers handed back", 10: escape and its length: input over the limit; else the exact length
unfoldable pub length_handed : List ℕ → Handed ℕ
length_handed input = judged (row too_long (ltb input_limit (length input)) ∷ []) (value (length (escaped input)))

-- 01, "Numbers handed back", for escape 10, 11 (room below the exact length)
unfoldable pub escape_handed : List ℕ → ℕ → Handed ℕ
escape_handed input room =
    judged
    (row too_long (ltb input_limit (length input))
    ∷ row no_room (ltb room (length (escaped input)))
    ∷ [])
    (value (length (escaped input)))

-- the lent bytes afterwards: the escaped input over their start, if it is accepted
unfoldable pub escape_bytes : List ℕ → List ℕ → List ℕ
escape_bytes input out = laid_if (escape_handed input (length out)) (escaped input) out
