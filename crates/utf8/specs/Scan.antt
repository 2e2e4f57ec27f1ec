-- One pass over bytes: what it carries from byte to byte, and what it says at the end. The grammar is in Utf8.antt; that the two agree is a
-- law (proofs/Laws.antt). Assumes nothing.
use Rattle.std.specs.Prelude.{ℕ, ◌-◌, Bool, false, cond, Option, Some, None, List, [], ◌∷◌, length, eqb, ltb}
use Rattle.std.specs.Option.{option_map_or}
use Rattle.utf8.specs.declared.Want.{Want}

-- so many bytes still belong to the character, and the next of them lies from lo to hi
abbrev pub want : ℕ → ℕ → ℕ → Want
want k lo hi = record { left = k; lo = lo; hi = hi }

-- between two characters
abbrev pub between : Want
between = want 0 0x80 0xbf

-- after the first byte of a character; nothing after a byte that begins none
unfoldable pub lead_of : ℕ → Option Want
lead_of b =
    cond (ltb b 0x80) (Some between)
    (cond (ltb b 0xc2) None
    (cond (ltb b 0xe0) (Some (want 1 0x80 0xbf))
    (cond (ltb b 0xe1) (Some (want 2 0xa0 0xbf))
    (cond (ltb b 0xed) (Some (want 2 0x80 0xbf))
    (cond (ltb b 0xee) (Some (want 2 0x80 0x9f))
    (cond (ltb b 0xf0) (Some (want 2 0x80 0xbf))
    (cond (ltb b 0xf1) (Some (want 3 0x90 0xbf))
    (cond (ltb b 0xf4) (Some (want 3 0x80 0xbf))
    (cond (ltb b 0xf5) (Some (want 3 0x80 0x8f))
    None)))))))))

-- after any byte; nothing after a byte that is not wanted: no more bytes make a text of this
unfoldable pub step_of : Want → ℕ → Option Want
step_of w b =
    cond (eqb w.left 0) (lead_of b)
    (cond (ltb b w.lo) None
    (cond (ltb w.hi b) None
    (Some (want (w.left - 1) 0x80 0xbf))))

-- whether the bytes, from there, end between two characters
unfoldable pub passes : Want → List ℕ → Bool
passes w [] = eqb w.left 0
passes w (b ∷ s) = option_map_or (λ v. passes v s) (step_of w b) false

-- the test as a Bool: true exactly of UTF-8, by `is_utf8-utf8`
unfoldable pub is_utf8 : List ℕ → Bool
is_utf8 s = passes between s

-- and the same for a text, which is not empty
abbrev pub is_text : List ℕ → Bool
is_text s = cond (eqb (length s) 0) false (is_utf8 s)
