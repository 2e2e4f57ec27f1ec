-- The escapes of the wire, and what the byte after 7e means. The receiver and the grammar cite both. Assumes nothing.
use Rattle.std.specs.Prelude.{◌≡◌, ℕ, suc, ◌+◌, ◌<◌, cond, List, [], ◌∷◌, ◌++◌, get_or, eqb, ltb, Option, Some, None}

-- 01, "On the wire": escapes, each after 7e: 7e as 00, 24 as 01, 23 as 02, 25 as 03, a4 as 04, a3 as 05, a5 as 06
abbrev pub escapes : List ℕ
escapes = 0x7e ∷ 0x24 ∷ 0x23 ∷ 0x25 ∷ 0xa4 ∷ 0xa3 ∷ 0xa5 ∷ []

-- the byte that 7e and a code below 07 stand for
abbrev pub unescaped_of : ℕ → ℕ
unescaped_of code = get_or escapes code 0

-- where a byte stands in a list, counted from 0; the list's length if it does not
abbrev pub index_in : List ℕ → ℕ → ℕ
index_in [] b = 0
index_in (x ∷ xs) b = cond (eqb x b) 0 (suc (index_in xs b))

-- the code of a byte that is escaped; 7 for any other
unfoldable pub code_of : ℕ → ℕ
code_of b = index_in escapes b

-- the same where there is one
abbrev pub code_if : ℕ → Option ℕ
code_if b = cond (ltb (code_of b) 7) (Some (code_of b)) None

-- a byte on the wire: 7e and its code, or itself
unfoldable pub escaped_byte : ℕ → List ℕ
escaped_byte b = cond (ltb (code_of b) 7) (0x7e ∷ code_of b ∷ []) (b ∷ [])

-- a list of bytes on the wire: its bytes there, one after another
unfoldable pub escaped : List ℕ → List ℕ
escaped [] = []
escaped (b ∷ bs) = escaped_byte b ++ escaped bs

-- the list that an escaped list stands for: each 7e is taken with the byte after it
unfoldable pub unescaped : List ℕ → List ℕ
unescaped [] = []
unescaped (b ∷ []) = b ∷ []
unescaped (b ∷ code ∷ bs) = cond (eqb b 0x7e) (unescaped_of code ∷ unescaped bs) (b ∷ unescaped (code ∷ bs))

-- a list that holds a 7e only as the first half of a pair, whose second half is a code
pub data Paired : List ℕ → Type 0 where
  none : Paired []
  raw : {b : ℕ} {bs : List ℕ} → (b ≡ 0x7e → ⊥) → Paired bs → Paired (b ∷ bs)
  pair : {code : ℕ} {bs : List ℕ} → code < 7 → Paired bs → Paired (0x7e ∷ code ∷ bs)

-- how many of a list's bytes are among the seven
unfoldable pub sevens : List ℕ → ℕ
sevens [] = 0
sevens (b ∷ bs) = cond (ltb (code_of b) 7) 1 0 + sevens bs

-- what the byte after 7e means. 01, "The reading of a stream": 7e 00 to 7e 06 are data; 7e 07 opens a frame; closed by 7e 08; any other pair
-- does neither
pub data Meaning : Type 0 where
  datum opener closer neither : Meaning

-- which byte means what: below 07 data, 07 the opener, 08 the closer, above that neither
unfoldable pub meaning : ℕ → Meaning
meaning b = cond (ltb b 7) datum (cond (eqb b 7) opener (cond (eqb b 8) closer neither))
