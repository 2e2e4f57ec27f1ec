-- 01's marked cases on packet numbers and status words, as one table of rows. Assumes nothing.
use Rattle.std.specs.Prelude.{ℕ, Bool, false, cond, List, [], ◌∷◌, ◌==◌}
use Rattle.transport.specs.Status.{accepted_of, needed_of}
use Rattle.transport.specs.Number.{interpret_of}

-- the three forms of 01's rows: low l after old gives new; status s needs n; status s is refused by number
pub data Row : Type 0 where
  low : ℕ → ℕ → ℕ → Row
  needs : ℕ → ℕ → Row
  refuses : ℕ → ℕ → Row

-- 01, "Marked cases": low 05 after 1205 gives 1205; 04 gives 1304; 00 after ffff gives 0000.
-- status 00e0 needs 12, ffff needs 5, 00df is refused 22.
abbrev pub marked : List Row
marked =
    low 0x05 0x1205 0x1205 ∷
    low 0x04 0x1205 0x1304 ∷
    low 0x00 0xffff 0x0000 ∷
    needs 0x00e0 12 ∷
    needs 0xffff 5 ∷
    refuses 0x00df 22 ∷
    []

-- 01, "Numbers handed back", 22: status word lacks part of 0x00e0. 0 stands for no refusal
abbrev pub status_refusal : ℕ → ℕ
status_refusal status = cond (accepted_of status) 0 22

-- what a row claims. A status word that needs so many bytes is an accepted one
unfoldable pub claimed : Row → Bool
claimed (low l old new) = interpret_of l old == new
claimed (needs s n) = cond (accepted_of s) (needed_of s == n) false
claimed (refuses s number) = status_refusal s == number
