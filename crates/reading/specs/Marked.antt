-- 01, "Marked cases", those of the link: one list of rows, and what it is for a row to hold. Over any check. Assumes nothing.
use Rattle.std.specs.Prelude.{ℕ, List, [], ◌∷◌, ◌++◌, replicate}
use Rattle.reading.specs.Grammar.{present, idle, noisy}
use Rattle.reading.specs.Counts.{Rest, out, out_7e, inside, inside_7e, over, over-7e}
use Rattle.reading.specs.Accounts.{Account, Tells}

-- bytes, and what their one reading says
pub record Row : Type 0 where
  pub bytes : List ℕ
  pub account : Account

-- bytes with no sound frame: the nine numbers of their ledger, and where they leave off
abbrev pub row : List ℕ → List ℕ → Rest → Row
row bs ns r = record { bytes = bs; account = record { numbers = ns; frames = []; rest = r } }

-- the row's one reading says what the row says
abbrev pub Holds : (List ℕ → ℕ) → Row → Type 0
Holds check x = Tells check present x.bytes x.account

-- 7e 07, 256 times 41
abbrev pub full : List ℕ
full = 0x7e ∷ 0x07 ∷ replicate 256 0x41

-- the numbers: openings, frames, runts, checksums, giants, escaped, broken, noise, open
unfoldable pub marked : List Row
marked =
    -- "no bytes: all 0. 7e 7e: noise 1. 41 42 00 43: noise 2."
    row [] (0 ∷ 0 ∷ 0 ∷ 0 ∷ 0 ∷ 0 ∷ 0 ∷ 0 ∷ 0 ∷ []) (out idle)
    ∷ row (0x7e ∷ 0x7e ∷ []) (0 ∷ 0 ∷ 0 ∷ 0 ∷ 0 ∷ 0 ∷ 0 ∷ 1 ∷ 0 ∷ []) (out noisy)
    ∷ row (0x41 ∷ 0x42 ∷ 0x00 ∷ 0x43 ∷ []) (0 ∷ 0 ∷ 0 ∷ 0 ∷ 0 ∷ 0 ∷ 0 ∷ 2 ∷ 0 ∷ []) (out noisy)
    -- "7e 07 7e 07: openings 1, broken 1, noise 1."
    ∷ row (0x7e ∷ 0x07 ∷ 0x7e ∷ 0x07 ∷ []) (1 ∷ 0 ∷ 0 ∷ 0 ∷ 0 ∷ 0 ∷ 1 ∷ 1 ∷ 0 ∷ []) (out noisy)
    -- "7e 07, 256 times 41, 41: giants 1. With 7e 01 for the last: escaped 1, giants 0; then 08 gives Idle, 07 opens a second frame."
    ∷ row (full ++ (0x41 ∷ [])) (1 ∷ 0 ∷ 0 ∷ 0 ∷ 1 ∷ 0 ∷ 0 ∷ 0 ∷ 0 ∷ []) over
    ∷ row (full ++ (0x7e ∷ 0x01 ∷ [])) (1 ∷ 0 ∷ 0 ∷ 0 ∷ 0 ∷ 1 ∷ 0 ∷ 0 ∷ 0 ∷ []) over-7e
    ∷ row (full ++ (0x7e ∷ 0x01 ∷ 0x08 ∷ [])) (1 ∷ 0 ∷ 0 ∷ 0 ∷ 0 ∷ 1 ∷ 0 ∷ 0 ∷ 0 ∷ []) (out idle)
    ∷ row (full ++ (0x7e ∷ 0x01 ∷ 0x07 ∷ [])) (2 ∷ 0 ∷ 0 ∷ 0 ∷ 0 ∷ 1 ∷ 0 ∷ 0 ∷ 1 ∷ []) (inside [])
    -- "The ledger program, given 7e 07 7e 08 on standard input, prints exactly these lines"
    ∷ row (0x7e ∷ 0x07 ∷ 0x7e ∷ 0x08 ∷ []) (1 ∷ 0 ∷ 1 ∷ 0 ∷ 0 ∷ 0 ∷ 0 ∷ 0 ∷ 0 ∷ []) (out idle)
    ∷ []

-- corners of the same rules, beside 01's own
unfoldable pub corners : List Row
corners =
    -- "A lone last 7e waits."
    row (0x7e ∷ []) (0 ∷ 0 ∷ 0 ∷ 0 ∷ 0 ∷ 0 ∷ 0 ∷ 0 ∷ 0 ∷ []) out_7e
    ∷ row (0x7e ∷ 0x07 ∷ 0x7e ∷ []) (1 ∷ 0 ∷ 0 ∷ 0 ∷ 0 ∷ 0 ∷ 0 ∷ 0 ∷ 1 ∷ []) (inside_7e [])
    -- the pair is 7e 7e, and 07 then comes in Noise; 7e 00 is one noise and leads to Noise
    ∷ row (0x7e ∷ 0x7e ∷ 0x07 ∷ []) (0 ∷ 0 ∷ 0 ∷ 0 ∷ 0 ∷ 0 ∷ 0 ∷ 1 ∷ 0 ∷ []) (out noisy)
    ∷ row (0x7e ∷ 0x00 ∷ 0x41 ∷ []) (0 ∷ 0 ∷ 0 ∷ 0 ∷ 0 ∷ 0 ∷ 0 ∷ 1 ∷ 0 ∷ []) (out noisy)
    -- "a raw 24 counts"; five units are fewer than six
    ∷ row (0x7e ∷ 0x07 ∷ 0x24 ∷ 0x7e ∷ 0x01 ∷ 0x41 ∷ 0x41 ∷ 0x41 ∷ []) (1 ∷ 0 ∷ 0 ∷ 0 ∷ 0 ∷ 0 ∷ 0 ∷ 0 ∷ 1 ∷ []) (inside (0x24 ∷ 0x24 ∷ 0x41 ∷ 0x41 ∷ 0x41 ∷ []))
    ∷ row (0x7e ∷ 0x07 ∷ 0x24 ∷ 0x7e ∷ 0x01 ∷ 0x41 ∷ 0x41 ∷ 0x41 ∷ 0x7e ∷ 0x08 ∷ []) (1 ∷ 0 ∷ 1 ∷ 0 ∷ 0 ∷ 0 ∷ 0 ∷ 0 ∷ 0 ∷ []) (out idle)
    -- 256 units are not too many; any other pair breaks them too
    ∷ row full (1 ∷ 0 ∷ 0 ∷ 0 ∷ 0 ∷ 0 ∷ 0 ∷ 0 ∷ 1 ∷ []) (inside (replicate 256 0x41))
    ∷ row (full ++ (0x7e ∷ 0x07 ∷ [])) (1 ∷ 0 ∷ 0 ∷ 0 ∷ 0 ∷ 0 ∷ 1 ∷ 1 ∷ 0 ∷ []) (out noisy)
    -- "Pairs are taken two bytes at a time there too": 7e 7e, then 08; and 7e 07 there opens a frame
    ∷ row (full ++ (0x41 ∷ 0x7e ∷ 0x7e ∷ 0x08 ∷ [])) (1 ∷ 0 ∷ 0 ∷ 0 ∷ 1 ∷ 0 ∷ 0 ∷ 0 ∷ 0 ∷ []) over
    ∷ row (full ++ (0x41 ∷ 0x7e ∷ 0x07 ∷ 0x7e ∷ 0x09 ∷ [])) (2 ∷ 0 ∷ 0 ∷ 0 ∷ 1 ∷ 0 ∷ 1 ∷ 1 ∷ 0 ∷ []) (out noisy)
    ∷ []
