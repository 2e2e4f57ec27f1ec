-- 01, "The reading of a stream", as a grammar: a list of pieces that joined make up the bytes, each piece judged by its own rule.
-- What stands in quotes is 01's, from that section. No state machine and nothing of the receiver. Over any rules. Assumes nothing.
use Rattle.std.specs.Prelude.{◌≡◌, ℕ, ◌≤◌, Bool, true, false, cond, List, [], ◌∷◌, ◌++◌, length, drop, eqb}
use Rattle.link.specs.Wire.{body_limit}
use Rattle.escaping.specs.Escapes.{Meaning, datum, opener, closer, neither, meaning}

-- what a grammar is over: the most data units that a frame may have
pub record Rules : Type 0 where
  pub limit : ℕ

-- 01's rules: "closed by 7e 08 with at most 256 data units"
abbrev pub present : Rules
present = record { limit = body_limit }

-- PIECES

-- "Outside an open frame and the overlong tail" the line is Idle or in Noise
pub data Line : Type 0 where
  idle noisy : Line

-- what a frame or a tail is made of: a byte other than 7e, or 7e with its next byte, which are a pair
pub data Unit : Type 0 where
  raw : ℕ → Unit
  pair : ℕ → Unit

-- "An opener lies in the piece it ends, if there is one": a frame's opener stands here, in its own bytes, or before, at the end of a tail
pub data Opening : Type 0 where
  here before : Opening

-- "A frame ends in one of six ways", or is the last and unfinished, perhaps after a 7e: "A lone last 7e waits."
-- (Closed is three of the six: the verdict on its body tells runt, checksum and sound apart.)
pub data Ending : Type 0 where
  closed : Ending
  broken_by : ℕ → Ending
  giant_by : ℕ → Ending
  escaped_by : ℕ → Ending
  unfinished unfinished-7e : Ending

-- the tail after a giant starts with a whole unit; after an escaped overlong it is one "whose first byte is read as the second half of a pair"
pub data Start : Type 0 where
  whole half : Start

-- "In the tail everything is skipped up to 7e 08 .. or 7e 07", or it is the last and unfinished
pub data TailEnd : Type 0 where
  at-closer at-opener runs-out runs-out-7e : TailEnd

-- "outside byte, outside pair, frame with its units and ending, one tail after each overlong frame (perhaps empty), the last unfinished if need be":
-- an outside byte says whether it is one noise; an outside pair cut off after its 7e is the piece `outside_7e`
pub data Piece : Type 0 where
  outside_byte : Bool → ℕ → Piece
  outside_pair : ℕ → Piece
  outside_7e : Piece
  frame : Opening → List Unit → Ending → Piece
  tail : Start → List Unit → TailEnd → Piece

-- THEIR BYTES

-- the bytes of units: a raw one is its byte, and "7e with its next byte is a pair"
unfoldable pub unit_bytes : List Unit → List ℕ
unit_bytes [] = []
unit_bytes (raw b ∷ us) = b ∷ unit_bytes us
unit_bytes (pair b ∷ us) = 0x7e ∷ b ∷ unit_bytes us

-- "7e 07 opens a frame"; where a tail ends with the opener, it is among the tail's bytes
abbrev pub opener_bytes : Opening → List ℕ
opener_bytes here = 0x7e ∷ 0x07 ∷ []
opener_bytes before = []

-- "closed by 7e 08 .. broken by any other pair .. a 257th unit that is a raw byte .. a 257th unit that is an escape"; an unfinished frame ends
-- with no byte of its own, or with "A lone last 7e"
abbrev pub ending_bytes : Ending → List ℕ
ending_bytes closed = 0x7e ∷ 0x08 ∷ []
ending_bytes (broken_by b) = 0x7e ∷ b ∷ []
ending_bytes (giant_by b) = b ∷ []
ending_bytes (escaped_by b) = 0x7e ∷ b ∷ []
ending_bytes unfinished = []
ending_bytes unfinished-7e = 0x7e ∷ []

-- "up to 7e 08 (then Idle) or 7e 07"; an unfinished tail ends with no byte of its own, or with "A lone last 7e"
abbrev pub tail_end_bytes : TailEnd → List ℕ
tail_end_bytes at-closer = 0x7e ∷ 0x08 ∷ []
tail_end_bytes at-opener = 0x7e ∷ 0x07 ∷ []
tail_end_bytes runs-out = []
tail_end_bytes runs-out-7e = 0x7e ∷ []

-- a tail that starts with the second half of a pair is written without that pair's 7e
abbrev pub tail_bytes : Start → List ℕ → List ℕ
tail_bytes whole bs = bs
tail_bytes half bs = drop 1 bs

-- the bytes of "outside byte, outside pair, frame with its units and ending, one tail after each overlong frame"
abbrev pub piece_bytes : Piece → List ℕ
piece_bytes (outside_byte noise b) = b ∷ []
piece_bytes (outside_pair b) = 0x7e ∷ b ∷ []
piece_bytes outside_7e = 0x7e ∷ []
piece_bytes (frame o us e) = opener_bytes o ++ (unit_bytes us ++ ending_bytes e)
piece_bytes (tail s us e) = tail_bytes s (unit_bytes us ++ tail_end_bytes e)

-- "pieces that joined make up the bytes": the bytes of one after those of another
unfoldable pub join : List Piece → List ℕ
join [] = []
join (p ∷ ps) = piece_bytes p ++ join ps

-- THEIR RULES

-- whether a byte is 7e
abbrev pub is7e : ℕ → Bool
is7e b = eqb b 0x7e

-- "00 and ff lead to Idle. Another byte leads to Noise .."
abbrev pub leads_to : ℕ → Line
leads_to b = cond (eqb b 0x00) idle (cond (eqb b 0xff) idle noisy)

-- ".. one noise if it came in Idle": from the line it came in and the line it leads to
abbrev pub is_noise : Line → Line → Bool
is_noise idle noisy = true
is_noise idle idle = false
is_noise noisy noisy = false
is_noise noisy idle = false

-- "7e 07 opens a frame. Any other pair is one noise and leads to Noise."
abbrev pub opens : Meaning → Bool
opens opener = true
opens datum = false
opens closer = false
opens neither = false

-- "a data unit is a byte other than 7e (a raw 24 counts) or 7e 00 to 7e 06"
abbrev pub DataUnit : Unit → Type 0
DataUnit (raw b) = is7e b ≡ false
DataUnit (pair b) = meaning b ≡ datum

-- "broken by any other pair, 7e 07 too": any but data and 7e 08
abbrev pub breaks : Meaning → Bool
breaks opener = true
breaks neither = true
breaks datum = false
breaks closer = false

-- "In the tail everything is skipped up to 7e 08 .. or 7e 07 .. Pairs are taken two bytes at a time there too."
abbrev pub skips : Meaning → Bool
skips datum = true
skips neither = true
skips opener = false
skips closer = false

-- "In the tail everything is skipped": a byte other than 7e, and a pair that does not end the tail
abbrev pub Skipped : Unit → Type 0
Skipped (raw b) = is7e b ≡ false
Skipped (pair b) = skips (meaning b) ≡ true

-- each element of a list is such
pub data All {A : Type 0} (P : A → Type 0) : List A → Type 0 where
  none : All P []
  also : {x : A} {xs : List A} → P x → All P xs → All P (x ∷ xs)

-- "Then the tail, whose first byte is read as the second half of a pair": with the missing 7e put back, the tail starts with a pair
abbrev pub starts_with_pair : List Unit → TailEnd → Bool
starts_with_pair (pair b ∷ us) e = true
starts_with_pair (raw b ∷ us) e = false
starts_with_pair [] at-closer = true
starts_with_pair [] at-opener = true
starts_with_pair [] runs-out-7e = true
starts_with_pair [] runs-out = false

-- a tail starts with a whole unit or with the second half of a pair, as the frame before it says
abbrev pub starts_so : Start → List Unit → TailEnd → Bool
starts_so whole us e = true
starts_so half us e = starts_with_pair us e

-- WHAT FOLLOWS WHAT

-- what a piece leaves to follow it: pieces outside, the frame that a tail's end has opened, the tail of an overlong frame, or, after an unfinished piece, nothing
pub data Next : Type 0 where
  outside : Line → Next
  opened : Next
  overlong : Start → Next
  nothing : Next

-- "up to 7e 08 (then Idle) or 7e 07, which opens the next frame"
abbrev pub after_tail : TailEnd → Next
after_tail at-closer = outside idle
after_tail at-opener = opened
after_tail runs-out = nothing
after_tail runs-out-7e = nothing

module _ (rules : Rules) where
  -- a frame of n data units may end so, and that follows
  pub data Ends : ℕ → Ending → Next → Type 0 where
    -- "closed by 7e 08 with at most 256 data units .. Then Idle."
    by_closer : {n : ℕ} → n ≤ rules.limit → Ends n closed (outside idle)
    -- "broken by any other pair, 7e 07 too: one noise, then Noise. That 7e 07 opens nothing."
    by_break : {n b : ℕ} → n ≤ rules.limit → breaks (meaning b) ≡ true → Ends n (broken_by b) (outside noisy)
    -- "giant: a 257th unit that is a raw byte. Then the overlong tail."
    by_raw : {n b : ℕ} → n ≡ rules.limit → DataUnit (raw b) → Ends n (giant_by b) (overlong whole)
    -- "escaped overlong: a 257th unit that is an escape. Then the tail, whose first byte is read as the second half of a pair."
    by_escape : {n b : ℕ} → n ≡ rules.limit → DataUnit (pair b) → Ends n (escaped_by b) (overlong half)
    -- "the last unfinished if need be"; "A lone last 7e waits."
    by_end : {n : ℕ} → n ≤ rules.limit → Ends n unfinished nothing
    by_end_7e : {n : ℕ} → n ≤ rules.limit → Ends n unfinished-7e nothing

  -- the pieces that may follow
  pub data Follows : Next → List Piece → Type 0 where
    -- the bytes may end outside, and do after an unfinished piece
    may_end : {l : Line} → Follows (outside l) []
    must_end : Follows nothing []
    -- "00 and ff lead to Idle. Another byte leads to Noise, one noise if it came in Idle."
    byte : {l : Line} {noise : Bool} {b : ℕ} {ps : List Piece}
        → is7e b ≡ false → is_noise l (leads_to b) ≡ noise → Follows (outside (leads_to b)) ps → Follows (outside l) (outside_byte noise b ∷ ps)
    -- "7e with its next byte is a pair. 7e 07 opens a frame. Any other pair is one noise and leads to Noise." "A lone last 7e waits."
    any_other_pair : {l : Line} {b : ℕ} {ps : List Piece}
        → opens (meaning b) ≡ false → Follows (outside noisy) ps → Follows (outside l) (outside_pair b ∷ ps)
    lone_7e : {l : Line} → Follows (outside l) (outside_7e ∷ [])
    -- a frame with its opener; a frame whose opener ended a tail
    opens_here : {l : Line} {us : List Unit} {e : Ending} {next : Next} {ps : List Piece}
        → All DataUnit us → Ends (length us) e next → Follows next ps → Follows (outside l) (frame here us e ∷ ps)
    opened_before : {us : List Unit} {e : Ending} {next : Next} {ps : List Piece}
        → All DataUnit us → Ends (length us) e next → Follows next ps → Follows opened (frame before us e ∷ ps)
    -- "one tail after each overlong frame (perhaps empty)"
    one_tail : {s : Start} {us : List Unit} {e : TailEnd} {ps : List Piece}
        → starts_so s us e ≡ true → All Skipped us → Follows (after_tail e) ps → Follows (overlong s) (tail s us e ∷ ps)

  -- "a reading is a list of pieces that joined make up the bytes", "judged by the rules above"; "a fresh receiver is Idle"
  pub record Reading (bs : List ℕ) (ps : List Piece) : Type 0 where
    pub joined : join ps ≡ bs
    pub judged : Follows (outside idle) ps

  -- "Exactly one way" means that one such list exists and no second
  pub record TheReading (bs : List ℕ) (ps : List Piece) : Type 0 where
    pub is : Reading bs ps
    pub only : (qs : List Piece) → Reading bs qs → qs ≡ ps
