-- A receiver in the grammar's terms: where it stands, and what bytes lead to it. Over any check. Assumes nothing.
use Rattle.std.specs.Prelude.{◌≡◌, ℕ, ◌%◌, ◌^◌, List, [], ◌++◌, length, take}
use Rattle.reading.specs.Counters.{Counter}
use Rattle.reading.specs.Grammar.{idle, noisy, Piece, TheReading}
use Rattle.reading.specs.Counts.{Rest, out, out_7e, inside, inside_7e, over, over-7e, left, count_since}
use Rattle.link_receive.specs.declared.State.{State}
use Rattle.link_receive.specs.declared.State.TheVariants.{Idle, Noise, StartOfFrame, Frame, FrameEscape, Giant, GiantEscape}
use Rattle.link_receive.specs.declared.Receiver.{Receiver}
use Rattle.link_receive.specs.Tally.{tally_of}
use Rattle.link_receive.specs.Step.{room, rules_of, Within}

-- the seven states, as the places where pieces leave off. 01, "The reading of a stream": outside an open frame the body counts as empty
abbrev pub rest_of : State → List ℕ → Rest
rest_of Idle body = out idle
rest_of Noise body = out noisy
rest_of StartOfFrame body = out_7e
rest_of Frame body = inside body
rest_of FrameEscape body = inside_7e body
rest_of Giant body = over
rest_of GiantEscape body = over-7e

-- where a receiver stands: its body is the first `len` bytes
abbrev pub rest_at : Receiver → Rest
rest_at r = rest_of r.state (take r.len r.body)

module _ (check : List ℕ → ℕ) where
  -- r is what the bytes g ++ h lead to from fresh, its tallies set to 0 after g: it stands where the one reading of g ++ h by its rules
  -- leaves off, and each tally is what its count has grown by since g, around 2^64
  pub record Since (g h : List ℕ) (r : Receiver) : Type 0 where
    pub before : List Piece
    pub pieces : List Piece
    pub reading_before : TheReading (rules_of r) g before
    pub reading : TheReading (rules_of r) (g ++ h) pieces
    pub within : Within r
    pub sized : length r.body ≡ room
    pub stands : rest_at r ≡ left pieces
    pub tallied : (k : Counter) → tally_of k r.tallies ≡ count_since check k before pieces % 2 ^ 64

  -- r is what the bytes h lead to from fresh, with no reset on the way
  abbrev pub After : List ℕ → Receiver → Type 0
  After h r = Since [] h r
