-- All that the one reading of some bytes says, in one record. A contract about whole slices cites `Tells`. Assumes nothing.
use Rattle.std.specs.Prelude.{◌≡◌, ℕ, List}
use Rattle.link.specs.Wire.{Frame}
use Rattle.reading.specs.Grammar.{Rules, Piece, TheReading}
use Rattle.reading.specs.Counts.{Rest, left, ledger_of, sound_frames}

-- the nine numbers of the ledger, the sound frames in order, and where the bytes leave off
pub record Account : Type 0 where
  pub numbers : List ℕ
  pub frames : List Frame
  pub rest : Rest

module _ (check : List ℕ → ℕ) where
  -- what a list of pieces says: its ledger, its sound frames, and where it leaves off
  abbrev pub account_of : List Piece → Account
  account_of ps = record { numbers = ledger_of check ps; frames = sound_frames check ps; rest = left ps }

  -- the account is that of the one reading of the bytes
  pub record Tells (rules : Rules) (bs : List ℕ) (a : Account) : Type 0 where
    pub pieces : List Piece
    pub reading : TheReading rules bs pieces
    pub says : account_of pieces ≡ a
