-- Ledgers: the nine numbers of the one reading of some bytes, and the contracts of the functions that give them. Over any check. Assumes nothing.
use Rattle.std.specs.Prelude.{◌≡◌, ℕ, ◌+◌, ◌<◌, ◌^◌, cond, List, [], ◌∷◌, ◌++◌, length, Result, Ok, Err}
use Rattle.reading.specs.Grammar.{Rules, Piece, TheReading}
use Rattle.reading.specs.Counts.{ledger_of}
use Rattle.laws.specs.Handed.{Handed, value, is_refusal}
use Rattle.laws.specs.Numbers.{Refusal, number_of, refused_as, over_limit}
use Rattle.link_receive.specs.declared.Receiver.{Receiver}
use Rattle.link_receive.specs.declared.Stepped.{Stepped}
use Rattle.link_receive.specs.Step.{rules_of, too_long, open_of}
use Rattle.link_feed.specs.Drain.{extend_of}
use Rattle.books.specs.declared.Ledger.{Ledger}
use Rattle.link_receive.specs.declared.OverLimit.{OverLimit}
use Rattle.books.specs.Stands.{Since, After}

-- 01, "Marked cases": openings, frames, runts, checksums, giants, escaped, broken, noise, open
abbrev pub numbers_of : Ledger → List ℕ
numbers_of l =
    l.openings ∷ l.frames ∷ l.runts ∷ l.checksums ∷ l.giants ∷ l.escaped ∷ l.broken ∷ l.noise ∷ l.unfinished ∷ []

-- what a receiver tells of itself
abbrev pub ledger_at : Receiver → Ledger
ledger_at r =
    record {
      openings = r.tallies.openings;
      frames = r.tallies.frames;
      runts = r.tallies.runts;
      checksums = r.tallies.checksums;
      giants = r.tallies.giants;
      escaped = r.tallies.escaped;
      broken = r.tallies.broken;
      noise = r.tallies.noise;
      unfinished = open_of r.state;
    }

-- 01, "Numbers handed back", 12: state with a length over its limit
abbrev pub handed : Result Ledger OverLimit → Handed (List ℕ)
handed (Ok l) = value (numbers_of l)
handed (Err e) = refused_as over_limit

-- the error, if it has the number of a refusal, in the place of a ledger
abbrev pub refused_by : Refusal → Ledger → Result Ledger OverLimit
refused_by r l = cond (is_refusal (number_of r) (handed (Err (record {})))) (Err (record {})) (Ok l)

-- what a receiver is told as: 12 if its length is over the limit, else its ledger
unfoldable pub told_of : Receiver → Result Ledger OverLimit
told_of r = cond (too_long r) (refused_by over_limit (ledger_at r)) (Ok (ledger_at r))

module _ (check : List ℕ → ℕ) where
  -- the ledger of some bytes by some rules: there is exactly one reading of them, each number is its count of pieces, and openings balance endings
  pub record Ledgered (rules : Rules) (bs : List ℕ) (l : Ledger) : Type 0 where
    pub pieces : List Piece
    pub reading : TheReading rules bs pieces
    pub counted : numbers_of l ≡ ledger_of check pieces
    pub balanced : l.openings ≡ l.frames + l.runts + l.checksums + l.giants + l.escaped + l.broken + l.unfinished

  -- told of a receiver that bytes lead to, fewer than 2^64: their ledger by its rules
  pub record ToldAs (r : Receiver) (x : Result Ledger OverLimit) : Type 0 where
    pub exactly : x ≡ told_of r
    pub ledgered : (h : List ℕ) → After check h r → length h < 2 ^ 64 → Ledgered (rules_of r) h (ledger_at r)

  -- a block taken in: the receiver is what the bytes before it and the block lead to
  pub record Absorbed (r : Receiver) (s : List ℕ) (x : Stepped) : Type 0 where
    pub exactly : x ≡ extend_of check r s
    pub since : (g h : List ℕ) → Since check g h r → Since check g (h ++ s) x.next
