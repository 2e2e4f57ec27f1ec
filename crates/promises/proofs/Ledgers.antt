-- Some bytes have one ledger, by whatever rules. Assumes nothing.
use mathlib.Core.Path.{◌≡◌, sym, ap, ◌∙◌}
use Prim.Native.Nat.{ℕ}
use mathlib.Core.List.{List}
use lib.ListN.{get_or}
use Rattle.reading.specs.Grammar.{Rules}
use Rattle.reading.specs.Counts.{ledger_of}
use Rattle.books.specs.declared.Ledger.{Ledger}
use Rattle.books.specs.Ledgers.{Ledgered}

-- the ledger of nine numbers
abbrev of_numbers : List ℕ → Ledger
of_numbers ns =
    record {
      openings = get_or ns 0 0;
      frames = get_or ns 1 0;
      runts = get_or ns 2 0;
      checksums = get_or ns 3 0;
      giants = get_or ns 4 0;
      escaped = get_or ns 5 0;
      broken = get_or ns 6 0;
      noise = get_or ns 7 0;
      unfinished = get_or ns 8 0;
    }

pub ledgered-once : (check : List ℕ → ℕ) (rules : Rules) (bs : List ℕ) (l m : Ledger) → Ledgered check rules bs l → Ledgered check rules bs m → l ≡ m
ledgered-once check rules bs l m p q =
    ap of_numbers (p.counted ∙ ap (ledger_of check) (q.reading.only p.pieces p.reading.is) ∙ sym q.counted)
