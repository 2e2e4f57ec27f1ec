-- The ledger that a receiver tells is that of the bytes that lead to it. Over any check. Assumes nothing.
use mathlib.Core.Path.{◌≡◌, refl, sym, ◌∙◌, ap}
use Prim.Native.Nat.{ℕ, ◌<◌, ◌^◌}
use mathlib.Core.List.{List, []}
use native.Mathlib.Omega.{arith}
use lib.ListN.{length}
use Rattle.reading.specs.Counters.{Counter}
use Rattle.reading.specs.Counters as k
use Rattle.reading.specs.Counts.{left, open_in, count}
use Rattle.reading.proofs.Reader.{pieces, pieces_of}
use Rattle.reading.proofs.Once.{the-reading}
use Rattle.reading.proofs.Books.{balance}
use Rattle.link_receive.specs.declared.State.{State}
use Rattle.link_receive.specs.declared.State.TheVariants.{Idle, Noise, StartOfFrame, Frame, FrameEscape, Giant, GiantEscape}
use Rattle.link_receive.specs.declared.Receiver.{Receiver}
use Rattle.link_receive.specs.Tally.{tally_of}
use Rattle.link_receive.specs.Step.{rules_of, open_of}
use Rattle.books.specs.Stands.{rest_of, After}
use Rattle.books.specs.Ledgers.{ledger_at, Ledgered}
use Rattle.books.proofs.Run.{tallies-exact}

open_of-rest_of : (s : State) (body : List ℕ) → open_of s ≡ open_in (rest_of s body)
open_of-rest_of Idle body = refl
open_of-rest_of Noise body = refl
open_of-rest_of StartOfFrame body = refl
open_of-rest_of Frame body = refl
open_of-rest_of FrameEscape body = refl
open_of-rest_of Giant body = refl
open_of-rest_of GiantEscape body = refl

module _ (check : List ℕ → ℕ) (h : List ℕ) (r : Receiver) (a : After check h r) (few : length h < 2 ^ 64) where
  none_before : a.before ≡ []
  unfolding pieces
  none_before = a.reading_before.only a.before a.reading_before.is ∙ sym (a.reading_before.only (pieces_of (rules_of r) []) (the-reading (rules_of r) []).is)

  -- each tally is its count
  pub tally-is : (j : Counter) → tally_of j r.tallies ≡ count check j a.pieces
  unfolding count
  tally-is j = tallies-exact check [] h r a few j ∙ rw none_before (omega arith)

  pub open_is : open_of r.state ≡ open_in (left a.pieces)
  open_is = open_of-rest_of r.state _ ∙ ap open_in a.stands

  pub ledger-told : Ledgered check (rules_of r) h (ledger_at r)
  ledger-told =
      record {
        pieces = a.pieces;
        reading = a.reading;
        counted = rw (tally-is k.openings, tally-is k.frames, tally-is k.runts, tally-is k.checksums, tally-is k.giants, tally-is k.escaped, tally-is k.broken, tally-is k.noise, open_is);
        balanced = rw (tally-is k.openings, tally-is k.frames, tally-is k.runts, tally-is k.checksums, tally-is k.giants, tally-is k.escaped, tally-is k.broken, open_is) (balance (rules_of r) check h a.pieces a.reading.is);
      }
