-- What leads to a fresh receiver and to one whose tallies were reset. Over any check. Assumes nothing.
use mathlib.Core.Path.{◌≡◌, refl, ◌∙◌}
use Prim.Native.Nat.{ℕ}
use mathlib.Core.List.{List, [], ◌∷◌, ◌++◌, append-nil}
use native.Mathlib.Omega.{arith}
use lib.ListN.{length-replicate}
use borrow.Author.Tests.{le-ltb}
use Rattle.reading.specs.Counters.{Counter}
use Rattle.reading.specs.Counters as k
use Rattle.reading.specs.Counts.{left_from, sound_bodies, sound_frames}
use Rattle.reading.proofs.Reader.{pieces, pieces_of}
use Rattle.reading.proofs.Once.{the-reading}
use Rattle.link_receive.specs.declared.Receiver.{Receiver}
use Rattle.link_receive.specs.Tally.{tally_of, zeros}
use Rattle.std.specs.Prelude.{Err}
use Rattle.link_receive.specs.Step.{room, rules_of, fresh_of, reset_of, step_of}
use Rattle.link_receive.proofs.Rules.{rules_of-made}
use Rattle.link_feed.specs.Feed.{feed_of}
use Rattle.link_feed.specs.Drain.{drain_of}
use Rattle.link_feed.proofs.Drains.{feed_of-goes}
use Rattle.books.specs.Stands.{Since, After}
use Rattle.books.proofs.Run.{since-more}

tally_of-zeros : (j : Counter) → tally_of j zeros ≡ 0
tally_of-zeros k.openings = refl
tally_of-zeros k.frames = refl
tally_of-zeros k.runts = refl
tally_of-zeros k.checksums = refl
tally_of-zeros k.giants = refl
tally_of-zeros k.escaped = refl
tally_of-zeros k.broken = refl
tally_of-zeros k.noise = refl

module _ (check : List ℕ → ℕ) where
  -- no bytes lead to a fresh receiver
  pub fresh-after : After check [] fresh_of
  unfolding pieces left_from
  fresh-after =
      record {
        before = pieces_of (rules_of fresh_of) [];
        pieces = pieces_of (rules_of fresh_of) [];
        reading_before = the-reading (rules_of fresh_of) [];
        reading = the-reading (rules_of fresh_of) [];
        within = omega arith;
        sized = length-replicate {A = ℕ} room 0;
        stands = refl;
        tallied = λ j. tally_of-zeros j ∙ omega arith;
      }

  pub fresh-frames : sound_frames check fresh-after.pieces ≡ []
  unfolding pieces sound_bodies fresh-after
  fresh-frames = refl

  -- a reset leaves the receiver where it stands, with its tallies at 0 from there on
  pub reset-since : (g h : List ℕ) (r : Receiver) → Since check g h r → Since check (g ++ h) [] (reset_of r).next
  unfolding reset_of
  reset-since g h r a =
      let same = rules_of-made r r.state r.body r.len zeros in
      rw (le-ltb (rules_of r).limit r.len a.within)
      (record {
        before = a.pieces;
        pieces = a.pieces;
        reading_before = rw same a.reading;
        reading = rw (same, append-nil) a.reading;
        within = rw same a.within;
        sized = a.sized;
        stands = a.stands;
        tallied = λ j. tally_of-zeros j ∙ omega arith;
      })

  -- `push_u8`: one byte more leads to the receiver that it hands back. (`absorb` and `give` say so by contract, `reset-since` of a reset)
  pub step-since : (g h : List ℕ) (r : Receiver) (b : ℕ) → Since check g h r → Since check g (h ++ (b ∷ [])) (step_of check r b).next
  unfolding drain_of
  step-since g h r b a = since-more check g h r a (b ∷ [])

  -- a receiver that bytes lead to is never refused by 12: no program meets it
  pub since-answered : (g h : List ℕ) (r : Receiver) → Since check g h r → (s : List ℕ) → (feed_of check r s).answer ≡ Err (record {}) → ⊥
  since-answered g h r a s e = (feed_of-goes check r s a.within).answers e
