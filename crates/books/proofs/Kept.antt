-- What the functions of this crate keep: each contract follows from the equation of the function that it is thin over. Over any check.
-- Assumes nothing.
use mathlib.Core.Path.{◌≡◌, sym, ◌∙◌, ap}
use Prim.Native.Nat.{ℕ, ◌<◌, ◌^◌}
use mathlib.Core.List.{List, [], ◌++◌}
use lib.ListN.{length, take}
use borrow.Author.Tests.{le-ltb}
use Rattle.reading.specs.Grammar.{present}
use Rattle.reading.specs.Counts.{sound_frames}
use Rattle.link_receive.specs.declared.Receiver.{Receiver}
use Rattle.link_receive.specs.declared.Stepped.{Stepped}
use Rattle.link_feed.specs.declared.Fed.{Fed}
use Rattle.link_receive.specs.Step.{rules_of, Within, fresh_of}
use Rattle.link_receive.proofs.Rules.{rules_of-fresh}
use Rattle.link_feed.specs.Feed.{feed_of}
use Rattle.link_feed.specs.Drain.{drain_of, frames_of, frames_fed, extend_of}
use Rattle.link_feed.proofs.Drains.{rules_of-drain, rules_of-extend}
use Rattle.books.specs.declared.Ledger.{Ledger}
use Rattle.std.specs.Prelude.{Result}
use Rattle.link_receive.specs.declared.OverLimit.{OverLimit}
use Rattle.books.specs.Stands.{Since}
use Rattle.books.specs.Ledgers.{ledger_at, told_of, Ledgered, ToldAs, Absorbed}
use Rattle.books.specs.Gives.{GaveOn, Gave}
use Rattle.books.proofs.Run.{since-more, frames-more}
use Rattle.books.proofs.Fresh.{fresh-after}
use Rattle.books.proofs.Prefix.{feed_of-drained, feed_of-handed}
use Rattle.books.proofs.Ledgers.{ledger-told}

module _ (check : List ℕ → ℕ) where
  extend-drained : (r : Receiver) (s : List ℕ) → Within r → (extend_of check r s).next ≡ drain_of check r s
  unfolding extend_of
  extend-drained r s h = rw (le-ltb (rules_of r).limit r.len h)

  pub absorbed : (r : Receiver) (s : List ℕ) (x : Stepped) → x ≡ extend_of check r s → Absorbed check r s x
  absorbed r s x e =
      record {
        exactly = e;
        since = λ g h a. rw (e, extend-drained r s a.within) (since-more check g h r a s);
      }

  module _ (r : Receiver) (s : List ℕ) (f : Fed) (e : f ≡ feed_of check r s) (g h : List ℕ) (a : Since check g h r) where
    next-is : f.next ≡ drain_of check r (take f.taken s)
    next-is = rw e (feed_of-drained check r s a.within)

    handed-is : frames_fed f ≡ frames_of check r (take f.taken s)
    handed-is = rw e (feed_of-handed check r s a.within)

    on : GaveOn check g h s r f a
    on =
        let b : Since check g (h ++ take f.taken s) f.next = rw next-is (since-more check g h r a (take f.taken s)) in
        let same : rules_of f.next ≡ rules_of r = rw next-is (rules_of-drain check (take f.taken s) r) in
        record {
          after = b;
          adds = frames-more check g h r a (take f.taken s) b.pieces (rw same at b.reading.is) ∙ ap (λ l. sound_frames check a.pieces ++ l) (sym handed-is);
        }

  pub gave : (r : Receiver) (s : List ℕ) (f : Fed) → f ≡ feed_of check r s → Gave check r s f
  gave r s f e = record { exactly = e; on = on r s f e }

  pub told-as : (r : Receiver) (x : Result Ledger OverLimit) → x ≡ told_of r → ToldAs check r x
  told-as r x e = record { exactly = e; ledgered = λ h a few. ledger-told check h r a few }

  -- a whole slice, from fresh: by 01's rules
  pub whole-ledgered : (s : List ℕ) (x : Stepped) (l : Ledger) → length s < 2 ^ 64 → Absorbed check fresh_of s x → l ≡ ledger_at x.next → Ledgered check present s l
  whole-ledgered s x l few a e =
      let same : rules_of x.next ≡ present = rw a.exactly (rules_of-extend check fresh_of s ∙ rules_of-fresh) in
      rw (e, ← same) (ledger-told check s x.next (a.since [] [] (fresh-after check)) few)
