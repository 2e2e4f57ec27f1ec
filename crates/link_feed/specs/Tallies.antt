-- 01, "The reading of a stream": the eight tallies can also be lent by a host and updated in place. Over any check. Assumes nothing.
use Rattle.std.specs.Prelude.{◌≡◌, ℕ, List}
use Rattle.link_receive.specs.declared.Receiver.{Receiver}
use Rattle.link_receive.specs.declared.Stepped.{Stepped}
use Rattle.link_receive.specs.declared.Tallies.{Tallies}
use Rattle.link_receive.specs.Step.{made_of, step_of}
use Rattle.link_feed.specs.declared.Fed.{Fed}
use Rattle.link_feed.specs.Feed.{feed_of}

-- a receiver with lent tallies in the place of its own
abbrev pub lent_to : Receiver → Tallies → Receiver
lent_to r t = made_of r r.state r.body r.len t

module _ (check : List ℕ → ℕ) where
  -- one byte with the lent tallies t, which become u: the step of the receiver with t in the place of its own tallies, and u are the tallies
  -- of the receiver handed back
  pub record Pushed (t : Tallies) (r : Receiver) (b : ℕ) (x : Stepped) (u : Tallies) : Type 0 where
    pub exactly : x ≡ step_of check (lent_to r t) b
    pub lent : u ≡ x.next.tallies

  -- a slice in the same way
  pub record FedWith (t : Tallies) (r : Receiver) (s : List ℕ) (x : Fed) (u : Tallies) : Type 0 where
    pub exactly : x ≡ feed_of check (lent_to r t) s
    pub lent : u ≡ x.next.tallies
