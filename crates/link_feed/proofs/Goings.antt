-- A slice gone through, up to its first frame or through all of them: going on from behind some bytes ends as from here; over any check. Assumes nothing.
use Rattle.std.proofs.Common.{◌≡◌, ℕ, ◌≤◌, Bool, true, false, ◌&&◌, Option, Some, None, Ok, List, length, drop, sym, refl, ap, ◌∙◌, arith, drop_of_length-le}
use Rattle.laws.proofs.Cases.{never}
use Rattle.link_receive.specs.declared.State.{State}
use Rattle.link_receive.specs.declared.Tallies.{Tallies}
use Rattle.link_receive.specs.declared.Head.{Head}
use Rattle.link_receive.specs.declared.Receiver.{Receiver}
use Rattle.link_feed.specs.declared.Course.{Course}
use Rattle.link_feed.specs.declared.Fed.{Fed}
use Rattle.link_receive.specs.Step.{made_of, Within}
use Rattle.link_receive.proofs.Rules.{rules_of-made}
use Rattle.link_feed.specs.Feed.{stopped, feed_from}
use Rattle.link_feed.specs.Drain.{drain_of}
use Rattle.std.specs.Option.{is_some}
use Rattle.link_feed.specs.Advance.{went_of, Led, Onward}
use Rattle.link_feed.proofs.Feeds.{feed_from-end}
use Rattle.link_feed.proofs.Drains.{drain_of-from}

-- a feeding stops that is to stop at a frame: the test of `advance`
abbrev pub stops_at : Option Head → Bool → Bool
stops_at a stop = stop && is_some a

module _ (check : List ℕ → ℕ) (s : List ℕ) where
  module _ (r : Receiver) (i : ℕ) (h : Within r) (q : Receiver) (j : ℕ) where
    -- where feeding goes on as from here, the run does
    drain_of-alike : Within q → feed_from check q (drop j s) j ≡ feed_from check r (drop i s) i → drain_of check q (drop j s) ≡ drain_of check r (drop i s)
    drain_of-alike l e =
        let f = feed_from check r (drop i s) i in
        drain_of-from check s q j f l (sym e) ∙ sym (drain_of-from check s r i f h refl)

    went_of-alike : (stop : Bool) → Within q → feed_from check q (drop j s) j ≡ feed_from check r (drop i s) i → went_of check stop q s j ≡ went_of check stop r s i
    went_of-alike true l e = e
    went_of-alike false l e = ap (λ (x : Receiver). stopped x (Ok None) (length s)) (drain_of-alike l e)

    -- behind an answer, whatever it is, the run goes on
    drain_of-onward : (a : Option Head) → Onward check s r i q a j → drain_of check q (drop j s) ≡ drain_of check r (drop i s)
    drain_of-onward None o = drain_of-alike o.within o.same
    drain_of-onward (Some x) o = sym (drain_of-from check s r i (stopped q (Ok (Some x)) j) h o.same)

    went_of-onward : (stop : Bool) (a : Option Head) → stops_at a stop ≡ false → Onward check s r i q a j → went_of check stop q s j ≡ went_of check stop r s i
    went_of-onward true None e o = o.same
    went_of-onward true (Some x) e o = never (sym e)
    went_of-onward false a e o = ap (λ (x : Receiver). stopped x (Ok None) (length s)) (drain_of-onward a o)

    -- and a feeding that is to stop there stops
    went_of-stops : (stop : Bool) (a : Option Head) → stops_at a stop ≡ true → Onward check s r i q a j → stopped q (Ok a) j ≡ went_of check stop r s i
    went_of-stops true None e o = never e
    went_of-stops true (Some x) e o = o.same
    went_of-stops false a e o = never e

  -- at the end both have ended
  went_of-end : (stop : Bool) (r : Receiver) (i : ℕ) → i ≡ length s → stopped r (Ok None) i ≡ went_of check stop r s i
  unfolding drain_of
  went_of-end true r i e = feed_from-end check r s i (omega arith)
  went_of-end false r i e =
      let h : length s ≤ i = omega arith in
      rw (drop_of_length-le s h, e)

  -- a slice under way at i, which in the end gives f: the loop of `advance` keeps this
  pub record Going (stop : Bool) (f : Fed) (r : Receiver) (i : ℕ) : Type 0 where
    pub inside : i ≤ length s
    pub within : Within r
    pub same : went_of check stop r s i ≡ f

  module _ (stop : Bool) (f : Fed) where
    pub going-led :
        (r : Receiver) (state : State) (body : List ℕ) (len : ℕ) (t : Tallies) (i : ℕ) (c : Course) (u : Tallies) →
        Going stop f (made_of r state body len t) i → Led check r s state len i t c u →
        Going stop f (made_of r c.state body c.len u) c.at
    going-led r state body len t i c u g a =
        let within : Within (made_of r c.state body c.len u) = rw (rules_of-made r c.state body c.len u) a.within in
        record {
          inside = a.inside;
          within = within;
          same = went_of-alike (made_of r state body len t) i g.within (made_of r c.state body c.len u) c.at stop within (a.same body) ∙ g.same;
        }

    module _ (r : Receiver) (i : ℕ) (g : Going stop f r i) where
      pub going-ends : length s ≤ i → stopped r (Ok None) i ≡ f
      going-ends h = went_of-end stop r i (omega (arith, g.inside)) ∙ g.same

      module _ (q : Receiver) (a : Option Head) (j : ℕ) (o : Onward check s r i q a j) where
        pub going-onward : stops_at a stop ≡ false → Going stop f q j
        going-onward n =
            record {
              inside = o.inside;
              within = o.within;
              same = went_of-onward r i g.within q j stop a n o ∙ g.same;
            }

        pub going-stops : stops_at a stop ≡ true → stopped q (Ok a) j ≡ f
        going-stops n = went_of-stops r i g.within q j stop a n o ∙ g.same
