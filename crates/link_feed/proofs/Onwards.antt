-- The units of a frame with the pair that closes or breaks it, and one byte: feeding on from behind them ends as feeding from here; over any check. Assumes nothing.
use Rattle.std.proofs.Common.{◌≡◌, ℕ, ◌+◌, ◌<◌, ◌≤◌, Bool, true, false, cond, eqb, Option, None, Result, Ok, Err, List, length, get_or, take, drop, sym, refl, ap, ◌∙◌, arith, le-ltb, ne_eqb}
use Rattle.laws.proofs.Cases.{never}
use Rattle.escaping.specs.Escapes.{opener, neither, meaning}
use Rattle.reading.specs.Counters as k
use Rattle.reading.specs.Grammar.{Rules}
use Rattle.link_receive.specs.declared.State.TheVariants.{Noise, Frame, FrameEscape, Giant}
use Rattle.link_receive.specs.declared.Tallies.{Tallies}
use Rattle.link_receive.specs.declared.Move.{Move}
use Rattle.link_receive.specs.declared.Move.TheVariants.{To, Push, Count, Break, Close}
use Rattle.link_receive.specs.declared.Tally.{Tally}
use Rattle.link_receive.specs.declared.Head.{Head}
use Rattle.link_receive.specs.declared.Receiver.{Receiver}
use Rattle.link_receive.specs.declared.Stepped.{Stepped}
use Rattle.link_receive.specs.Tally.{raise}
use Rattle.link_receive.specs.Step.{made_of, rules_of, Within, escape_of, turn_of, parsed_of, moved_of, closed_of, step_of}
use Rattle.link_receive.specs.Frames.{Answered}
use Rattle.link_feed.specs.declared.Fed.{Fed}
use Rattle.link_feed.specs.Feed.{stopped, feed_from}
use Rattle.link_feed.specs.declared.Units.{Units}
use Rattle.link_feed.specs.Advance.{is_outside, Stands, Ahead, Skipped, fed_by, Stretched, Onward}
use Rattle.link_receive.proofs.Rules.{rules_of-made}
use Rattle.link_receive.proofs.Steps.{step_of-within, step_of-made}
use Rattle.link_feed.proofs.Feeds.{feed_from-more, feed_from-frame}

-- the two halves of a pair that ends a frame
turn_of-escape : (rules : Rules) (len b : ℕ) → b ≡ 0x7e → turn_of rules Frame len b ≡ To FrameEscape
unfolding turn_of
turn_of-escape rules len b e = rw e

turn_of-closer : (rules : Rules) (len b : ℕ) → b ≡ 0x08 → turn_of rules FrameEscape len b ≡ Close
unfolding turn_of meaning
turn_of-closer rules len b e = rw e

turn_of-breaker : (rules : Rules) (len b : ℕ) → 7 ≤ b → (b ≡ 0x08 → ⊥) → turn_of rules FrameEscape len b ≡ Break
unfolding turn_of meaning
turn_of-breaker rules len b h n = rw (le-ltb b 7 h, ne_eqb b 8 n) (go (eqb b 7))
  where
    go : (x : Bool) → escape_of rules (cond x opener neither) len b ≡ Break
    go true = refl
    go false = refl

two : (i : ℕ) → i + 2 ≡ i + 1 + 1
two i = omega arith

module _ (check : List ℕ → ℕ) (s : List ℕ) where
  -- the same as `fed_by`, of a step's answer
  abbrev answered_by : List ℕ → Answered → Receiver → ℕ → Fed
  answered_by s (Ok a) q j = fed_by check s a q j
  answered_by s (Err e) q j = stopped q (Err e) j

  -- after what a byte asks for
  fed-moved :
      (r : Receiver) (m : Move) (i : ℕ) → i < length s → Within r → turn_of (rules_of r) r.state r.len (get_or s i 0) ≡ m →
      answered_by s (moved_of check r m).answer (moved_of check r m).next (i + 1) ≡ feed_from check r (drop i s) i
  fed-moved r (To x) i h g e = feed_from-more check r _ s i h (step_of-within check r (get_or s i 0) (To x) g e)
  fed-moved r (Push b) i h g e = feed_from-more check r _ s i h (step_of-within check r (get_or s i 0) (Push b) g e)
  fed-moved r (Count t x) i h g e = feed_from-more check r _ s i h (step_of-within check r (get_or s i 0) (Count t x) g e)
  fed-moved r Break i h g e = feed_from-more check r _ s i h (step_of-within check r (get_or s i 0) Break g e)
  fed-moved r Close i h g e = go (parsed_of check (take r.len r.body)) (step_of-within check r (get_or s i 0) Close g e)
    where
      go : (p : Result Head Tally) → step_of check r (get_or s i 0) ≡ closed_of r p → answered_by s (closed_of r p).answer (closed_of r p).next (i + 1) ≡ feed_from check r (drop i s) i
      go (Ok x) f = feed_from-frame check r _ s i x h f
      go (Err x) f = feed_from-more check r _ s i h f

  -- one byte
  pub onward-one :
      (r q : Receiver) (a : Option Head) (i : ℕ) → i < length s → Within r → Within q →
      ◌≡◌ {A = Stepped} (record { next = q; answer = Ok a }) (step_of check r (get_or s i 0)) → Onward check s r i q a (i + 1)
  onward-one r q a i h g l e =
      let b = get_or s i 0 in
      let m = turn_of (rules_of r) r.state r.len b in
      let f : ◌≡◌ {A = Stepped} (record { next = q; answer = Ok a }) (moved_of check r m) = e ∙ step_of-within check r b m g refl in
      record {
        inside = omega arith;
        least = omega arith;
        further = λ x. omega arith;
        within = l;
        same = ap (λ (x : Stepped). answered_by s x.answer x.next (i + 1)) f ∙ fed-moved r m i h g refl;
      }

  -- the pair that ends a frame with its units before it: what the second byte asks for, and what that makes of the receiver
  module _ (o : Receiver) (body : List ℕ) (len : ℕ) (t : Tallies) (i : ℕ) (next : List ℕ) (p : Units) (a : Ahead check o s body len i next p) where
    ended :
        (m : Move) (q : Receiver) (x : Option Head) (c : ℕ) → Stands s p.at c → turn_of (rules_of o) FrameEscape p.len c ≡ m → Within q →
        ◌≡◌ {A = Stepped} (record { next = q; answer = Ok x }) (moved_of check (made_of o FrameEscape next p.len t) m) →
        is_outside q.state ≡ true →
        Stretched check s (made_of o Frame body len t) i q x (p.at + 2)
    ended m q x c e u l f w =
        let r = made_of o Frame next p.len t in
        let y = made_of o FrameEscape next p.len t in
        let same-rules = rules_of-made o FrameEscape next p.len t in
        let turn : turn_of (rules_of y) FrameEscape p.len (get_or s (p.at + 1) 0) ≡ m = rw (same-rules, e.second) u in
        record {
          inside = e.whole;
          further = omega (arith, a.further);
          within = l;
          same =
              ap (λ (n : ℕ). fed_by check s x q n) (two p.at)
              ∙ ap (λ (z : Stepped). answered_by s z.answer z.next (p.at + 1 + 1)) f
              ∙ fed-moved y m (p.at + 1) (omega (arith, e.whole)) (rw same-rules a.within) turn
              ∙ feed_from-more check r y s p.at (omega (arith, e.whole)) (step_of-made check o Frame next p.len t (get_or s p.at 0) _ a.within (turn_of-escape (rules_of o) p.len (get_or s p.at 0) e.first))
              ∙ a.same t;
          leaves = λ z n. omega (arith, a.further);
          quiet = λ z. never (sym z ∙ w);
        }

    -- 7e 08 closes it
    pub stretched-closer :
        (q : Receiver) (x : Option Head) (c : ℕ) → Stands s p.at c → c ≡ 0x08 → Within q →
        ◌≡◌ {A = Stepped} (record { next = q; answer = Ok x }) (closed_of (made_of o FrameEscape next p.len t) (parsed_of check (take p.len next))) →
        is_outside q.state ≡ true →
        Stretched check s (made_of o Frame body len t) i q x (p.at + 2)
    stretched-closer q x c e f l g w = ended Close q x c e (turn_of-closer (rules_of o) p.len c f) l g w

    -- any other pair that is no unit breaks it
    pub stretched-breaker :
        (u : Tallies) (c : ℕ) → Stands s p.at c → 7 ≤ c → (c ≡ 0x08 → ⊥) → u ≡ raise k.noise (raise k.broken t) →
        Stretched check s (made_of o Frame body len t) i (made_of o Noise next 0 u) None (p.at + 2)
    stretched-breaker u c e h n f = ended Break (made_of o Noise next 0 u) None c e (turn_of-breaker (rules_of o) p.len c h n) (omega arith) (rw f) refl

    -- no such pair: the frame stays open
    pub stretched-open : Stretched check s (made_of o Frame body len t) i (made_of o Frame next p.len t) None p.at
    stretched-open =
        record {
          inside = a.inside;
          further = a.further;
          within = rw (rules_of-made o Frame next p.len t) a.within;
          same = a.same t;
          leaves = λ z n. never z;
          quiet = λ z. refl;
        }

  -- what a tail skips
  pub stretched-tail : (o : Receiver) (body : List ℕ) (len : ℕ) (t : Tallies) (i j : ℕ) → len ≤ (rules_of o).limit → Skipped check o s i j → Stretched check s (made_of o Giant body len t) i (made_of o Giant body len t) None j
  stretched-tail o body len t i j l a =
      record {
        inside = a.inside;
        further = a.further;
        within = rw (rules_of-made o Giant body len t) l;
        same = a.same body len t l;
        leaves = λ z n. never z;
        quiet = λ z. refl;
      }

  -- nothing taken, where there is nothing to take outside a frame
  pub stretched-none : (r : Receiver) (i : ℕ) → i ≤ length s → Within r → (is_outside r.state ≡ true → i ≡ length s) → Stretched check s r i r None i
  stretched-none r i h l e =
      record { inside = h; further = omega arith; within = l; same = refl; leaves = λ z n. absurd (omega (arith, e z)); quiet = λ z. refl }

  module _ (r : Receiver) (i : ℕ) (q : Receiver) (a : Option Head) (j : ℕ) (x : Stretched check s r i q a j) where
    -- outside a frame, or at the slice's end, that is all
    pub onward-outside : is_outside q.state ≡ true → Onward check s r i q a j
    onward-outside e = record { inside = x.inside; least = x.further; further = x.leaves e; within = x.within; same = x.same }

    pub onward-end : j ≡ length s → Onward check s r i q a j
    onward-end e = record { inside = x.inside; least = x.further; further = λ h. omega arith; within = x.within; same = x.same }

    -- elsewhere one byte more
    pub onward-more : (p : Receiver) (b : Option Head) (l : ℕ) → is_outside q.state ≡ false → j < length s → Onward check s q j p b l → Onward check s r i p b l
    onward-more p b l e h y =
        record {
          inside = y.inside;
          least = omega (arith, x.further, y.least);
          further = λ n. omega (arith, x.further, y.further h);
          within = y.within;
          same = y.same ∙ rw (x.quiet e) at x.same;
        }
