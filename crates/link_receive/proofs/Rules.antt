-- The rules that a receiver reads by: whatever is changed of it, by a byte or by a reset, they stay. Over any check. Assumes nothing.
use Rattle.std.proofs.Common.{◌≡◌, ℕ, ◌+◌, ◌≤◌, Bool, true, false, cond, Result, Ok, Err, List, take, set, refl, ◌∙◌, arith}
use Rattle.link.specs.Wire.{payload_limit}
use Rattle.reading.specs.Counters as k
use Rattle.reading.specs.Grammar.{present}
use Rattle.link_receive.specs.declared.State.{State}
use Rattle.link_receive.specs.declared.State.TheVariants.{Idle, Noise, Frame}
use Rattle.link_receive.specs.declared.Tallies.{Tallies}
use Rattle.link_receive.specs.declared.Move.{Move}
use Rattle.link_receive.specs.declared.Move.TheVariants.{To, Push, Count, Break, Close}
use Rattle.link_receive.specs.declared.Tally.{Tally}
use Rattle.link_receive.specs.declared.Head.{Head}
use Rattle.link_receive.specs.declared.Receiver.{Receiver}
use Rattle.link_receive.specs.declared.Stepped.{Stepped}
use Rattle.link_receive.specs.Tally.{counter_of, raise, zeros}
use Rattle.link_receive.specs.Numbered.{tallies_at, receiver_at}
use Rattle.link_receive.specs.Step.{room, fresh_of, made_of, rules_of, too_long, turn_of, parsed_of, counted_of, closed_of, moved_of, refused_of, step_of, reset_of}

-- a fresh receiver reads by 01's rules
pub rules_of-fresh : rules_of fresh_of ≡ present
unfolding rules_of
rules_of-fresh = refl

-- and with other parts a receiver keeps its rules: all that follows leans on this
pub rules_of-made : (r : Receiver) (state : State) (body : List ℕ) (len : ℕ) (t : Tallies) → rules_of (made_of r state body len t) ≡ rules_of r
unfolding rules_of
rules_of-made r state body len t = refl

-- the limit is the array's whole room: a copy up to the array's end cites this, and nothing else does
pub limit-full : (rules_of fresh_of).limit ≡ room
unfolding rules_of
limit-full = refl

-- a frame within the limit has room in the array
pub limit-room : (r : Receiver) → (rules_of r).limit ≤ room
unfolding rules_of
limit-room r = omega arith

-- and what `encode` takes is within the limit: the read-back cites this
pub payload-fits : (r : Receiver) → payload_limit + 6 ≤ (rules_of r).limit
unfolding rules_of
payload-fits r = omega arith

-- a receiver that numbers say reads by 01's rules
pub rules_of-at : (numbers body : List ℕ) → rules_of (receiver_at numbers body) ≡ present
rules_of-at numbers body = rules_of-made fresh_of _ body _ (tallies_at numbers) ∙ rules_of-fresh

-- 12 keeps all, and so the rules, if the other way does
kept : (r : Receiver) (over : Bool) (x : Stepped) → rules_of x.next ≡ rules_of r → rules_of (cond over (refused_of r) x).next ≡ rules_of r
kept r true x e = refl
kept r false x e = e

-- a reset keeps the rules
pub rules_of-reset : (r : Receiver) → rules_of (reset_of r).next ≡ rules_of r
unfolding reset_of
rules_of-reset r = kept r (too_long r) _ (rules_of-made r r.state r.body r.len zeros)

module _ (check : List ℕ → ℕ) (r : Receiver) where
  rules_of-closed : (p : Result Head Tally) → rules_of (closed_of r p).next ≡ rules_of r
  rules_of-closed (Ok h) = rules_of-made r Idle r.body 0 (raise k.frames r.tallies)
  rules_of-closed (Err x) = rules_of-made r Idle r.body 0 (raise (counter_of x) r.tallies)

  rules_of-moved : (m : Move) → rules_of (moved_of check r m).next ≡ rules_of r
  rules_of-moved (To s) = rules_of-made r s r.body r.len r.tallies
  rules_of-moved (Push b) = rules_of-made r Frame (set r.body r.len b) (r.len + 1) r.tallies
  rules_of-moved (Count x s) = rules_of-made r s r.body 0 (raise (counter_of x) r.tallies)
  rules_of-moved Break =
      let q = counted_of r k.broken Noise in
      rules_of-made q Noise q.body 0 (raise k.noise q.tallies) ∙ rules_of-made r Noise r.body 0 (raise k.broken r.tallies)
  rules_of-moved Close = rules_of-closed (parsed_of check (take r.len r.body))

  -- and so does a byte
  pub rules_of-step : (b : ℕ) → rules_of (step_of check r b).next ≡ rules_of r
  unfolding step_of
  rules_of-step b = kept r (too_long r) _ (rules_of-moved (turn_of (rules_of r) r.state r.len b))
