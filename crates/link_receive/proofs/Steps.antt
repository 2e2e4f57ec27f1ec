-- What a step is, once the test of the length and the turn are known; over any check. Assumes nothing.
use Rattle.std.proofs.Common.{◌≡◌, ℕ, ◌<◌, ◌≤◌, Bool, true, false, cond, ltb, Ok, List, length, take, refl, arith, length-take-le, ltb-false, le-ltb, lt-ltb}
use Rattle.reading.specs.Counts.{Verdict, runt, checksum, sound, verdict}
use Rattle.link_receive.specs.declared.Head.{Head}
use Rattle.link_receive.specs.declared.Move.{Move}
use Rattle.link_receive.specs.declared.State.{State}
use Rattle.link_receive.specs.declared.Tallies.{Tallies}
use Rattle.link_receive.specs.declared.Receiver.{Receiver}
use Rattle.link_receive.proofs.Rules.{rules_of-made}
use Rattle.link_receive.specs.Step.{rules_of, Within, made_of, turn_of, judged_of, parsed_of, moved_of, refused_of, step_of}

module _ (check : List ℕ → ℕ) where
  pub step_of-within : (r : Receiver) (b : ℕ) (m : Move) → Within r → turn_of (rules_of r) r.state r.len b ≡ m → step_of check r b ≡ moved_of check r m
  unfolding step_of
  step_of-within r b m h e = rw (e, le-ltb (rules_of r).limit r.len h)

  pub step_of-over : (r : Receiver) (b : ℕ) → (rules_of r).limit < r.len → step_of check r b ≡ refused_of r
  unfolding step_of
  step_of-over r b h = rw (lt-ltb (rules_of r).limit r.len h)

  -- the same of a receiver with other parts, by the rules that it has from r
  module _ (r : Receiver) (state : State) (body : List ℕ) (len : ℕ) (t : Tallies) where
    pub step_of-made :
        (b : ℕ) (m : Move) → len ≤ (rules_of r).limit → turn_of (rules_of r) state len b ≡ m →
        step_of check (made_of r state body len t) b ≡ moved_of check (made_of r state body len t) m
    step_of-made b m h e =
        let same = rules_of-made r state body len t in
        step_of-within (made_of r state body len t) b m (rw same h) (rw same e)

  judged-sound : (v : Verdict) (s : List ℕ) (h : Head) → judged_of v s ≡ Ok h → v ≡ sound
  judged-sound runt s h e = cc
  judged-sound checksum s h e = cc
  judged-sound sound s h e = refl

  -- what is parsed as sound is so by 01's verdict, and then has at least 6 bytes
  pub parsed_of-sound : (s : List ℕ) (h : Head) → parsed_of check s ≡ Ok h → verdict check s ≡ sound
  unfolding parsed_of
  parsed_of-sound s h e = judged-sound (verdict check s) s h e

  verdict-sound : (s : List ℕ) → verdict check s ≡ sound → 6 ≤ length s
  unfolding verdict
  verdict-sound s = go (ltb (length s) 6) refl _
    where
      go : (x : Bool) → ltb (length s) 6 ≡ x → (v : Verdict) → cond x runt v ≡ sound → 6 ≤ length s
      go true e v f = let z : ◌≡◌ {A = ℕ} 0 1 = cc in omega arith
      go false e v f = ltb-false (length s) 6 e

  -- so a sound frame's units are at least 6
  pub sound-units : (body : List ℕ) (len : ℕ) (h : Head) → len ≤ length body → parsed_of check (take len body) ≡ Ok h → 6 ≤ len
  sound-units body len h l e = omega (arith, verdict-sound (take len body) (parsed_of-sound (take len body) h e), length-take-le len body l)
