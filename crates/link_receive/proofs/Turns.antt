-- What a byte asks for: the laws that the two turns cite. Assumes nothing.
use Rattle.std.proofs.Common.{◌≡◌, ℕ, ◌<◌, ◌≤◌, Bool, true, false, cond, eqb, ltb, sym, refl, ap, ◌∙◌, subst, arith, ltb-true, le-ltb, lt-ltb, ne_eqb}
use Rattle.escaping.specs.Escapes.{Meaning, datum, opener, closer, neither, meaning, unescaped_of}
use Rattle.laws.specs.Handed.{refused, value}
use Rattle.reading.specs.Grammar.{Rules}
use Rattle.escaping.specs.Handed.{handed_byte, unescape_meant, unescape_handed}
use Rattle.escaping.specs.declared.InvalidEscapeSequence.{InvalidEscapeSequence}
use Rattle.std.specs.Prelude.{Result, Ok, Err}
use Rattle.link_receive.specs.declared.State.{State}
use Rattle.link_receive.specs.declared.State.TheVariants.{Idle, Noise, StartOfFrame, Frame, FrameEscape, Giant, GiantEscape}
use Rattle.link_receive.specs.declared.Tally.TheVariants as tally
use Rattle.link_receive.specs.declared.Move.{Move}
use Rattle.link_receive.specs.declared.Move.TheVariants.{To, Push, Count, Break, Close}
use Rattle.link_receive.specs.Step.{pair_of, escape_of, tail_of, turn_of}

-- no pair but 7e 07 opens
pub pair_of-other : (b : ℕ) → (b ≡ 0x07 → ⊥) → Count tally.Noise Noise ≡ pair_of (meaning b)
unfolding meaning
pair_of-other b h = rw (ne_eqb b 7 h) (go (ltb b 7) (eqb b 8))
  where
    go : (x y : Bool) → Count tally.Noise Noise ≡ pair_of (cond x datum (cond y closer neither))
    go true y = refl
    go false true = refl
    go false false = refl

-- in the tail, a pair that neither opens nor closes
pub tail_of-other : (b : ℕ) → (b ≡ 0x07 → ⊥) → (b ≡ 0x08 → ⊥) → To Giant ≡ tail_of (meaning b)
unfolding meaning
tail_of-other b h j = rw (ne_eqb b 7 h, ne_eqb b 8 j) (go (ltb b 7))
  where
    go : (x : Bool) → To Giant ≡ tail_of (cond x datum neither)
    go true = refl
    go false = refl

byte-means : (m : Meaning) (b d : ℕ) → value d ≡ unescape_meant m b → (m ≡ datum) × (d ≡ unescaped_of b)
byte-means datum b d e = (refl, cc)
byte-means opener b d e = ((cc), (cc))
byte-means closer b d e = ((cc), (cc))
byte-means neither b d e = ((cc), (cc))

invalid-means : (rules : Rules) (m : Meaning) (len b : ℕ) → (m ≡ closer → ⊥) → refused 14 ≡ unescape_meant m b → Break ≡ escape_of rules m len b
invalid-means rules datum len b n e = cc
invalid-means rules opener len b n e = refl
invalid-means rules closer len b n e = absurd (n refl)
invalid-means rules neither len b n e = refl

meaning-closer : (b : ℕ) → (b ≡ 0x08 → ⊥) → meaning b ≡ closer → ⊥
unfolding meaning
meaning-closer b h = rw (ne_eqb b 8 h) (go (ltb b 7) (eqb b 7))
  where
    go : (x y : Bool) → cond x datum (cond y opener neither) ≡ closer → ⊥
    go true y e = let z : ◌≡◌ {A = ℕ} 0 1 = cc in omega arith
    go false true e = let z : ◌≡◌ {A = ℕ} 0 1 = cc in omega arith
    go false false e = let z : ◌≡◌ {A = ℕ} 0 1 = cc in omega arith

-- what `unescaped_byte` says of the byte after 7e inside a frame: a unit, or the escaped overlong, or no data
module _ (rules : Rules) (u : Result ℕ InvalidEscapeSequence) (len b : ℕ) (e : handed_byte u ≡ unescape_handed b) where
  means : (d : ℕ) → u ≡ Ok d → (meaning b ≡ datum) × (d ≡ unescaped_of b)
  unfolding unescape_handed
  means d f = byte-means (meaning b) b d (sym (ap handed_byte f) ∙ e)

  pub escape-push : (d : ℕ) → u ≡ Ok d → len < rules.limit → Push d ≡ turn_of rules FrameEscape len b
  unfolding turn_of
  escape-push d f h = rw ((means d f).0, lt-ltb len rules.limit h, (means d f).1)

  pub escape-overlong : (d : ℕ) → u ≡ Ok d → rules.limit ≤ len → Count tally.Escaped GiantEscape ≡ turn_of rules FrameEscape len b
  unfolding turn_of
  escape-overlong d f h = rw ((means d f).0, le-ltb len rules.limit h)

  pub escape-break : {x : InvalidEscapeSequence} → u ≡ Err x → (b ≡ 0x08 → ⊥) → Break ≡ turn_of rules FrameEscape len b
  unfolding turn_of unescape_handed
  escape-break f n = invalid-means rules (meaning b) len b (meaning-closer b n) (sym (ap handed_byte f) ∙ e)

module _ (rules : Rules) where
  -- a unit is asked for only where it fits
  abbrev Fitting : ℕ → Move → Type 0
  Fitting len (To s) = Unit
  Fitting len (Push d) = len < rules.limit
  Fitting len (Count x s) = Unit
  Fitting len Break = Unit
  Fitting len Close = Unit

  cond-fitting : (len : ℕ) (t : Bool) (m n : Move) → Fitting len m → Fitting len n → Fitting len (cond t m n)
  cond-fitting len true m n p q = p
  cond-fitting len false m n p q = q

  unit-fitting : (len d : ℕ) (m : Move) → Fitting len m → Fitting len (cond (ltb len rules.limit) (Push d) m)
  unit-fitting len d m p = go (ltb len rules.limit) refl
    where
      go : (t : Bool) → ltb len rules.limit ≡ t → Fitting len (cond t (Push d) m)
      go true e = ltb-true len rules.limit e
      go false e = p

  turn_of-fitting : (s : State) (len b : ℕ) → Fitting len (turn_of rules s len b)
  unfolding turn_of
  turn_of-fitting Idle len b = cond-fitting len (eqb b 0x7e) _ _ tt (cond-fitting len (eqb b 0x00) _ _ tt (cond-fitting len (eqb b 0xff) _ (Count tally.Noise Noise) tt tt))
  turn_of-fitting Noise len b = cond-fitting len (eqb b 0x7e) _ _ tt (cond-fitting len (eqb b 0x00) _ _ tt (cond-fitting len (eqb b 0xff) _ (To Noise) tt tt))
  turn_of-fitting StartOfFrame len b = go (meaning b)
    where
      go : (m : Meaning) → Fitting len (pair_of m)
      go datum = tt
      go opener = tt
      go closer = tt
      go neither = tt
  turn_of-fitting Frame len b = cond-fitting len (eqb b 0x7e) _ _ tt (unit-fitting len b (Count tally.Giants Giant) tt)
  turn_of-fitting FrameEscape len b = go (meaning b)
    where
      go : (m : Meaning) → Fitting len (escape_of rules m len b)
      go datum = unit-fitting len (unescaped_of b) (Count tally.Escaped GiantEscape) tt
      go opener = tt
      go closer = tt
      go neither = tt
  turn_of-fitting Giant len b = cond-fitting len (eqb b 0x7e) _ (To Giant) tt tt
  turn_of-fitting GiantEscape len b = go (meaning b)
    where
      go : (m : Meaning) → Fitting len (tail_of m)
      go datum = tt
      go opener = tt
      go closer = tt
      go neither = tt

  -- what is pushed has room
  pub turn_of-push : (s : State) (len b d : ℕ) → turn_of rules s len b ≡ Push d → len < rules.limit
  turn_of-push s len b d e = subst (λ (m : Move). Fitting len m) e (turn_of-fitting s len b)
