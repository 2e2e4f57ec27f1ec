-- A step of the receiver is a step of the grammar's machine: it stands where the machine does, its tallies are raised for the machine's
-- events, and it hands out the frames of the bodies that the machine closes soundly. Over any check. Assumes nothing.
use mathlib.Core.Path.{◌≡◌, refl, ap}
use Prim.Native.Nat.{ℕ, ◌+◌, ◌≤◌}
use mathlib.Core.Bool.{Bool, true, false}
use mathlib.Core.List.{List, [], ◌∷◌, ◌++◌, map}
use native.Mathlib.Omega.{arith}
use native.Mathlib.Numerals.{add-one}
use lib.ListN.{length, take, set, length-take, length-set}
use lib.Seq.{take-suc-set}
use lib.Dec.{eqb, ltb}
use borrow.Author.Tests.{ltb-true, le-ltb}
use Rattle.escaping.specs.Escapes.{Meaning, datum, opener, closer, neither, meaning, unescaped_of}
use Rattle.link.specs.Wire.{frame_of}
use Rattle.reading.specs.Grammar.{Rules}
use Rattle.reading.specs.Counts.{Verdict, runt, checksum, sound, verdict, inside}
use Rattle.reading.proofs.Machine.{Event, closes, Beat, beat}
use Rattle.reading.proofs.Books.{counter_of_event, bodies}
use Rattle.link_receive.specs.declared.State.{State}
use Rattle.link_receive.specs.declared.State.TheVariants.{Idle, Noise, StartOfFrame, Frame, FrameEscape, Giant, GiantEscape}
use Rattle.link_receive.specs.declared.Receiver.{Receiver}
use Rattle.link_receive.specs.declared.Tallies.{Tallies}
use Rattle.link_receive.specs.declared.Stepped.{Stepped}
use Rattle.link_receive.specs.Tally.{raise}
use Rattle.link_receive.specs.Step.{room, head_of, made_of, rules_of, Within, turn_of, parsed_of, closed_of, moved_of, step_of}
use Rattle.link_receive.specs.Frames.{handed_out}
use Rattle.link_receive.proofs.Rules.{limit-room}
use Rattle.link_receive.proofs.Frames.{handed_out-sound}
use Rattle.books.specs.Stands.{rest_of, rest_at}

-- the tallies after some events
unfoldable pub raised_by : List Event → Tallies → Tallies
raised_by [] t = t
raised_by (e ∷ es) t = raised_by es (raise (counter_of_event e) t)

pub record Linked (rules : Rules) (x : Stepped) (y : Beat) (t : Tallies) : Type 0 where
  pub within : x.next.len ≤ rules.limit
  pub sized : length x.next.body ≡ room
  pub stands : rest_at x.next ≡ y.to
  pub raises : x.next.tallies ≡ raised_by y.events t
  pub hands : handed_out x.answer x.next.body ≡ map frame_of (bodies y.events)

linked : {rules : Rules} {x : Stepped} {y : Beat} {t : Tallies} → x.next.len ≤ rules.limit → length x.next.body ≡ room → rest_at x.next ≡ y.to → x.next.tallies ≡ raised_by y.events t → handed_out x.answer x.next.body ≡ map frame_of (bodies y.events) → Linked rules x y t
linked a b c d e = record { within = a; sized = b; stands = c; raises = d; hands = e }

-- the parts of a receiver o, and rules whose limit the array has room for
module _ (check : List ℕ → ℕ) (rules : Rules) (fits : rules.limit ≤ room) (o : Receiver) (body : List ℕ) (len : ℕ) (t : Tallies) (b : ℕ) (h : len ≤ rules.limit) (l : length body ≡ room) where
  abbrev at : State → Receiver
  at s = made_of o s body len t

  abbrev Links : State → Type 0
  Links s = Linked rules (moved_of check (at s) (turn_of rules s len b)) (beat rules check (rest_of s (take len body)) b) t

  length-units : length (take len body) ≡ len
  length-units = omega (arith, length-take len body)

  units-more : (c : ℕ) → ltb len rules.limit ≡ true → take (len + 1) (set body len c) ≡ take len body ++ (c ∷ [])
  units-more c f = rw (add-one, take-suc-set body len c (omega (arith, ltb-true len rules.limit f)))

  one_more : ltb len rules.limit ≡ true → len + 1 ≤ rules.limit
  one_more f = omega (arith, ltb-true len rules.limit f)

  link-idle : (x y z : Bool) → eqb b 0x7e ≡ x → eqb b 0x00 ≡ y → eqb b 0xff ≡ z → Links Idle
  unfolding turn_of raised_by bodies
  link-idle true y z e f g = rw e (linked h l refl refl refl)
  link-idle false true z e f g = rw (e, f) (linked h l refl refl refl)
  link-idle false false true e f g = rw (e, f, g) (linked h l refl refl refl)
  link-idle false false false e f g = rw (e, f, g) (linked (omega arith) l refl refl refl)

  link-noise : (x y z : Bool) → eqb b 0x7e ≡ x → eqb b 0x00 ≡ y → eqb b 0xff ≡ z → Links Noise
  unfolding turn_of raised_by bodies
  link-noise true y z e f g = rw e (linked h l refl refl refl)
  link-noise false true z e f g = rw (e, f) (linked h l refl refl refl)
  link-noise false false true e f g = rw (e, f, g) (linked h l refl refl refl)
  link-noise false false false e f g = rw (e, f, g) (linked h l refl refl refl)

  link_start : (m : Meaning) → meaning b ≡ m → Links StartOfFrame
  unfolding turn_of raised_by bodies
  link_start datum e = rw e (linked (omega arith) l refl refl refl)
  link_start opener e = rw e (linked (omega arith) l refl refl refl)
  link_start closer e = rw e (linked (omega arith) l refl refl refl)
  link_start neither e = rw e (linked (omega arith) l refl refl refl)

  link-frame : (x y : Bool) → eqb b 0x7e ≡ x → ltb len rules.limit ≡ y → Links Frame
  unfolding turn_of raised_by bodies
  link-frame true y e f = rw e (linked h l refl refl refl)
  link-frame false true e f = rw (e, length-units, f) (linked (one_more f) (simp length-set l) (ap inside (units-more b f)) refl refl)
  link-frame false false e f = rw (e, length-units, f) (linked (omega arith) l refl refl refl)

  link-closed : (v : Verdict) → verdict check (take len body) ≡ v → Linked rules (closed_of (at FrameEscape) (parsed_of check (take len body))) (record { events = closes (verdict check (take len body)) (take len body) ∷ []; to = rest_of Idle [] }) t
  unfolding raised_by bodies parsed_of
  link-closed runt e = rw e (linked (omega arith) l refl refl refl)
  link-closed checksum e = rw e (linked (omega arith) l refl refl refl)
  link-closed sound e = rw e (linked (omega arith) l refl refl (handed_out-sound check body len (head_of (take len body)) (omega arith) (rw e)))

  link-escape : (m : Meaning) (y : Bool) → meaning b ≡ m → ltb len rules.limit ≡ y → Links FrameEscape
  unfolding turn_of raised_by bodies
  link-escape datum true e f = rw (e, length-units, f) (linked (one_more f) (simp length-set l) (ap inside (units-more (unescaped_of b) f)) refl refl)
  link-escape datum false e f = rw (e, length-units, f) (linked (omega arith) l refl refl refl)
  link-escape opener y e f = rw e (linked (omega arith) l refl refl refl)
  link-escape closer y e f = rw e (link-closed (verdict check (take len body)) refl)
  link-escape neither y e f = rw e (linked (omega arith) l refl refl refl)

  link-giant : (x : Bool) → eqb b 0x7e ≡ x → Links Giant
  unfolding turn_of raised_by bodies
  link-giant true e = rw e (linked h l refl refl refl)
  link-giant false e = rw e (linked h l refl refl refl)

  link-giant-escape : (m : Meaning) → meaning b ≡ m → Links GiantEscape
  unfolding turn_of raised_by bodies
  link-giant-escape datum e = rw e (linked h l refl refl refl)
  link-giant-escape opener e = rw e (linked (omega arith) l refl refl refl)
  link-giant-escape closer e = rw e (linked h l refl refl refl)
  link-giant-escape neither e = rw e (linked h l refl refl refl)

  links : (s : State) → Links s
  links Idle = link-idle (eqb b 0x7e) (eqb b 0x00) (eqb b 0xff) refl refl refl
  links Noise = link-noise (eqb b 0x7e) (eqb b 0x00) (eqb b 0xff) refl refl refl
  links StartOfFrame = link_start (meaning b) refl
  links Frame = link-frame (eqb b 0x7e) (ltb len rules.limit) refl refl
  links FrameEscape = link-escape (meaning b) (ltb len rules.limit) refl refl
  links Giant = link-giant (eqb b 0x7e) refl
  links GiantEscape = link-giant-escape (meaning b) refl

pub link : (check : List ℕ → ℕ) (r : Receiver) (b : ℕ) → Within r → length r.body ≡ room → Linked (rules_of r) (step_of check r b) (beat (rules_of r) check (rest_at r) b) r.tallies
unfolding step_of
link check r b h l = rw (le-ltb (rules_of r).limit r.len h) (links check (rules_of r) (limit-room r) r r.body r.len r.tallies b h l r.state)
