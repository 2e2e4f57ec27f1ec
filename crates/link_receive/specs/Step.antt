-- What one byte does to a receiver, over any check. Assumes nothing.
use Rattle.std.specs.Prelude.{ℕ, ◌+◌, ◌-◌, ◌≤◌, Bool, cond, List, length, take, replicate, ◌==◌, nat_lt, slice_set, Some, None, Result, Ok, Err}
use Rattle.laws.specs.Bytes.{be16_at}
use Rattle.laws.specs.Numbers.{over_limit}
use Rattle.escaping.specs.Escapes.{Meaning, datum, opener, closer, neither, meaning, unescaped_of}
use Rattle.address.specs.Address.{address_of}
use Rattle.reading.specs.Counters.{Counter}
use Rattle.reading.specs.Counters as k
use Rattle.reading.specs.Grammar.{Rules, present}
use Rattle.reading.specs.Counts.{Verdict, runt, checksum, sound, verdict}
use Rattle.link_receive.specs.declared.State.{State}
use Rattle.link_receive.specs.declared.State.TheVariants.{Idle, Noise, StartOfFrame, Frame, FrameEscape, Giant, GiantEscape}
use Rattle.link_receive.specs.declared.Tally.{Tally}
use Rattle.link_receive.specs.declared.Tally.TheVariants as tally
use Rattle.link_receive.specs.declared.Tallies.{Tallies}
use Rattle.link_receive.specs.declared.Move.{Move}
use Rattle.link_receive.specs.declared.Move.TheVariants.{To, Push, Count, Break, Close}
use Rattle.link_receive.specs.declared.Head.{Head}
use Rattle.link_receive.specs.declared.Receiver.{Receiver}
use Rattle.link_receive.specs.declared.Stepped.{Stepped}
use Rattle.link_receive.specs.Tally.{counter_of, raise, zeros}
use Rattle.link_receive.specs.Frames.{refused_by}

-- 01, "What changes shape": a 256-byte array with a length
abbrev pub room : ℕ
room = 256

-- 01, "The reading of a stream": a fresh receiver is Idle
abbrev pub fresh_of : Receiver
fresh_of = record { state = Idle; body = replicate room 0; len = 0; tallies = zeros }

-- a receiver with these parts, and all else as r has it: whatever a call changes, it changes so
abbrev pub made_of : Receiver → State → List ℕ → ℕ → Tallies → Receiver
made_of r state body len tallies = record { state = state; body = body; len = len; tallies = tallies }

-- the rules that a receiver reads by: 01's. No call changes them (proofs/Rules.antt)
unfoldable pub rules_of : Receiver → Rules
rules_of r = present

-- 01, "Numbers handed back", 12: state with a length over its limit
abbrev pub too_long : Receiver → Bool
too_long r = nat_lt (rules_of r).limit r.len

-- .. and one that 12 does not refuse
abbrev pub Within : Receiver → Type 0
Within r = r.len ≤ (rules_of r).limit

-- 01, "Marked cases": open is 1 while a frame is open, a lone last 7e in it included
abbrev pub open_of : State → ℕ
open_of Idle = 0
open_of Noise = 0
open_of StartOfFrame = 0
open_of Frame = 1
open_of FrameEscape = 1
open_of Giant = 0
open_of GiantEscape = 0

-- outside an open frame and the overlong tail, a byte that is no 7e: 00 and ff lead to Idle. Another byte leads to Noise, one noise if it came in Idle
abbrev pub outside_of : Move → ℕ → Move
outside_of other b = cond (b == 0x7e) (To StartOfFrame) (cond (b == 0x00) (To Idle) (cond (b == 0xff) (To Idle) other))

-- 7e with its next byte is a pair. 7e 07 opens a frame. Any other pair is one noise and leads to Noise
abbrev pub pair_of : Meaning → Move
pair_of datum = Count tally.Noise Noise
pair_of opener = Count tally.Openings Frame
pair_of closer = Count tally.Noise Noise
pair_of neither = Count tally.Noise Noise

-- a data unit is a byte other than 7e ..; giant: a 257th unit that is a raw byte. Then the overlong tail
abbrev pub inside_of : Rules → ℕ → ℕ → Move
inside_of rules len b = cond (b == 0x7e) (To FrameEscape) (cond (nat_lt len rules.limit) (Push b) (Count tally.Giants Giant))

-- .. or 7e 00 to 7e 06; escaped overlong: a 257th unit that is an escape. Then the tail, whose first byte is read as the second half of a pair;
-- closed by 7e 08; broken by any other pair, 7e 07 too
abbrev pub escape_of : Rules → Meaning → ℕ → ℕ → Move
escape_of rules datum len b = cond (nat_lt len rules.limit) (Push (unescaped_of b)) (Count tally.Escaped GiantEscape)
escape_of rules opener len b = Break
escape_of rules closer len b = Close
escape_of rules neither len b = Break

-- in the tail everything is skipped up to 7e 08 (then Idle) or 7e 07, which opens the next frame. Pairs are taken two bytes at a time there too
abbrev pub tail_of : Meaning → Move
tail_of datum = To Giant
tail_of opener = Count tally.Openings Frame
tail_of closer = To Idle
tail_of neither = To Giant

-- what a byte asks for by the rules, in a state with so many units held
unfoldable pub turn_of : Rules → State → ℕ → ℕ → Move
turn_of rules Idle len b = outside_of (Count tally.Noise Noise) b
turn_of rules Noise len b = outside_of (To Noise) b
turn_of rules StartOfFrame len b = pair_of (meaning b)
turn_of rules Frame len b = inside_of rules len b
turn_of rules FrameEscape len b = escape_of rules (meaning b) len b
turn_of rules Giant len b = cond (b == 0x7e) (To GiantEscape) (To Giant)
turn_of rules GiantEscape len b = tail_of (meaning b)

-- into a state, with all else as it was
abbrev pub to_of : Receiver → State → Receiver
to_of r s = made_of r s r.body r.len r.tallies

-- one unit more
abbrev pub pushed_of : Receiver → ℕ → Receiver
pushed_of r b = made_of r Frame (slice_set r.body r.len b) (r.len + 1) r.tallies

-- one is counted, and the body is empty
abbrev pub counted_of : Receiver → Counter → State → Receiver
counted_of r k s = made_of r s r.body 0 (raise k r.tallies)

-- broken .. : one noise, then Noise
abbrev pub broken_of : Receiver → Receiver
broken_of r = counted_of (counted_of r k.broken Noise) k.noise Noise

-- a receiver that hands nothing out
abbrev pub quiet : Receiver → Stepped
quiet r = record { next = r; answer = Ok None }

-- closed ..: then Idle. A sound frame is handed out
abbrev pub closed_of : Receiver → Result Head Tally → Stepped
closed_of r (Ok h) = record { next = counted_of r k.frames Idle; answer = Ok (Some h) }
closed_of r (Err x) = quiet (counted_of r (counter_of x) Idle)

-- the refusal 12: nothing changes
abbrev pub refused_of : Receiver → Stepped
refused_of r = record { next = r; answer = refused_by over_limit None }

-- 01: a reset sets all eight to 0 and keeps state and body
unfoldable pub reset_of : Receiver → Stepped
reset_of r = cond (too_long r) (refused_of r) (quiet (made_of r r.state r.body r.len zeros))

-- a sound body says its address and its type, and its payload is six bytes shorter
abbrev pub head_of : List ℕ → Head
head_of s = record { address = address_of (be16_at s 0); frame_type = record { 0 = be16_at s 2 }; len = length s - 6 }

-- a runt and a checksum are counted and dropped
abbrev pub judged_of : Verdict → List ℕ → Result Head Tally
judged_of runt s = Err tally.Runts
judged_of checksum s = Err tally.Checksums
judged_of sound s = Ok (head_of s)

module _ (check : List ℕ → ℕ) where
  -- what a closed body comes to, by 01's verdict on it
  unfoldable pub parsed_of : List ℕ → Result Head Tally
  parsed_of s = judged_of (verdict check s) s

  -- what a move makes of a receiver, and what is handed out
  abbrev pub moved_of : Receiver → Move → Stepped
  moved_of r (To s) = quiet (to_of r s)
  moved_of r (Push b) = quiet (pushed_of r b)
  moved_of r (Count x s) = quiet (counted_of r (counter_of x) s)
  moved_of r Break = quiet (broken_of r)
  moved_of r Close = closed_of r (parsed_of (take r.len r.body))

  -- a made-up state is answered too: 12 if its length is over the limit
  unfoldable pub step_of : Receiver → ℕ → Stepped
  step_of r b = cond (too_long r) (refused_of r) (moved_of r (turn_of (rules_of r) r.state r.len b))
