-- How feeding goes on over the parts of a receiver, its body and tallies lent; over any check and the rules of any receiver o. Assumes nothing.
use Rattle.std.specs.Prelude.{◌≡◌, ℕ, zero, suc, ◌+◌, ◌<◌, ◌≤◌, Bool, true, false, not, ◌&&◌, List, length, drop, ◌==◌, slice_index, slice_index_or, Option, Some, None, Ok}
use Rattle.link_receive.specs.declared.State.{State}
use Rattle.link_receive.specs.declared.State.TheVariants.{Idle, Noise, StartOfFrame, Frame, FrameEscape, Giant, GiantEscape}
use Rattle.link_receive.specs.declared.Tallies.{Tallies}
use Rattle.link_receive.specs.declared.Head.{Head}
use Rattle.link_receive.specs.declared.Receiver.{Receiver}
use Rattle.byte_runs.specs.declared.Heard.{Heard}
use Rattle.reading.specs.Counters as k
use Rattle.link_receive.specs.Tally.{raise}
use Rattle.link_feed.specs.declared.Units.{Units}
use Rattle.link_feed.specs.declared.Course.{Course}
use Rattle.link_feed.specs.declared.Stood.{Stood}
use Rattle.link_receive.specs.declared.Stepped.{Stepped}
use Rattle.link_feed.specs.declared.Advanced.{Advanced}
use Rattle.link_feed.specs.declared.Fed.{Fed}
use Rattle.link_receive.specs.Numbered.{tallies_at}
use Rattle.link_receive.specs.Step.{fresh_of, made_of, rules_of, Within}
use Rattle.link_feed.specs.Feed.{stopped, feed_from}
use Rattle.link_feed.specs.Drain.{drain_of}

-- the parts put together, with the tallies among ten numbers; all else is as in a fresh receiver
abbrev pub held_of : State → List ℕ → ℕ → List ℕ → Receiver
held_of state body len numbers = made_of fresh_of state body len (tallies_at numbers)

-- the most units that it may hold
abbrev pub limit : ℕ
limit = (rules_of fresh_of).limit

-- a step's end, from the parts and the frame that it hands out, if any
abbrev pub stepped_of : State → List ℕ → ℕ → List ℕ → Option Head → Stepped
stepped_of state body len numbers a = record { next = held_of state body len numbers; answer = Ok a }

-- a byte's end, from what the code keeps of it
abbrev pub stood_of : Stood → List ℕ → List ℕ → Stepped
stood_of x body numbers = stepped_of x.state body x.len numbers x.frame

-- a feeding's end, from what the code keeps of it
abbrev pub fed_of : Advanced → List ℕ → List ℕ → Fed
fed_of a body numbers = record { next = held_of a.state body a.len numbers; answer = Ok a.frame; taken = a.at }

-- 7e and a code stand at a place
pub record Stands (s : List ℕ) (i code : ℕ) : Type 0 where
  pub whole : i + 2 ≤ length s
  pub first : slice_index_or s i 0 ≡ 0x7e
  pub second : slice_index_or s (i + 1) 0 ≡ code

-- whether m bytes of a tail from i on end within a pair: 7e begins one, unless it ends one
abbrev pub half_at : List ℕ → ℕ → ℕ → Bool
half_at s i zero = false
half_at s i (suc m) = not (half_at s i m) && slice_index s (i + m) == 0x7e

-- where a receiver stands outside a frame, by whether the line is noisy
abbrev pub line_of : Bool → State
line_of true = Noise
line_of false = Idle

-- whether a state is one of these two
abbrev pub is_outside : State → Bool
is_outside Idle = true
is_outside Noise = true
is_outside StartOfFrame = false
is_outside Frame = false
is_outside FrameEscape = false
is_outside Giant = false
is_outside GiantEscape = false

-- 01, "The reading of a stream": another byte is one noise if it came in Idle: by whether the line was noisy, and is
abbrev pub begins_of : Bool → Bool → ℕ
begins_of true busy = 0
begins_of false true = 1
begins_of false false = 0

-- so many noises more
abbrev pub noised : ℕ → Tallies → Tallies
noised zero t = t
noised (suc n) t = raise k.noise (noised n t)

-- what is held after so many noises: each of them empties the body
abbrev pub held_after : ℕ → ℕ → ℕ
held_after zero len = len
held_after (suc n) len = 0

-- where the bytes outside a frame stop: at an opener, at a lone last 7e, or at the end
pub record Awaits (s : List ℕ) (i : ℕ) : Type 0 where
  pub pair : i + 2 ≤ length s → Stands s i 0x07
  pub lone : i + 1 ≡ length s → slice_index s i ≡ 0x7e

module _ (check : List ℕ → ℕ) where
  -- a slice fed from a place on: up to the first answer that is something, or else through all of them to its end
  abbrev pub went_of : Bool → Receiver → List ℕ → ℕ → Fed
  went_of true r s i = feed_from check r (drop i s) i
  went_of false r s i = stopped (drain_of check r (drop i s)) (Ok None) (length s)

  -- the units of an open frame: a place further on, from which feeding on is feeding from here, with no tally raised. A pair that is no unit
  -- stands there if its second byte is told
  pub record Ahead (o : Receiver) (s : List ℕ) (body : List ℕ) (len i : ℕ) (next : List ℕ) (p : Units) : Type 0 where
    pub inside : p.at ≤ length s
    pub further : i ≤ p.at
    pub within : p.len ≤ (rules_of o).limit
    pub same : (t : Tallies) → feed_from check (made_of o Frame next p.len t) (drop p.at s) p.at ≡ feed_from check (made_of o Frame body len t) (drop i s) i
    pub coded : (c : ℕ) → p.code ≡ Some c → (7 ≤ c) × Stands s p.at c

  -- the same in an overlong tail, whatever is held
  pub record Skipped (o : Receiver) (s : List ℕ) (i j : ℕ) : Type 0 where
    pub inside : j ≤ length s
    pub further : i ≤ j
    pub same :
        (body : List ℕ) (len : ℕ) (t : Tallies) → len ≤ (rules_of o).limit →
        feed_from check (made_of o Giant body len t) (drop j s) j ≡ feed_from check (made_of o Giant body len t) (drop i s) i

  -- outside a frame: a place further on, from which feeding on is feeding from here, with the noises counted that began before it
  pub record Passed (o : Receiver) (s : List ℕ) (noisy : Bool) (i : ℕ) (h : Heard) : Type 0 where
    pub inside : h.at ≤ length s
    pub further : i ≤ h.at
    pub few : h.count + i ≤ h.at
    pub same :
        (body : List ℕ) (len : ℕ) (t : Tallies) → len ≤ (rules_of o).limit →
        feed_from check (made_of o (line_of h.noisy) body (held_after h.count len) (noised h.count t)) (drop h.at s) h.at ≡ feed_from check (made_of o (line_of noisy) body len t) (drop i s) i

  -- where the bytes outside a frame lead, with other tallies: whoever is still outside is at the slice's end
  pub record Led (o : Receiver) (s : List ℕ) (state : State) (len i : ℕ) (t : Tallies) (c : Course) (u : Tallies) : Type 0 where
    pub inside : c.at ≤ length s
    pub further : i ≤ c.at
    pub within : c.len ≤ (rules_of o).limit
    pub ended : is_outside c.state ≡ true → c.at ≡ length s
    pub same : (body : List ℕ) → feed_from check (made_of o c.state body c.len u) (drop c.at s) c.at ≡ feed_from check (made_of o state body len t) (drop i s) i

  -- how feeding ends that stands at a place: it stops at a frame, and goes on where there is none
  abbrev pub fed_by : List ℕ → Option Head → Receiver → ℕ → Fed
  fed_by s None q j = feed_from check q (drop j s) j
  fed_by s (Some h) q j = stopped q (Ok (Some h)) j

  -- a receiver further on, and what it hands out, with which feeding ends as from here: whoever is outside then took some bytes, if there were
  -- any, and whoever is not hands nothing out
  pub record Stretched (s : List ℕ) (r : Receiver) (i : ℕ) (q : Receiver) (a : Option Head) (j : ℕ) : Type 0 where
    pub inside : j ≤ length s
    pub further : i ≤ j
    pub within : Within q
    pub same : fed_by s a q j ≡ feed_from check r (drop i s) i
    pub leaves : is_outside q.state ≡ true → i < length s → i < j
    pub quiet : is_outside q.state ≡ false → a ≡ None

  -- the same, some bytes further if there were any
  pub record Onward (s : List ℕ) (r : Receiver) (i : ℕ) (q : Receiver) (a : Option Head) (j : ℕ) : Type 0 where
    pub inside : j ≤ length s
    pub least : i ≤ j
    pub further : i < length s → i < j
    pub within : Within q
    pub same : fed_by s a q j ≡ feed_from check r (drop i s) i
