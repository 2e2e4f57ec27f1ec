-- A receiver as ten numbers and its body: the state's number, the length, and the tallies in the ledger's order. Assumes nothing.
use Rattle.std.specs.Prelude.{ℕ, cond, List, ◌∷◌, ◌==◌, slice_index, Result, Ok}
use Rattle.laws.specs.Numbers.{over_limit}
use Rattle.link_receive.specs.declared.State.{State}
use Rattle.link_receive.specs.declared.State.TheVariants.{Idle, Noise, StartOfFrame, Frame, FrameEscape, Giant, GiantEscape}
use Rattle.link_receive.specs.declared.Receiver.{Receiver}
use Rattle.link_receive.specs.declared.Tallies.{Tallies}
use Rattle.link_receive.specs.declared.Tally.{Tally}
use Rattle.link_receive.specs.declared.Tally.TheVariants as tally
use Rattle.link_receive.specs.declared.OverLimit.{OverLimit}
use Rattle.link_receive.specs.Tally.{eight_of}
use Rattle.link_receive.specs.Frames.{refused_by}
use Rattle.link_receive.specs.Step.{fresh_of, made_of, too_long}

-- how many numbers there are
abbrev pub number_count : ℕ
number_count = 10

-- the states by their numbers; any number above 5 stands for the last
unfoldable pub state_at : ℕ → State
state_at n =
    cond (n == 0) Idle
    (cond (n == 1) Noise
    (cond (n == 2) StartOfFrame
    (cond (n == 3) Frame
    (cond (n == 4) FrameEscape
    (cond (n == 5) Giant GiantEscape)))))

-- the number of a state
abbrev pub state_number : State → ℕ
state_number Idle = 0
state_number Noise = 1
state_number StartOfFrame = 2
state_number Frame = 3
state_number FrameEscape = 4
state_number Giant = 5
state_number GiantEscape = 6

-- the tallies among ten numbers
unfoldable pub tallies_at : List ℕ → Tallies
tallies_at numbers =
    record {
      openings = slice_index numbers 2;
      frames = slice_index numbers 3;
      runts = slice_index numbers 4;
      checksums = slice_index numbers 5;
      giants = slice_index numbers 6;
      escaped = slice_index numbers 7;
      broken = slice_index numbers 8;
      noise = slice_index numbers 9;
    }

-- the index of a tally among ten numbers
abbrev pub tally_index : Tally → ℕ
tally_index tally.Openings = 2
tally_index tally.Frames = 3
tally_index tally.Runts = 4
tally_index tally.Checksums = 5
tally_index tally.Giants = 6
tally_index tally.Escaped = 7
tally_index tally.Broken = 8
tally_index tally.Noise = 9

-- the receiver that ten numbers and a body say: state, length, and the tallies in the ledger's order
abbrev pub receiver_at : List ℕ → List ℕ → Receiver
receiver_at numbers body = made_of fresh_of (state_at (slice_index numbers 0)) body (slice_index numbers 1) (tallies_at numbers)

-- the ten numbers of a receiver
abbrev pub numbers_of : Receiver → List ℕ
numbers_of r = state_number r.state ∷ r.len ∷ eight_of r.tallies

-- 01, "Numbers handed back", 12: a state with a length over its limit has no numbers to hand out
unfoldable pub numbers_told : Receiver → Result (List ℕ) OverLimit
numbers_told r = cond (too_long r) (refused_by over_limit (numbers_of r)) (Ok (numbers_of r))
