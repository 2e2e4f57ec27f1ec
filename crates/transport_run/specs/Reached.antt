-- The states that inputs, frames and resets, lead to from a fresh receiver, and what holds of them. Assumes nothing.
use Rattle.std.specs.Prelude.{◌≡◌, ℕ}
use Rattle.tables.specs.Places.{Distinct}
use Rattle.answers.specs.Types
use Rattle.transport_receiver.specs.State.{Tables, State, Frame, state_of, fresh}
use Rattle.transport_receiver.specs.Step.{key_of, Input, frame, taken_of}

-- a fresh receiver's state, and whatever an input makes of a state that is reached
pub data Reached : State → Type 0 where
  start : Reached (state_of fresh)
  on : {s : State} → Reached s → (i : Input) → Reached (taken_of s i).state

-- no table holds two places of one key
pub record AllDistinct (t : Tables) : Type 0 where
  pub numbers : Distinct t.numbers
  pub sequences : Distinct t.sequences
  pub commands : Distinct t.commands

-- inputs that lead from one state to another, none of them a command request under the key k
pub data Since (k : ℕ) (s : State) : State → Type 0 where
  here : Since k s s
  on : {t : State} → Since k s t → (i : Input) → ((f : Frame) → i ≡ frame f → f.frame_type ≡ Types.command_request → key_of f ≡ k → ⊥) → Since k s (taken_of t i).state
