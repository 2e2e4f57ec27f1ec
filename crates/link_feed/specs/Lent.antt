-- What a feeding leaves of a receiver that is lent as ten numbers and its body. Assumes nothing.
use Rattle.std.specs.Prelude.{ℕ, ◌+◌, cond, List, [], length, nat_lt}
use Rattle.link_receive.specs.declared.Receiver.{Receiver}
use Rattle.link_receive.specs.Numbered.{receiver_at, numbers_of}
use Rattle.link_receive.specs.Step.{too_long}
use Rattle.link_feed.specs.declared.Fed.{Fed}
use Rattle.link_feed.specs.declared.FedIn.{FedIn}
use Rattle.link_feed.specs.declared.Reached.{Reached}

-- what a feeding hands out, and how many bytes it took
abbrev pub fed_in_of : Fed → FedIn
fed_in_of f = record { answer = f.answer; taken = f.taken }

-- the ten numbers after a call that led to a receiver: 12, which asks nothing of the body, leaves them as they were, a
-- number that is none of the states' too
abbrev pub numbers_left : List ℕ → Receiver → List ℕ
numbers_left numbers r = cond (too_long (receiver_at numbers [])) numbers (numbers_of r)

-- .. and after a feeding
abbrev pub numbers_fed : List ℕ → Fed → List ℕ
numbers_fed numbers f = numbers_left numbers f.next

-- where a feeding from a place on starts in a slice of so many bytes: at its end at the latest
abbrev pub start_of : ℕ → ℕ → ℕ
start_of n at = cond (nat_lt at n) at n

-- the place that it reaches: where 12 refuses it, the one where it starts
abbrev pub reached_of : List ℕ → ℕ → Fed → Reached
reached_of s at f = record { answer = f.answer; at = start_of (length s) at + f.taken }
