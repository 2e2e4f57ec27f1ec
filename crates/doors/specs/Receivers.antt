-- How the link receiver's state and answers cross a door. Assumes nothing.
use Rattle.std.specs.Prelude.{ℕ, ◌*◌, ◌^◌, List, [], ◌∷◌, Some, None, Ok, Err}
use Rattle.laws.specs.Handed.{Handed, refused, value}
use Rattle.address.specs.Handed.{number_handed}
use Rattle.link_receive.specs.declared.Receiver.{Receiver}
use Rattle.crc.specs.Crc.{crc_of}
use Rattle.link_receive.specs.declared.Stepped.{Stepped}
use Rattle.link_feed.specs.declared.Fed.{Fed}
use Rattle.link_receive.specs.Step.{step_of, fresh_of, reset_of}
use Rattle.link_feed.specs.Feed.{feed_of}
use Rattle.link_feed.specs.Drain.{extend_of}
use Rattle.link_receive.specs.Frames.{Given, nothing, frame, Answered, handed}
use Rattle.link_receive.specs.Numbered.{receiver_at}
use Rattle.doors.specs.Numbered.{numbered}

-- 0 for nothing, 1 for a frame
abbrev pub given_as : Given → ℕ
given_as nothing = 0
given_as (frame address t n) = 1

-- what is handed out; 2^32 times its number for a refusal
abbrev pub crossing : Handed Given → ℕ
crossing (value g) = given_as g
crossing (refused n) = n * 2 ^ 32

-- an answer, by 01's number for it
abbrev pub told : Answered → ℕ
told a = crossing (handed a)

-- a step takes one byte, unless it is refused
abbrev pub taken_by : Answered → ℕ
taken_by (Ok a) = 1
taken_by (Err e) = 0

-- an answer, and of a frame the 16 bits of its address and of its type and the length of its payload
abbrev pub found_of : Answered → List ℕ
found_of (Ok None) = told (Ok None) ∷ 0 ∷ 0 ∷ 0 ∷ []
found_of (Ok (Some h)) = told (Ok (Some h)) ∷ numbered (number_handed h.address) ∷ h.frame_type.0 ∷ h.len ∷ []
found_of (Err e) = told (Err e) ∷ 0 ∷ 0 ∷ 0 ∷ []

-- at the receiver that ten numbers and a body say, what comes of a byte ..
abbrev pub pushed_at : List ℕ → List ℕ → ℕ → Stepped
pushed_at numbers body b = step_of crc_of (receiver_at numbers body) b

-- .. of a slice ..
abbrev pub fed_at : List ℕ → List ℕ → List ℕ → Fed
fed_at numbers body s = feed_of crc_of (receiver_at numbers body) s

-- .. of a reset
abbrev pub reset_at : List ℕ → List ℕ → Stepped
reset_at numbers body = reset_of (receiver_at numbers body)

-- and of a whole slice, from fresh
abbrev pub heard_of : List ℕ → Receiver
heard_of s = (extend_of crc_of fresh_of s).next
