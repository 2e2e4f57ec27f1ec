-- Demand 2's read-back: what it is for a receiver to read a frame back from the frame's bytes on the line. Over any check. Assumes nothing.
use Rattle.std.specs.Prelude.{◌≡◌, ℕ, List, [], ◌∷◌, length}
use Rattle.reading.specs.Counters as k
use Rattle.link.specs.Wire.{Frame, encoded_of}
use Rattle.link_receive.specs.declared.Receiver.{Receiver}
use Rattle.link_receive.specs.declared.State.TheVariants as state
use Rattle.link_receive.specs.Tally.{raise}
use Rattle.link_feed.specs.Feed.{feed_of}
use Rattle.link_feed.specs.Drain.{drain_of, frames_of, frames_fed}

module _ (check : List ℕ → ℕ) where
  -- the encoded frame is handed out as exactly that one frame, by one feeding that takes all bytes, and by the steps one by one; the receiver
  -- ends Idle with an empty body, and openings and frames move by one each, no other tally
  pub record ReadsBack (f : Frame) (r : Receiver) : Type 0 where
    pub frame : frames_of check r (encoded_of check f) ≡ f ∷ []
    pub all_taken : (feed_of check r (encoded_of check f)).taken ≡ length (encoded_of check f)
    pub fed : frames_fed (feed_of check r (encoded_of check f)) ≡ f ∷ []
    pub next : (feed_of check r (encoded_of check f)).next ≡ drain_of check r (encoded_of check f)
    pub stands : (drain_of check r (encoded_of check f)).state ≡ state.Idle
    pub empty : (drain_of check r (encoded_of check f)).len ≡ 0
    pub tallies : (drain_of check r (encoded_of check f)).tallies ≡ raise k.frames (raise k.openings r.tallies)
