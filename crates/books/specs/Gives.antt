-- The contract of taking a block in frame by frame. Over any check. Assumes nothing.
use Rattle.std.specs.Prelude.{◌≡◌, ℕ, List, ◌++◌, take}
use Rattle.reading.specs.Counts.{sound_frames}
use Rattle.link_receive.specs.declared.Receiver.{Receiver}
use Rattle.link_feed.specs.declared.Fed.{Fed}
use Rattle.link_feed.specs.Feed.{feed_of}
use Rattle.link_feed.specs.Drain.{frames_fed}
use Rattle.books.specs.Stands.{Since}

module _ (check : List ℕ → ℕ) where
  -- the bytes before a feeding, with those that it takes, lead to the receiver it hands back; and the frame it hands out, if any, is the
  -- one sound frame that these bytes add
  pub record GaveOn (g h s : List ℕ) (r : Receiver) (f : Fed) (a : Since check g h r) : Type 0 where
    pub after : Since check g (h ++ take f.taken s) f.next
    pub adds : sound_frames check after.pieces ≡ sound_frames check a.pieces ++ frames_fed f

  -- a feeding gives exactly what `feed_of` says, and goes on so from whatever bytes led to its receiver
  pub record Gave (r : Receiver) (s : List ℕ) (f : Fed) : Type 0 where
    pub exactly : f ≡ feed_of check r s
    pub on : (g h : List ℕ) (a : Since check g h r) → GaveOn g h s r f a
