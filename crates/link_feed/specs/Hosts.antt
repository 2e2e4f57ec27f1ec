-- A host's run over a stream: any mixture of the calls that take bytes, each as its contract says it. Over any check. Assumes nothing.
use Rattle.std.specs.Prelude.{◌≡◌, ℕ, Bool, true, false, ◌&&◌, List, [], ◌∷◌, ◌++◌, drop}
use Rattle.link.specs.Wire.{Frame}
use Rattle.link_receive.specs.declared.Receiver.{Receiver}
use Rattle.link_receive.specs.declared.Stepped.{Stepped}
use Rattle.link_receive.specs.declared.Tallies.{Tallies}
use Rattle.link_receive.specs.Frames.{handed_out}
use Rattle.link_receive.specs.Numbered.{receiver_at}
use Rattle.link_receive.specs.Step.{step_of}
use Rattle.link_feed.specs.declared.Fed.{Fed}
use Rattle.link_feed.specs.declared.FedIn.{FedIn}
use Rattle.link_feed.specs.declared.Reached.{Reached}
use Rattle.link_feed.specs.Feed.{feed_of}
use Rattle.link_feed.specs.Drain.{frames_fed, extend_of}
use Rattle.link_feed.specs.Lent.{fed_in_of, numbers_fed, reached_of}
use Rattle.link_feed.specs.Tallies.{lent_to, Pushed, FedWith}

module _ (check : List ℕ → ℕ) where
  -- One call of a host that has the receiver r, with the tallies that count for its own, and the bytes s still to give. It leaves the receiver
  -- q and the bytes t, and hands out the frames fs, in order.
  pub data Call (r : Receiver) (s : List ℕ) (q : Receiver) (t : List ℕ) (fs : List Frame) : Type 0 where
    -- `push_u8`
    pushes : (b : ℕ) (x : Stepped) → x ≡ step_of check r b → s ≡ b ∷ t → q ≡ x.next → fs ≡ handed_out x.answer x.next.body → Call r s q t fs
    -- `feed`, and `give` of crates/books: a first part of the bytes; the next call goes on after those that were taken
    feeds : (first rest : List ℕ) (f : Fed) → f ≡ feed_of check r first → s ≡ first ++ rest → q ≡ f.next → t ≡ drop f.taken first ++ rest → fs ≡ frames_fed f → Call r s q t fs
    -- `extend_from_slice`, and `absorb` of crates/books: a first part taken in whole, whose frames it does not hand out
    absorbs : (first : List ℕ) (x : Stepped) → x ≡ extend_of check r first → s ≡ first ++ t → q ≡ x.next → fs ≡ [] → Call r s q t fs
    -- `feed_in`: the receiver is lent as ten numbers and its body
    feeds_in :
        (numbers body first rest after units : List ℕ) (f : FedIn) →
        r ≡ receiver_at numbers body →
        f ≡ fed_in_of (feed_of check (receiver_at numbers body) first) →
        after ≡ numbers_fed numbers (feed_of check (receiver_at numbers body) first) →
        units ≡ (feed_of check (receiver_at numbers body) first).next.body →
        s ≡ first ++ rest →
        q ≡ receiver_at after units →
        t ≡ drop f.taken first ++ rest →
        fs ≡ handed_out f.answer units →
        Call r s q t fs
    -- `feed_from`: the same from a place of a block on
    feeds_from :
        (numbers body block rest after units : List ℕ) (at : ℕ) (x : Reached) →
        r ≡ receiver_at numbers body →
        x ≡ reached_of block at (feed_of check (receiver_at numbers body) (drop at block)) →
        after ≡ numbers_fed numbers (feed_of check (receiver_at numbers body) (drop at block)) →
        units ≡ (feed_of check (receiver_at numbers body) (drop at block)).next.body →
        s ≡ drop at block ++ rest →
        q ≡ receiver_at after units →
        t ≡ drop x.at block ++ rest →
        fs ≡ handed_out x.answer units →
        Call r s q t fs
    -- `push_u8` and `feed` of crates/lent_tallies: the tallies that count are lent, and what stands in the receiver beside them (own) counts for nothing
    pushes_lent :
        (own u : Tallies) (b : ℕ) (x : Stepped) →
        Pushed check r.tallies (lent_to r own) b x u →
        s ≡ b ∷ t →
        q ≡ lent_to x.next u →
        fs ≡ handed_out x.answer x.next.body →
        Call r s q t fs
    feeds_lent :
        (own u : Tallies) (first rest : List ℕ) (f : Fed) →
        FedWith check r.tallies (lent_to r own) first f u →
        s ≡ first ++ rest →
        q ≡ lent_to f.next u →
        t ≡ drop f.taken first ++ rest →
        fs ≡ frames_fed f →
        Call r s q t fs

  -- whether a call hands out the frames that it meets
  abbrev pub hands_out : {r q : Receiver} {s t : List ℕ} {fs : List Frame} → Call r s q t fs → Bool
  hands_out (pushes b x e f g h) = true
  hands_out (feeds first rest f d e g h i) = true
  hands_out (absorbs first x d e f g) = false
  hands_out (feeds_in numbers body first rest after units f a b c d e g h i) = true
  hands_out (feeds_from numbers body block rest after units at x a b c d e g h i) = true
  hands_out (pushes_lent own u b x p e f g) = true
  hands_out (feeds_lent own u first rest f p e g h i) = true

  -- A run: calls until the bytes are used up. It begins with a receiver and its bytes, and ends with a receiver and the frames handed out.
  pub data Hosted : Receiver → List ℕ → Receiver → List Frame → Type 0 where
    used_up : {r : Receiver} → Hosted r [] r []
    calls :
        {r p q : Receiver} {s t : List ℕ} {fs gs hs : List Frame} →
        Call r s p t fs →
        Hosted p t q gs →
        hs ≡ fs ++ gs →
        Hosted r s q hs

  -- whether every call of it hands its frames out
  abbrev pub handing : {r q : Receiver} {s : List ℕ} {fs : List Frame} → Hosted r s q fs → Bool
  handing used_up = true
  handing (calls c h e) = hands_out c && handing h
