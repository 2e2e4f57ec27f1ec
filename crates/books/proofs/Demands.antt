-- THE DEMANDS, each closed by the work below it. What a reader needs beside this file: the grammar (reading/specs/Grammar.antt), its counts
-- (reading/specs/Counts.antt), the wire form (link/specs/Wire.antt), what a host's run is (link_feed/specs/Hosts.antt) and what it is to be
-- read back (books/specs/ReadBack.antt).
-- Everything is over any check; the CRC is put in where the code's contracts name `crc_of`. Assumes nothing.
use mathlib.Core.Path.{◌≡◌, sym, ◌∙◌, ap}
use Prim.Native.Nat.{ℕ, ◌+◌, ◌<◌, ◌^◌}
use mathlib.Core.Bool.{true}
use mathlib.Core.List.{List, [], ◌++◌}
use native.Mathlib.Omega.{arith}
use lib.ListN.{length, take}
use Rattle.laws.specs.Handed.{value}
use Rattle.address.specs.declared.Address.{Address}
use Rattle.link.specs.Wire.{Frame, encoded_of}
use Rattle.link.specs.Handed.{frame_for, encode_handed, encode_bytes}
use Rattle.reading.specs.Counters.{Counter}
use Rattle.reading.specs.Counters as k
use Rattle.reading.specs.Grammar.{Rules, present, Line, Piece, Reading, TheReading}
use Rattle.reading.specs.Counts.{out, left, open_in, count, sound_frames}
use Rattle.reading.proofs.Reader.{pieces_of}
use Rattle.reading.proofs.Once.{the-reading}
use Rattle.reading.proofs.Unique.{unique}
use Rattle.reading.proofs.Books.{balance, balance-since}
use Rattle.link_receive.specs.declared.Receiver.{Receiver}
use Rattle.link_receive.specs.Tally.{tally_of}
use Rattle.link_receive.specs.Step.{room, fresh_of, rules_of, Within, open_of}
use Rattle.link_receive.proofs.Rules.{rules_of-fresh, payload-fits}
use Rattle.link_feed.specs.Drain.{drain_of}
use Rattle.link_feed.specs.Hosts.{Hosted, handing}
use Rattle.link_feed.proofs.Drains.{rules_of-drain}
use Rattle.link_feed.proofs.Hosts.{hosted-drain, hosted-frames}
use Rattle.books.specs.Stands.{rest_at, Since, After}
use Rattle.books.specs.ReadBack.{ReadsBack}
use Rattle.books.proofs.Run.{since-more, frames-more, tallies-exact}
use Rattle.books.proofs.Fresh.{fresh-after, fresh-frames}
use Rattle.books.proofs.Ledgers.{tally-is, open_is}
use Rattle.books.proofs.ReadBack.{reads-back}
use Rattle.books.proofs.Wrote.{Wrote, encode-wrote}

-- DEMAND 3: the bytes divide in exactly one way by 01's grammar, at its limit and at any other
pub one-reading : (rules : Rules) (bs : List ℕ) → TheReading rules bs (pieces_of rules bs)
one-reading rules bs = the-reading rules bs

-- The rules of a fresh receiver, by which it reads, are 01's
pub fresh-rules : rules_of fresh_of ≡ present
fresh-rules = rules_of-fresh

module _ (check : List ℕ → ℕ) where
  -- A host's run from fresh over bytes bs, by whatever calls and in cuts of its own, fewer than 2^64 bytes and no reset: it ends with the
  -- receiver q, and fs are the frames handed out. Whatever reading ps of the bytes there is by its rules (there is one):
  module _ (bs : List ℕ) (q : Receiver) (fs : List Frame) (run : Hosted check fresh_of bs q fs) (few : length bs < 2 ^ 64) (ps : List Piece) (read : Reading (rules_of fresh_of) bs ps) where
    after : After check bs (drain_of check fresh_of bs)
    after = since-more check [] [] fresh_of (fresh-after check) bs

    same : after.pieces ≡ ps
    same = unique (rules_of fresh_of) bs after.pieces ps (rw (rules_of-drain check bs fresh_of) at after.reading.is) read

    ends : q ≡ drain_of check fresh_of bs
    ends = hosted-drain check run

    -- the frames handed out are the reading's sound frames, each once, in order, if every call hands out those that it meets
    pub frames-are : handing check run ≡ true → fs ≡ sound_frames check ps
    frames-are all =
        hosted-frames check run all
        ∙ sym (frames-more check [] [] fresh_of (fresh-after check) bs ps read ∙ rw (fresh-frames check))

    -- each of the eight tallies is its count of pieces
    pub tallies-are : (j : Counter) → tally_of j q.tallies ≡ count check j ps
    tallies-are j = ap (λ (r : Receiver). tally_of j r.tallies) ends ∙ tally-is check bs (drain_of check fresh_of bs) after few j ∙ ap (count check j) same

    -- a frame is open exactly if the reading leaves one open
    pub open-is-left : open_of q.state ≡ open_in (left ps)
    open-is-left = ap (λ (r : Receiver). open_of r.state) ends ∙ open_is check bs (drain_of check fresh_of bs) after few ∙ ap (λ (x : List Piece). open_in (left x)) same

    -- openings balance endings
    pub books-close : tally_of k.openings q.tallies ≡ tally_of k.frames q.tallies + tally_of k.runts q.tallies + tally_of k.checksums q.tallies + tally_of k.giants q.tallies + tally_of k.escaped q.tallies + tally_of k.broken q.tallies + open_of q.state
    books-close =
        rw (tallies-are k.openings, tallies-are k.frames, tallies-are k.runts, tallies-are k.checksums, tallies-are k.giants, tallies-are k.escaped, tallies-are k.broken, open-is-left)
        (balance (rules_of fresh_of) check bs ps read)

  -- After a reset (the bytes g before it, h since): the balance is off by the one frame that was open at the reset, if one was
  pub books-since-reset : (g h : List ℕ) (r : Receiver) (a : Since check g h r) → length (g ++ h) < 2 ^ 64
      → tally_of k.openings r.tallies + open_in (left a.before)
      ≡ tally_of k.frames r.tallies + tally_of k.runts r.tallies + tally_of k.checksums r.tallies + tally_of k.giants r.tallies + tally_of k.escaped r.tallies + tally_of k.broken r.tallies + open_in (rest_at r)
  books-since-reset g h r a few =
      rw (tallies-exact check g h r a few k.openings, tallies-exact check g h r a few k.frames, tallies-exact check g h r a few k.runts, tallies-exact check g h r a few k.checksums, tallies-exact check g h r a few k.giants, tallies-exact check g h r a few k.escaped, tallies-exact check g h r a few k.broken, a.stands)
      (balance-since (rules_of r) check g h a.before a.pieces a.reading_before.is a.reading.is)

  -- DEMAND 2, the read-back: what `encode` wrote, fed to any receiver that is Idle or in Noise and that 12 does not refuse, is handed out as
  -- exactly that one frame; all bytes are taken, the receiver ends Idle with an empty body, and openings and frames move by one each, no other
  -- tally. (`n` and the bytes are what `encode`'s contract says of its answer and its buffer. That a body has 256 bytes is its type.)
  pub read_back :
      (a : Address) (frame_type : ℕ) (payload out-bytes : List ℕ) (n : ℕ) → encode_handed check a frame_type payload (length out-bytes) ≡ value n
      → (r : Receiver) → Within r → length r.body ≡ room → (line : Line) → rest_at r ≡ out line
      → (take n (encode_bytes check a frame_type payload out-bytes) ≡ encoded_of check (frame_for a frame_type payload)) × ReadsBack check (frame_for a frame_type payload) r
  read_back a frame_type payload out-bytes n e r h l line outside =
      let w : Wrote check a frame_type payload out-bytes n = encode-wrote check a frame_type payload out-bytes n e in
      (w.bytes, reads-back check (frame_for a frame_type payload) w.good r (omega (arith, w.within, payload-fits r)) h l line outside)
