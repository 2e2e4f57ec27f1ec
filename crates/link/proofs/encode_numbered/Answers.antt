-- `link::encode_numbered` assembles the body in an array of its own, and writes the part that is filled. Assumes nothing.
use lib.ListN.{replicate}
use borrow.Author.Tests.{lt-ltb, le-ltb}
use Rattle.address.proofs.Laws.{number_of-address_of}
use Rattle.crc.specs.Crc.{crc_of}
use Rattle.link.specs.Wire.{Frame, frame_at, encoded_of}
use Rattle.link.specs.Handed.{numbered_handed, numbered_bytes}
use Rattle.link.proofs.Body.{body-taken}
use Rattle.link.proofs.encode_numbered.Goals as goal

pub returns-then-n-gt-PAYLOAD_LIMIT : goal.returns-then-n-gt-PAYLOAD_LIMIT
unfolding numbered_handed numbered_bytes
returns-then-n-gt-PAYLOAD_LIMIT c = let e = lt-ltb _ _ c.if-n-gt-PAYLOAD_LIMIT.true in record { answer = rw e; bytes = rw e }

pub returns : goal.returns
unfolding numbered_handed numbered_bytes encoded_of
returns c = let a = c.args in
    let f : Frame = frame_at a.number a.frame_type a.payload.now in
    let e = le-ltb _ _ c.if-n-gt-PAYLOAD_LIMIT.false in
    let b = body-taken crc_of f _ (replicate 256 0) c.assemble.ensures in
    record { answer = rw (e, ← b, number_of-address_of a.number) c.write_body.ensures.answer; bytes = rw (e, ← b, number_of-address_of a.number) c.write_body.ensures.bytes }
