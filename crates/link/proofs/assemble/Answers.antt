-- `link::assemble` copies head, payload and check in, each behind the other, and the check is of what stands before it. Assumes nothing.
use native.Mathlib.Omega.{arith}
use Rattle.address.proofs.Laws.{number_of-address_of}
use Rattle.crc.specs.Crc.{crc_of}
use Rattle.link.specs.Wire.{frame_at}
use Rattle.link.proofs.Writes.{assembled}
use Rattle.link.proofs.assemble.Goals as goal

pub returns : goal.returns
returns c = let a = c.args in
    assembled crc_of (frame_at a.number a.frame_type a.payload.now) a.number a.body.now _ _ _ _ _ _ _ _ _ _
    (omega arith)
    (number_of-address_of a.number)
    c.high.ensures
    c.low.ensures
    c.high-2.ensures
    c.low-2.ensures
    c.copy_in.ensures
    c.copy_in-2.ensures
    c.crc-check.ensures
    c.low-3.ensures
    c.high-3.ensures
    c.copy_in-3.ensures
