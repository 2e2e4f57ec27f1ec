-- `link_feed::outside::few` takes a byte, or a pair that opens nothing, at a time: each time feeding on from there, with the noises counted, is feeding from where it began.
-- Assumes nothing.
use Rattle.std.proofs.Common.{◌+◌, true, not, ap, arith}
use Rattle.crc.specs.Crc.{crc_of}
use Rattle.link_receive.specs.Step.{fresh_of}
use Rattle.link_feed.specs.Advance.{begins_of}
use Rattle.link_feed.proofs.Skips.{raw-other}
use Rattle.link_feed.proofs.Passes.{heard, passed_then, passed-byte, passed-pair}
use Rattle.link_feed.proofs.outside.few.Goals as goal

pub loop-i-preserved-then-b-eq126 : goal.loop-i-preserved-then-b-eq126
loop-i-preserved-then-b-eq126 c = let a = c.args in
    let l = c.loop-i in
    passed_then crc_of fresh_of a.s.now a.noisy0 a.i0 (heard l.noisy l.count l.i) (heard true 1 (l.i + 2)) l.invariant (passed-pair crc_of fresh_of a.s.now l.noisy l.i (omega arith) c.if-b-eq126.true c.if-s-i-eq7.false)

pub loop-i-preserved : goal.loop-i-preserved
loop-i-preserved c = let a = c.args in
    let l = c.loop-i in
    let busy = not c.is-busy.result in
    rw c.begins-count.ensures.0
    (passed_then crc_of fresh_of a.s.now a.noisy0 a.i0 (heard l.noisy l.count l.i) (heard busy (begins_of l.noisy busy) (l.i + 1)) l.invariant (passed-byte crc_of fresh_of a.s.now l.noisy l.i (omega arith) (raw-other _ c.if-b-eq126.false) busy (ap not c.is-busy.ensures)))
