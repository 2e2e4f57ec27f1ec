-- `link_feed::outside::quiet` takes a run by words and some bytes one by one, and so on: each time feeding on from there, with the noises counted, is feeding from where
-- it began. Assumes nothing.
use Rattle.std.proofs.Common.{◌+◌}
use Rattle.crc.specs.Crc.{crc_of}
use Rattle.link_receive.specs.Step.{fresh_of}
use Rattle.link_feed.proofs.Passes.{heard, passed_then}
use Rattle.link_feed.proofs.outside.quiet.Goals as goal

pub loop-i-preserved : goal.loop-i-preserved
loop-i-preserved c = let a = c.args in
    let l = c.loop-i in
    let h = c.words-h.result in
    passed_then crc_of fresh_of a.s.now a.noisy0 a.i0 (heard h.noisy (l.count + h.count) h.at) c.few-q.result (passed_then crc_of fresh_of a.s.now a.noisy0 a.i0 (heard l.noisy l.count l.i) h l.invariant c.words-h.ensures) c.few-q.ensures.0

pub returns-then-i-end : goal.returns-then-i-end
returns-then-i-end c = let a = c.args in
    let l = c.loop-i in
    let h = c.words-h.result in
    (passed_then crc_of fresh_of a.s.now a.noisy0 a.i0 (heard h.noisy (l.count + h.count) h.at) c.few-q.result (passed_then crc_of fresh_of a.s.now a.noisy0 a.i0 (heard l.noisy l.count l.i) h l.invariant c.words-h.ensures) c.few-q.ensures.0, c.few-q.ensures.1 c.if-i-end.true)
