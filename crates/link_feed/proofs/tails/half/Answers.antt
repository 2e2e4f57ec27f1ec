-- `link_feed::tails::half` goes back over the 7e before j: each turns over whether a pair is begun, and where none stands no pair is. Assumes nothing.
use Rattle.std.proofs.Common.{◌∙◌, arith}
use Rattle.link_feed.proofs.Skips.{half-turned}
use Rattle.link_feed.proofs.tails.half.Goals as goal

pub loop-q-preserved : goal.loop-q-preserved
loop-q-preserved c = let a = c.args in
    let l = c.loop-q in
    let h = c.loop-q-test.true in
    (omega arith, omega arith, l.invariant.2 ∙ half-turned a.s.now a.i l.q h l.odd c.if-s-q-ne126.false)
