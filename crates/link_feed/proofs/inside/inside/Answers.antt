-- `link_feed::inside::inside` takes the units of a frame, and the pair that closes or breaks it. Assumes nothing.
use Rattle.std.proofs.Common.{refl, ap, ◌∙◌, arith}
use Rattle.crc.specs.Crc.{crc_of}
use Rattle.reading.specs.Counters as k
use Rattle.link_receive.specs.declared.State.TheVariants.{FrameEscape}
use Rattle.link_receive.specs.Tally.{raise}
use Rattle.link_receive.specs.Step.{fresh_of, rules_of}
use Rattle.link_receive.specs.Numbered.{tallies_at}
use Rattle.link_feed.proofs.Onwards.{stretched-closer, stretched-breaker}
use Rattle.link_feed.proofs.inside.inside.Goals as goal

pub returns-then-code-eq8 : goal.returns-then-code-eq8
returns-then-code-eq8 c = let a = c.args in
    let u = c.units-p in
    let p = u.ensures.coded _ c.in-Some.is in
    stretched-closer crc_of a.s.now fresh_of a.body.now a.len (tallies_at a.tallies.now) a.i u.new.body u.result u.ensures _ _ _ p.1 c.if-code-eq8.true (omega arith) (c.close-frame.ensures FrameEscape) refl

pub returns-then-p-le-MAX_FRAME_SIZE : goal.returns-then-p-le-MAX_FRAME_SIZE
returns-then-p-le-MAX_FRAME_SIZE c = let a = c.args in
    let u = c.units-p in
    let p = u.ensures.coded _ c.in-Some.is in
    stretched-breaker crc_of a.s.now fresh_of a.body.now a.len (tallies_at a.tallies.now) a.i u.new.body u.result u.ensures _ _ p.1 p.0 c.if-code-eq8.false (c.raise-then-p-le-MAX_FRAME_SIZE.ensures ∙ ap (raise k.noise) c.raise.ensures)

-- no frame has more units than the limit
pub returns-else-p-le-MAX_FRAME_SIZE : goal.returns-else-p-le-MAX_FRAME_SIZE
unfolding rules_of
returns-else-p-le-MAX_FRAME_SIZE c = absurd (omega (arith, c.units-p.ensures.within, c.if-p-le-MAX_FRAME_SIZE.false))
