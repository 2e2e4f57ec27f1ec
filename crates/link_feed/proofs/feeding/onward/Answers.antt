-- `link_feed::feeding::onward` stops behind a frame's end, or else takes one byte more. Assumes nothing.
use Rattle.std.proofs.Common.{arith}
use Rattle.link_receive.specs.Step.{rules_of}
use Rattle.link_feed.proofs.feeding.onward.Goals as goal

pub single-requires : goal.single-requires
unfolding rules_of
single-requires c = let x = c.stretch-a in
    (x.ensures.within, omega (arith, x.ensures.inside, c.if-a-s.false))
