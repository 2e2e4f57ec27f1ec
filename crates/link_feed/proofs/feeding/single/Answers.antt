-- `link_feed::feeding::single` takes one byte. Assumes nothing.
use Rattle.std.proofs.Common.{rules}
use Rattle.crc.specs.Crc.{crc_of}
use Rattle.link_receive.specs.Step.{rules_of}
use Rattle.link_feed.specs.Advance.{held_of}
use Rattle.link_feed.proofs.Onwards.{onward-one}
use Rattle.link_feed.proofs.feeding.single.Goals as goal

pub returns : goal.returns
unfolding rules_of
returns c = let a = c.args in
    onward-one crc_of a.s.now (held_of a.state a.body.now a.len a.tallies.now) _ _ a.i (search rules) c.requires.0 c.one-x.ensures.1 c.one-x.ensures.0
