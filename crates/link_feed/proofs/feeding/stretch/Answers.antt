-- `link_feed::feeding::stretch` goes on inside a frame and in a tail. Assumes nothing.
use Rattle.std.proofs.Common.{rules}
use Rattle.crc.specs.Crc.{crc_of}
use Rattle.link_receive.specs.Step.{fresh_of, rules_of}
use Rattle.link_receive.specs.Numbered.{tallies_at}
use Rattle.link_feed.specs.Advance.{held_of}
use Rattle.link_feed.proofs.Onwards.{stretched-tail, stretched-none}
use Rattle.link_feed.proofs.feeding.stretch.Goals as goal

pub returns-in-Giant : goal.returns-in-Giant
returns-in-Giant c = let a = c.args in
    rw c.in-Giant.is (stretched-tail crc_of a.s.now fresh_of a.body.now a.len (tallies_at a.tallies.now) a.i c.tail-at.result c.requires.0 c.tail-at.ensures)

pub returns-in_default : goal.returns-in_default
unfolding rules_of
returns-in_default c = let a = c.args in
    stretched-none crc_of a.s.now (held_of a.state a.body.now a.len a.tallies.now) a.i (search rules) c.requires.0 c.requires.2
