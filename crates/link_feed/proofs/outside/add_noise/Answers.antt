-- `link_feed::outside::add_noise` adds to the number that is the noise's. Assumes nothing.
use Rattle.link_feed.proofs.Lent.{tallies_at-noised}
use Rattle.std.proofs.Common.{rules}
use Rattle.link_feed.proofs.outside.add_noise.Goals as goal

pub returns : goal.returns
returns c = let a = c.args in
    rw c.index_of-i.ensures.0 (tallies_at-noised a.tallies.now a.count (search rules) (search rules))
