-- `link_feed::feeding::raise` raises the number at the tally's index. Assumes nothing.
use Rattle.std.proofs.Common.{rules}
use Rattle.link_feed.proofs.Lent.{tallies_at-raise}
use Rattle.link_feed.proofs.feeding.raise.Goals as goal

pub returns : goal.returns
returns c = let a = c.args in
    rw c.index_of-i.ensures.0 (tallies_at-raise a.tallies.now a.tally (search rules))
