-- `Receiver::reset_counters` is right in 01's words: over the tables that the arrays mean. Assumes nothing.
use borrow.Author.Rules.{rules}
use Rattle.transport_receiver.specs.Lent.{reset_in}
use Rattle.transport_receiver.proofs.Refines.{reset_means}
use Rattle.transport_receiver.proofs.Receiver.reset_counters.Goals as goal

pub returns-clause-means : goal.returns-clause-means
unfolding reset_in
returns-clause-means c = reset_means _ c.args.self.now (search rules)
