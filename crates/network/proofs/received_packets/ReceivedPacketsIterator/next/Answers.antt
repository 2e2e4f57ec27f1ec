-- `next` brings the walker nearer to the end of its area. Assumes nothing.
use Rattle.std.proofs.Common.{rules}
use Rattle.network.proofs.Walker.{next-nearer}
use Rattle.network.proofs.received_packets.ReceivedPacketsIterator.next.Goals as goal

pub returns-clause-steps : goal.returns-clause-steps
returns-clause-steps c = search rules

pub returns-clause-goes : goal.returns-clause-goes
returns-clause-goes c = record { on = λ _. (tt, tt, next-nearer _ _ _ (returns-clause-steps c)); keeps = tt; rests = λ _. tt }
