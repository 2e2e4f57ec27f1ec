-- `byte_runs::noisy_at` reads the mark in the byte at k. Assumes nothing.
use borrow.Author.Rules.{rules}
use Rattle.byte_runs.proofs.NoiseLaws.{noisy-at}
use Rattle.byte_runs.proofs.noisy_at.Goals as goal

pub returns : goal.returns
returns c = noisy-at c.args.was c.args.k (search rules)
