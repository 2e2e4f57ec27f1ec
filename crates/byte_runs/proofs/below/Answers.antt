-- `byte_runs::below` gives all bits below the first mark's byte: the word and the one before it differ up to that byte. Assumes nothing.
use borrow.Author.Rules.{rules}
use Rattle.byte_runs.proofs.Marks.{below-first}
use Rattle.byte_runs.proofs.below.Goals as goal

pub returns : goal.returns
returns c = below-first c.args.z (search rules)
