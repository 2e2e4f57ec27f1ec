-- `escaping::length_of` counts the bytes of the seven, each of which takes one byte more. Assumes nothing.
use borrow.Author.Rules.{rules}
use Rattle.escaping.proofs.Lengths.{length-escaped-count}
use Rattle.escaping.proofs.length_of.Goals as goal

pub returns : goal.returns
returns c = rw length-escaped-count (search rules)
