-- `escaping::escaped_length` refuses a long input, and else gives what `length_of` finds. Assumes nothing.
use borrow.Author.Tests.{lt-ltb, le-ltb}
use Rattle.escaping.specs.Handed.{length_handed}
use Rattle.escaping.proofs.escaped_length.Goals as goal

pub returns-then-input-gt-INPUT_LIMIT : goal.returns-then-input-gt-INPUT_LIMIT
unfolding length_handed
returns-then-input-gt-INPUT_LIMIT c = rw (lt-ltb _ _ c.if-input-gt-INPUT_LIMIT.true)

pub returns : goal.returns
unfolding length_handed
returns c = rw (le-ltb _ _ c.if-input-gt-INPUT_LIMIT.false, c.length_of.ensures)
