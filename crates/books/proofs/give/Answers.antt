-- `books::give` is one feeding, and a feeding is the run of the bytes that it takes. Assumes nothing.
use borrow.Author.Rules.{rules}
use Rattle.crc.specs.Crc.{crc_of}
use Rattle.books.proofs.Kept.{gave}
use Rattle.books.proofs.give.Goals as goal

pub returns : goal.returns
returns c = gave crc_of _ _ _ (search rules)
