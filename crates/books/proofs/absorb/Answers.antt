-- `books::absorb` is the drained run of its block, and so what the bytes before and the block lead to. Assumes nothing.
use borrow.Author.Rules.{rules}
use Rattle.crc.specs.Crc.{crc_of}
use Rattle.books.proofs.Kept.{absorbed}
use Rattle.books.proofs.absorb.Goals as goal

pub returns : goal.returns
returns c = absorbed crc_of _ _ _ (search rules)
