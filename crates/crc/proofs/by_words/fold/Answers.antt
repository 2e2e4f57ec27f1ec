-- `crc::by_words::fold` is 64 bits more of a word: it respects exclusive or, and is right at the powers of two. Assumes nothing.
use borrow.Author.Rules.{rules}
use Rattle.crc.proofs.Wide.{crc_bits-folded}
use Rattle.crc.proofs.by_words.fold.Goals as goal

pub returns : goal.returns
returns c = crc_bits-folded c.args.x (search rules)
