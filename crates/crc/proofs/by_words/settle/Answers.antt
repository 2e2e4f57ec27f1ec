-- `crc::by_words::settle` is the 64 bits of a word: it respects exclusive or, and is right at the powers of two. Assumes nothing.
use borrow.Author.Rules.{rules}
use Rattle.crc.proofs.Wide.{crc_bits-settled}
use Rattle.crc.proofs.by_words.settle.Goals as goal

pub returns : goal.returns
returns c = crc_bits-settled c.args.x (search rules)
