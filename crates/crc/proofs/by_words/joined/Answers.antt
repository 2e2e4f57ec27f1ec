-- `crc::by_words::joined` makes four words one: each of the first two is passed on to the two after it, and the third is folded. Assumes nothing.
use borrow.Author.Rules.{rules}
use Rattle.crc.proofs.Passing.{crc_words-joined}
use Rattle.crc.proofs.by_words.joined.Goals as goal

pub returns : goal.returns
returns c = let a = c.args in
    crc_words-joined a.a a.b a.c a.d c.fold.result (search rules) (search rules) c.fold.ensures
