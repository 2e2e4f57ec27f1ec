-- `crc::by_words::crc_four` is the check of four bytes: zeros before their number change nothing. Assumes nothing.
use mathlib.Core.Path.{◌∙◌}
use borrow.Author.Rules.{rules}
use Rattle.crc.proofs.Words.{crc_from-half}
use Rattle.crc.proofs.by_words.crc_four.Goals as goal

pub returns : goal.returns
returns c = let a = c.args in
    c.settle.ensures
    ∙ crc_from-half a.b.now (λ k. (c.type_inv.b k).fits) a.start c.half_at.result (search rules) (search rules) c.half_at.ensures.0 c.half_at.ensures.1
