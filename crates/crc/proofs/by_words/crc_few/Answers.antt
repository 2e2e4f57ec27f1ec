-- `crc::by_words::crc_few` is the check of four to seven bytes: the first four and what the last four have beyond them are the number of them all,
-- and zeros before it change nothing. Assumes nothing.
use Prim.Native.Nat.{◌-◌}
use mathlib.Core.Path.{◌∙◌}
use native.Mathlib.Omega.{arith}
use lib.ListN.{length}
use borrow.Author.Rules.{rules}
use Rattle.crc.proofs.Words.{crc_from-few}
use Rattle.crc.proofs.by_words.crc_few.Goals as goal

pub returns : goal.returns
returns c = let a = c.args in
    let b = a.b.now in
    let n = length b in
    c.settle.ensures
    ∙ crc_from-few b (λ k. (c.type_inv.b k).fits) (n - 4) (8 - n) a.start c.half_at-2.result c.half_at.result (omega arith) (omega arith) (search rules) c.half_at-2.ensures.0 c.half_at.ensures.0
