-- `crc::by_words::tail` takes the last bytes in: the word's low bits go through and its high ones move down, and the bytes stand above them. Assumes nothing.
use Prim.Native.Nat.{◌-◌}
use native.Mathlib.Omega.{arith}
use lib.ListN.{length}
use Rattle.crc.proofs.Words.{crc_from-tail}
use Rattle.crc.proofs.by_words.tail.Goals as goal

pub returns : goal.returns
returns c = let a = c.args in
    let b = a.b.now in
    let n = length b in
    let r = n - a.i in
    crc_from-tail b (λ k. (c.type_inv.b k).fits) r (8 - r) a.i (n - 8) a.x c.fold.result c.word_at.result (omega arith) (omega arith) (omega arith) c.word_at.ensures c.fold.ensures
