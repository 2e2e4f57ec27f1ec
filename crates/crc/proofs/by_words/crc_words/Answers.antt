-- `crc::by_words::crc_words` is the check of eight bytes or more: the word in hand comes to the check of what was read, and the tail to the rest. Assumes nothing.
use Prim.Native.Nat.{ℕ, ◌+◌, ◌*◌}
use mathlib.Core.Path.{◌≡◌, ap, ◌∙◌}
use native.Mathlib.Omega.{arith}
use lib.ListN.{length, take}
use borrow.Author.Rules.{rules}
use Rattle.crc.specs.Crc.{crc_bits, crc_from}
use Rattle.crc.proofs.Words.{crc_from-begun, crc_from-turn, crc_from-whole, chunk-word, chunks-end}
use Rattle.crc.proofs.by_words.crc_words.Goals as goal

pub loop-chunk-init : goal.loop-chunk-init
loop-chunk-init c = let a = c.args in
    crc_from-begun a.b.now (λ k. (c.type_inv.b k).fits) a.start c.word_at.result (search rules) c.word_at.ensures

pub loop-chunk-preserved : goal.loop-chunk-preserved
loop-chunk-preserved c = let a = c.args in
    let b = a.b.now in
    let l = c.loop-chunk in
    let i = l.chunk-index in
    let h = chunk-word b c.as_chunks.result.0.now 1 i c.word.result _ c.as_chunks.ensures.front c.as_chunks.ensures.front_len c.loop-chunk-test.true c.word.ensures in
    let e : (1 + i) * 8 + 8 ≡ (1 + (i + 1)) * 8 = omega arith in
    crc_from-turn b (λ k. (c.type_inv.b k).fits) ((1 + i) * 8) a.start l.x c.fold.result c.word.result h.0 l.invariant c.fold.ensures h.1
    ∙ ap (λ (n : ℕ). crc_from a.start (take n b)) e

pub returns : goal.returns
returns c = let a = c.args in
    let l = c.loop-chunk in
    let e = chunks-end c.as_chunks.result.0.now 1 l.chunk-index (omega (arith, c.as_chunks.ensures.front_len)) l.auto.chunk-index-end c.loop-chunk-test.false in
    c.settle.ensures ∙ c.tail.ensures
    ∙ crc_from-whole a.b.now (8 * length c.as_chunks.result.0.now) a.start (crc_bits 64 l.x) (l.invariant ∙ ap (λ (n : ℕ). crc_from a.start (take n a.b.now)) e)
