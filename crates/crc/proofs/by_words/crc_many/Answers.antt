-- `crc::by_words::crc_many` is the check of 32 bytes or more: the four words in hand come to the check of what was read. Assumes nothing.
use Prim.Native.Nat.{ℕ, ◌+◌, ◌*◌}
use mathlib.Core.Path.{◌≡◌, ap, ◌∙◌}
use native.Mathlib.Omega.{arith}
use lib.ListN.{length, take}
use borrow.Author.Rules.{rules}
use Rattle.crc.specs.Crc.{crc_bits, crc_from}
use Rattle.crc.proofs.Words.{crc_from-four, crc_from-pass, crc_from-whole, chunk-word, chunks-end}
use Rattle.crc.proofs.by_words.crc_many.Goals as goal

pub loop-chunk-init : goal.loop-chunk-init
loop-chunk-init c = let a = c.args in
    let t = c.word_at in
    let u = c.word_at-u in
    let v = c.word_at-v in
    let w = c.word_at-w in
    crc_from-four a.b.now (λ k. (c.type_inv.b k).fits) a.start t.result u.result v.result w.result (search rules) t.ensures u.ensures v.ensures w.ensures

pub loop-chunk-preserved : goal.loop-chunk-preserved
loop-chunk-preserved c = let a = c.args in
    let b = a.b.now in
    let l = c.loop-chunk in
    let x = c.whole-x in
    let i = l.chunk-index in
    let h = chunk-word b c.as_chunks.result.0.now 4 i c.word.result _ c.as_chunks.ensures.front c.as_chunks.ensures.front_len c.loop-chunk-test.true c.word.ensures in
    let e : (4 + i) * 8 + 8 ≡ (4 + (i + 1)) * 8 = omega arith in
    crc_from-pass b (λ k. (c.type_inv.b k).fits) ((4 + i) * 8) a.start l.t x.result l.u l.v l.w c.word.result h.0 x.ensures.1 x.ensures.0 l.invariant h.1
    ∙ ap (λ (n : ℕ). crc_from a.start (take n b)) e

pub returns : goal.returns
returns c = let a = c.args in
    let l = c.loop-chunk in
    let j = c.joined in
    let e = chunks-end c.as_chunks.result.0.now 4 l.chunk-index (omega (arith, c.as_chunks.ensures.front_len)) l.auto.chunk-index-end c.loop-chunk-test.false in
    c.settle.ensures ∙ c.tail.ensures
    ∙ crc_from-whole a.b.now (8 * length c.as_chunks.result.0.now) a.start (crc_bits 64 j.result) (j.ensures ∙ l.invariant ∙ ap (λ (n : ℕ). crc_from a.start (take n a.b.now)) e)
