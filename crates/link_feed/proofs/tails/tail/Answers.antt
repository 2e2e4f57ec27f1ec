-- `link_feed::tails::tail` skips what does not end a tail, then 07 or 08 that ends no pair and some units more, and so on: each time feeding on from
-- there is feeding from where it began. Assumes nothing.
use Rattle.std.proofs.Common.{◌≡◌, ℕ, ◌+◌, ◌-◌, Bool, false, List, length, drop, sym, ◌∙◌, arith}
use Rattle.crc.specs.Crc.{crc_of}
use Rattle.link_receive.specs.Step.{fresh_of}
use Rattle.byte_runs.specs.Runs.{is_of, lead}
use Rattle.byte_runs.specs.declared.Sort.TheVariants as sort
use Rattle.link_feed.specs.Advance.{half_at, Skipped}
use Rattle.link_feed.proofs.Skips.{skipped-then, tail-inside, tail-half, tail-whole, tail-past}
use Rattle.link_feed.proofs.tails.tail.Goals as goal

-- the place behind the byte that ends the run
past :
    (s : List ℕ) (i₀ i m : ℕ) → Skipped crc_of fresh_of s i₀ i → m ≡ lead (is_of sort.Calm) (drop i s) → (h : Bool) → h ≡ half_at s i (i + m - i) → h ≡ false → (i + m ≡ length s → ⊥) →
    Skipped crc_of fresh_of s i₀ (i + m + 1)
past s i₀ i m k e h f g n = tail-past crc_of fresh_of s i₀ i m k e (sym f ∙ g) (omega (arith, tail-inside crc_of fresh_of s i₀ i k m e, n))

pub overflow_add-j : goal.overflow_add-j
overflow_add-j c = let l = c.loop-i in omega (arith, tail-inside crc_of _ _ _ l.i l.invariant c.run-k.result c.run-k.ensures)

pub half-requires : goal.half-requires
half-requires c = let l = c.loop-i in (omega arith, tail-inside crc_of _ _ _ l.i l.invariant c.run-k.result c.run-k.ensures)

pub returns-then-half : goal.returns-then-half
returns-then-half c = let l = c.loop-i in
    let run = c.run-k in
    (tail-half crc_of _ _ _ l.i l.invariant run.result run.ensures (sym c.half.ensures ∙ c.if-half.true)).1

pub returns-then-j-s : goal.returns-then-j-s
returns-then-j-s c = let l = c.loop-i in
    let run = c.run-k in
    tail-whole crc_of _ _ _ l.i l.invariant run.result run.ensures (sym c.half.ensures ∙ c.if-half.false)

pub overflow_add-next : goal.overflow_add-next
overflow_add-next c = let l = c.loop-i in
    let run = c.run-k in
    omega (arith, tail-inside crc_of _ _ _ l.i l.invariant run.result run.ensures, c.if-j-s.false)

pub end_of-end-requires : goal.end_of-end-requires
end_of-end-requires c = (past c.args.s.now c.args.i0 c.loop-i.i c.run-k.result c.loop-i.invariant c.run-k.ensures c.half.result c.half.ensures c.if-half.false c.if-j-s.false).inside

pub loop-i-preserved : goal.loop-i-preserved
loop-i-preserved c = skipped-then crc_of fresh_of _ _ _ _ (past c.args.s.now c.args.i0 c.loop-i.i c.run-k.result c.loop-i.invariant c.run-k.ensures c.half.result c.half.ensures c.if-half.false c.if-j-s.false) c.few-i.ensures

pub returns-then-i-end : goal.returns-then-i-end
returns-then-i-end c = skipped-then crc_of fresh_of _ _ _ _ (past c.args.s.now c.args.i0 c.loop-i.i c.run-k.result c.loop-i.invariant c.run-k.ensures c.half.result c.half.ensures c.if-half.false c.if-j-s.false) c.few-i.ensures
