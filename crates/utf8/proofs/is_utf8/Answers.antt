-- `utf8::is_utf8` is true exactly of UTF-8: what the pass says of the bytes left, from what it carries, is what it says of all of them, and the pass
-- accepts what the grammar divides into characters. Assumes nothing.
use mathlib.Core.Path.{◌≡◌, ◌∙◌}
use mathlib.Core.Bool.{false}
use native.Mathlib.Numerals.{add-one}
use borrow.Author.Rules.{rules}
use Rattle.utf8.specs.Scan.{between, passes}
use Rattle.utf8.proofs.Laws.{passes-utf8, passes-cons, passes-end}
use Rattle.utf8.proofs.is_utf8.Goals as goal

pub returns-in-None : goal.returns-in-None
returns-in-None c = let s = c.args.s.now in
    let e : passes between s ≡ false = c.loop-b.invariant ∙ passes-cons c.loop-b.w s c.loop-b.b-index (search rules) ∙ rw (← c.step.ensures, c.in-None.is) in
    rw (← e) (passes-utf8 s)

pub loop-b-preserved : goal.loop-b-preserved
loop-b-preserved c = c.loop-b.invariant ∙ passes-cons c.loop-b.w c.args.s.now c.loop-b.b-index (search rules) ∙ rw (← c.step.ensures, c.in-Some.is, add-one)

pub returns : goal.returns
returns c = let s = c.args.s.now in
    rw (← passes-end c.loop-b.w s c.loop-b.b-index (search rules), ← c.loop-b.invariant) (passes-utf8 s)
