-- `tables::any_over` is right: the flag is what the lengths so far give. Assumes nothing.
use mathlib.Core.Path.{ap, ◌∙◌}
use lib.Dec.{ltb}
use lib.Seq.{take_all}
use Rattle.std.specs.List.{list_any}
use Rattle.tables.proofs.Laws.{any-list}
use Rattle.tables.proofs.any_over.Goals as goal

pub returns : goal.returns
returns c =
    let a = c.args in
    rw (any-list a.lengths.now a.limit) (c.loop-n.invariant ∙ ap (list_any (λ n. ltb a.limit n)) (take_all c.loop-n.n-index a.lengths.now c.loop-n-test.false))
