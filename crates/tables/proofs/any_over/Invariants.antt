-- `tables::any_over` is right: the flag is what the lengths so far give. Assumes nothing.
use mathlib.Core.Path.{◌≡◌}
use lib.ListN.{take}
use lib.Dec.{ltb}
use Rattle.std.specs.List.{list_any}
use Rattle.tables.proofs.any_over.Given as goal

abbrev pub invariant-loop-n : goal.invariant-loop-n
invariant-loop-n l = l.found ≡ list_any (λ n. ltb l.limit n) (take l.n-index l.lengths)
