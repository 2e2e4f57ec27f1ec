-- `utf8::is_utf8` is true exactly of UTF-8: what the pass says of the bytes left, from what it carries, is what it says of all of them, and the pass
-- accepts what the grammar divides into characters. Assumes nothing.
use mathlib.Core.Path.{◌≡◌}
use lib.ListN.{drop}
use Rattle.utf8.specs.Scan.{between, passes}
use Rattle.utf8.proofs.is_utf8.Given as goal

abbrev pub invariant-loop-b : goal.invariant-loop-b
invariant-loop-b l = passes between l.s ≡ passes l.w (drop l.b-index l.s)
