-- `byte_runs::run` counts a run: what was passed is of the sort, and it stops at the first mark of a word, or at a byte that is not, or at the end.
-- Assumes nothing.
use Prim.Native.Nat.{◌*◌}
use Rattle.byte_runs.specs.Runs.{is_of, All}
use Rattle.byte_runs.proofs.run.Given as goal

abbrev pub invariant-loop-k : goal.invariant-loop-k
invariant-loop-k l = All (is_of l.sort) l.s l.i (8 * l.k)
