-- `byte_runs::copy_run` copies a run: what was passed is of the sort and was laid, and it stops at the first mark of a word, at a byte that is not, at the
-- end, or where there is no more room. Assumes nothing.
use Prim.Native.Nat.{◌+◌, ◌*◌}
use mathlib.Core.Path.{◌≡◌}
use lib.ListN.{length}
use Rattle.byte_runs.specs.Runs.{is_of, All, laid}
use Rattle.byte_runs.proofs.copy_run.Given as goal

abbrev pub invariant-loop-k : goal.invariant-loop-k
invariant-loop-k l = All (is_of l.sort) l.s l.i (8 * l.k) × (l.d ≡ laid l.initial.d l.l l.s l.i (8 * l.k)) × (length l.d ≡ length l.initial.d)

abbrev pub invariant-loop-k-2 : goal.invariant-loop-k-2
invariant-loop-k-2 l = All (is_of l.sort) l.s l.i (l.m + l.k) × (l.d ≡ laid l.initial.d (l.l + l.m) l.s (l.i + l.m) l.k) × (length l.d ≡ length l.initial.d)
