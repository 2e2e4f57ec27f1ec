-- `escaping::write_escaped` writes exactly the escaped form: after each turn, that of the part of the input passed is laid over `out`. Assumes nothing.
use Prim.Native.Nat.{◌-◌}
use lib.ListN.{length}
use Rattle.escaping.proofs.Writes.{Laid}
use Rattle.escaping.proofs.write_escaped.Given as goal

abbrev pub invariant-loop-i : goal.invariant-loop-i
invariant-loop-i l = Laid l.input l.initial.out l.out l.i l.k

abbrev pub decreases-loop-i : goal.decreases-loop-i
decreases-loop-i l = length l.input - l.i
