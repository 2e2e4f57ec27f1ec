-- `byte_runs::noises` hears a word at a time: all its bytes where none is 7e, and else those before the first; and behind the last word byte by byte, up
-- to a 7e or to the end. Assumes nothing.
use Prim.Native.Nat.{◌+◌, ◌*◌}
use Rattle.byte_runs.specs.Noises.{Noised}
use Rattle.byte_runs.proofs.NoiseLaws.{heard, Hears}
use Rattle.byte_runs.proofs.noises.Given as goal

abbrev pub invariant-loop-k : goal.invariant-loop-k
invariant-loop-k l = Hears l.noisy l.s l.i l.before l.count (l.i + 8 * l.k)

abbrev pub invariant-loop-k-2 : goal.invariant-loop-k-2
invariant-loop-k-2 l = Noised l.noisy l.s l.i (heard l.noise l.count (l.at + l.k))
