-- `byte_runs::one_noise` is one for a byte other than 00 and ff on a line that is not noisy. Assumes nothing.
use mathlib.Core.Logic.{inl, inr}
use Rattle.byte_runs.specs.Noises.{noises_of}
use Rattle.byte_runs.proofs.one_noise.Goals as goal

pub returns-then-noisy : goal.returns-then-noisy
unfolding noises_of
returns-then-noisy c = elim c.if-noisy.either [ inl e ↦ rw (← c.is_idle.ensures, e) | inr e ↦ rw (← c.is_idle.ensures, e.0, e.1) ]

pub returns-else-noisy : goal.returns-else-noisy
unfolding noises_of
returns-else-noisy c = rw (← c.is_idle.ensures, c.if-noisy.false.0, c.if-noisy.false.1)
