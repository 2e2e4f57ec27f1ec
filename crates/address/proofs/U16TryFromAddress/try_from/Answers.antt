-- `u16::try_from` of an address refuses an ID above 7fff, and else adds the direction bit. Assumes nothing.
use mathlib.Core.Path.{ap, ◌∙◌}
use Prim.Native.Nat.{ℕ, ◌+◌}
use borrow.Author.Tests.{lt-ltb, le-ltb}
use Rattle.laws.specs.Handed.{value}
use Rattle.address.specs.Handed.{number_handed}
use Rattle.address.proofs.U16TryFromAddress.try_from.Goals as goal

pub returns-then-id-gt-ID_LIMIT : goal.returns-then-id-gt-ID_LIMIT
unfolding number_handed
returns-then-id-gt-ID_LIMIT c = rw (← c.gateway-id.ensures, lt-ltb _ _ c.if-id-gt-ID_LIMIT.true)

pub returns : goal.returns
unfolding number_handed
returns c = rw (← c.gateway-id.ensures, le-ltb _ _ c.if-id-gt-ID_LIMIT.false) (ap value (ap (λ (n : ℕ). c.direction_of.result + n) c.gateway-id.ensures ∙ c.direction_of.ensures.0))
