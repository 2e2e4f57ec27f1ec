-- `GatewayID::try_from` refuses a number above 7fff, and else wraps it. Assumes nothing.
use borrow.Author.Tests.{lt-ltb, le-ltb}
use Rattle.address.specs.Handed.{id_handed}
use Rattle.address.proofs.GatewayIDTryFromU16.try_from.Goals as goal

pub returns-then-number-gt-ID_LIMIT : goal.returns-then-number-gt-ID_LIMIT
unfolding id_handed
returns-then-number-gt-ID_LIMIT c = rw (lt-ltb _ _ c.if-number-gt-ID_LIMIT.true)

pub returns : goal.returns
unfolding id_handed
returns c = rw (le-ltb _ _ c.if-number-gt-ID_LIMIT.false)
