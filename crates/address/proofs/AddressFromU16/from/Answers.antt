-- `Address::from` parts by the direction bit. Assumes nothing.
use borrow.Author.Tests.{lt-ltb, le-ltb}
use Rattle.address.specs.Address.{address_of}
use Rattle.address.proofs.AddressFromU16.from.Goals as goal

pub returns-then-number-lt-DIRECTION_BIT : goal.returns-then-number-lt-DIRECTION_BIT
unfolding address_of
returns-then-number-lt-DIRECTION_BIT c = rw (lt-ltb _ _ c.if-number-lt-DIRECTION_BIT.true)

pub returns : goal.returns
unfolding address_of
returns c = rw (le-ltb _ _ c.if-number-lt-DIRECTION_BIT.false)
