-- `books::ledger_of` takes the slice in from fresh: what it leads to tells its ledger. Assumes nothing.
use Rattle.crc.specs.Crc.{crc_of}
use Rattle.books.proofs.Kept.{whole-ledgered}
use Rattle.books.proofs.ledger_of.Goals as goal

pub returns : goal.returns
returns c = whole-ledgered crc_of _ _ _ c.well_formed.0.0 (rw c.new-r.ensures at c.absorb-x.ensures) c.ledger_at.ensures
