-- `books::told` refuses a length over the limit, and else tells the tallies. Assumes nothing.
use Rattle.std.proofs.Common.{le-ltb}
use Rattle.crc.specs.Crc.{crc_of}
use Rattle.link_receive.specs.Step.{rules_of}
use Rattle.books.specs.Ledgers.{told_of}
use Rattle.books.proofs.Kept.{told-as}
use Rattle.books.proofs.told.Goals as goal

pub returns : goal.returns
unfolding told_of rules_of
returns c = told-as crc_of _ _ (rw (c.ledger_at.ensures, le-ltb _ _ c.if-r-gt-MAX_FRAME_SIZE.false))
