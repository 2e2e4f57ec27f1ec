-- `crc::by_table::crc_byte` is one byte of the check: the entry at the low byte, taken into the high one. Assumes nothing.
use borrow.Author.Rules.{rules}
use Rattle.crc.proofs.Laws.{crc_byte-table}
use Rattle.crc.proofs.by_table.crc_byte.Goals as goal

pub returns : goal.returns
returns c = let a = c.args in crc_byte-table a.entries.now c.requires a.crc a.b (search rules)
