-- `crc::by_table::crc_plain` is the check by `TABLE`, whose every entry follows the rule: one test, computed over them all. Assumes nothing.
use Rattle.crc.proofs.Laws.{table-rule}
use Rattle.crc.proofs.by_table.crc_plain.Goals as goal

pub crc_by-requires : goal.crc_by-requires
crc_by-requires c = table-rule _ tt tt
