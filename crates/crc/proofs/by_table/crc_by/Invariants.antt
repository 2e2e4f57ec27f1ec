-- `crc::by_table::crc_by` is the check of the whole slice: the check of what is left, from what was made so far, stays the same. Assumes nothing.
use mathlib.Core.Path.{◌≡◌}
use lib.ListN.{drop}
use Rattle.crc.specs.Crc.{crc_from}
use Rattle.crc.proofs.by_table.crc_by.Given as goal

abbrev pub invariant-loop-b : goal.invariant-loop-b
invariant-loop-b l = crc_from l.crc (drop l.b-index l.buffer) ≡ crc_from l.start l.buffer
