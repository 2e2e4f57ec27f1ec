-- `vectors_records::file` ends: each row takes a byte at least. Assumes nothing.
use Rattle.std.proofs.Common.{length}
use Rattle.vectors_records.proofs.file.Given as goal

abbrev pub decreases-loop-row : goal.decreases-loop-row
decreases-loop-row l = length l.rest
