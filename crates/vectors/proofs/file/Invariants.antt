-- `file` ends: each line takes a byte at least. Assumes nothing.
use Rattle.std.proofs.Common.{length}
use Rattle.vectors.proofs.file.Given as goal

abbrev pub decreases-loop-rest : goal.decreases-loop-rest
decreases-loop-rest g l = length l.rest
