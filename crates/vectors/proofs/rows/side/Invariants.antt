-- `rows::side` ends, and stays within the text and the room. Assumes nothing.
use Rattle.std.proofs.Common.{◌≤◌, length, vec_len}
use Rattle.vectors.proofs.rows.side.Given as goal

abbrev pub invariant-loop-rest : goal.invariant-loop-rest
invariant-loop-rest l = (vec_len l.bytes ≤ 70000) × (length l.rest ≤ length l.text)

abbrev pub decreases-loop-rest : goal.decreases-loop-rest
decreases-loop-rest l = length l.rest
