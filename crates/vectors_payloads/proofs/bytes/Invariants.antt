-- `bytes` puts 512 bytes at most. Assumes nothing.
use Rattle.std.proofs.Common.{◌≤◌, vec_len}
use Rattle.vectors_payloads.proofs.bytes.Given as goal

abbrev pub invariant-loop-high : goal.invariant-loop-high
invariant-loop-high l = vec_len l.input ≤ 512
