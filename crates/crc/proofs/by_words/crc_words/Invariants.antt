-- `crc::by_words::crc_words` is the check of eight bytes or more: the word in hand comes to the check of what was read, and the tail to the rest. Assumes nothing.
use Prim.Native.Nat.{◌+◌, ◌*◌}
use mathlib.Core.Path.{◌≡◌}
use lib.ListN.{take}
use Rattle.crc.specs.Crc.{crc_bits, crc_from}
use Rattle.crc.proofs.by_words.crc_words.Given as goal

abbrev pub invariant-loop-chunk : goal.invariant-loop-chunk
invariant-loop-chunk l = crc_bits 64 l.x ≡ crc_from l.start (take ((1 + l.chunk-index) * 8) l.b)
