-- `crc::by_words::crc_many` is the check of 32 bytes or more: the four words in hand come to the check of what was read. Assumes nothing.
use Prim.Native.Nat.{◌+◌, ◌*◌}
use mathlib.Core.Path.{◌≡◌}
use mathlib.Core.List.{[], ◌∷◌}
use lib.ListN.{take}
use Rattle.crc.specs.Crc.{crc_from}
use Rattle.crc.specs.Words.{crc_words}
use Rattle.crc.proofs.by_words.crc_many.Given as goal

abbrev pub invariant-loop-chunk : goal.invariant-loop-chunk
invariant-loop-chunk l = crc_words 0 (l.t ∷ l.u ∷ l.v ∷ l.w ∷ []) ≡ crc_from l.start (take ((4 + l.chunk-index) * 8) l.b)
