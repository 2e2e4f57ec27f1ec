-- `link_feed::tails::few` skips a byte, or a pair that does not end the tail, at a time. Assumes nothing.
use Rattle.std.proofs.Common.{sym, ◌∙◌, arith}
use Rattle.crc.specs.Crc.{crc_of}
use Rattle.link_feed.proofs.Skips.{skipped-byte, skipped-pair}
use Rattle.link_feed.proofs.tails.few.Goals as goal

pub loop-i-preserved-then-s-i-ne126 : goal.loop-i-preserved-then-s-i-ne126
loop-i-preserved-then-s-i-ne126 c = skipped-byte crc_of _ _ _ c.loop-i.i c.loop-i.invariant (omega arith) c.if-s-i-ne126.true

pub loop-i-preserved : goal.loop-i-preserved
loop-i-preserved c = skipped-pair crc_of _ _ _ c.loop-i.i c.loop-i.invariant (omega arith) c.if-s-i-ne126.false (sym c.is.ensures ∙ c.if-not-is.false)
