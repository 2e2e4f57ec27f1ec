-- `link_feed::outside::outside` adds the noises, and takes the opener if there is one. Assumes nothing.
use Rattle.std.proofs.Common.{ap, ◌∙◌, arith}
use Rattle.crc.specs.Crc.{crc_of}
use Rattle.reading.specs.Counters as k
use Rattle.link_receive.specs.Tally.{raise}
use Rattle.link_receive.specs.Step.{fresh_of}
use Rattle.link_receive.specs.Numbered.{tallies_at}
use Rattle.link_feed.proofs.Passes.{led-lone, led-open}
use Rattle.link_feed.proofs.outside.outside.Goals as goal

pub returns-then-s-at-lt2 : goal.returns-then-s-at-lt2
returns-then-s-at-lt2 c = let a = c.args in
    led-lone crc_of fresh_of a.s.now a.noisy a.i c.calm-q.result c.calm-q.ensures.0 a.len (tallies_at a.tallies.now) _ c.requires.0 _ (omega (arith, c.calm-q.ensures.0.inside)) (c.calm-q.ensures.1.lone (omega (arith, c.calm-q.ensures.0.inside))) c.held_after-held.ensures c.add_noise.ensures

pub returns : goal.returns
returns c = let a = c.args in
    led-open crc_of fresh_of a.s.now a.noisy a.i c.calm-q.result c.calm-q.ensures.0 a.len (tallies_at a.tallies.now) _ c.requires.0 (c.calm-q.ensures.1.pair (omega (arith, c.calm-q.ensures.0.inside))) (c.raise.ensures ∙ ap (raise k.openings) c.add_noise.ensures)
