-- `link_feed::outside::words` takes what the words bring. Assumes nothing.
use Rattle.std.proofs.Common.{sym, subst, arith}
use Rattle.crc.specs.Crc.{crc_of}
use Rattle.byte_runs.specs.declared.Heard.{Heard}
use Rattle.byte_runs.specs.Noises.{Noised}
use Rattle.byte_runs.proofs.NoiseLaws.{noises-are}
use Rattle.link_receive.specs.Step.{fresh_of}
use Rattle.link_feed.proofs.Passes.{passed-noised}
use Rattle.link_feed.proofs.outside.words.Goals as goal

pub returns : goal.returns
returns c = let a = c.args in
    passed-noised crc_of fresh_of a.s.now a.noisy a.i c.noises.result (subst (λ (h : Heard). Noised a.noisy a.s.now a.i h) (sym c.noises.ensures) (noises-are a.noisy a.s.now a.i (omega arith)))
