-- `link_feed::outside::lull` goes over one idle byte, over three, or over all of a run. Assumes nothing.
use Rattle.std.proofs.Common.{sym, ◌∙◌, arith, rules}
use Rattle.crc.specs.Crc.{crc_of}
use Rattle.byte_runs.specs.Runs.{is_of}
use Rattle.byte_runs.specs.declared.Sort.TheVariants as sort
use Rattle.byte_runs.proofs.Laws.{run_inside}
use Rattle.link_receive.specs.Step.{fresh_of}
use Rattle.link_feed.proofs.Passes.{passed-one, passed-three, passed-lull}
use Rattle.link_feed.proofs.outside.lull.Goals as goal

pub returns-then-s-i-eq126 : goal.returns-then-s-i-eq126
returns-then-s-i-eq126 c = let a = c.args in
    rw c.if-noisy.false (passed-one crc_of fresh_of a.s.now a.i (search rules) (sym c.is.ensures ∙ c.if-not-is.false))

pub returns-then-three : goal.returns-then-three
returns-then-three c = let a = c.args in
    let t = c.three.ensures c.if-three.true in
    rw c.if-noisy.false (passed-three crc_of fresh_of a.s.now a.i t.0 (sym c.is.ensures ∙ c.if-not-is.false) t.1 t.2)

pub overflow_add-result-2 : goal.overflow_add-result-2
overflow_add-result-2 c = let a = c.args in omega (arith, run_inside (is_of sort.Idle) a.s.now a.i c.run.result (omega arith) c.run.ensures)

pub returns : goal.returns
returns c = let a = c.args in
    rw c.if-noisy.false (passed-lull crc_of fresh_of a.s.now a.i c.run.result (omega arith) c.run.ensures)
