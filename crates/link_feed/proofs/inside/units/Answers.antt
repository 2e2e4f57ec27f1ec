-- `link_feed::inside::units` takes an escape, a raw byte or a run of raw bytes at a time: each time feeding on from there is feeding from where it began.
-- Assumes nothing.
use Rattle.std.proofs.Common.{◌+◌, ◌-◌, length, get_or, sym, refl, arith, rules}
use Rattle.crc.specs.Crc.{crc_of}
use Rattle.link_receive.specs.Step.{fresh_of, rules_of}
use Rattle.link_receive.proofs.Rules.{limit-full}
use Rattle.link_receive.proofs.Turns.{escape-push}
use Rattle.link_feed.proofs.Skips.{raw-other}
use Rattle.link_feed.proofs.Held.{held-run, run-some, held-byte, held-escape, held-coded}
use Rattle.link_feed.proofs.inside.units.Goals as goal

pub loop-i-preserved-in-Ok : goal.loop-i-preserved-in-Ok
unfolding rules_of
loop-i-preserved-in-Ok c = let a = c.args in
    let l = c.loop-i in
    let u = c.unescaped_byte in
    held-escape crc_of fresh_of a.s.now a.body.now a.len0 a.i0 l.body l.len l.i l.invariant _ (omega arith) (omega arith) c.if-b-eq126.true (sym (escape-push (rules_of fresh_of) u.result l.len (get_or a.s.now (l.i + 1) 0) u.ensures _ c.in-Ok.is (omega arith)))

pub returns-in-Err : goal.returns-in-Err
returns-in-Err c = let a = c.args in
    let l = c.loop-i in
    let u = c.unescaped_byte in
    held-coded crc_of fresh_of a.s.now a.body.now a.len0 a.i0 l.body l.len l.i l.invariant (get_or a.s.now (l.i + 1) 0) (omega arith) c.if-b-eq126.true u.result u.ensures c.in-Err.is refl

pub loop-i-preserved-then-soon : goal.loop-i-preserved-then-soon
unfolding rules_of
loop-i-preserved-then-soon c = let a = c.args in
    let l = c.loop-i in
    held-byte crc_of fresh_of a.s.now a.body.now a.len0 a.i0 l.body l.len l.i l.invariant (omega arith) (omega arith) (raw-other _ c.if-b-eq126.false)

pub overflow_add-len-in-loop-i : goal.overflow_add-len-in-loop-i
unfolding rules_of
overflow_add-len-in-loop-i c = let a = c.args in
    let l = c.loop-i in
    let run = c.copy_run-k in
    let g = held-run crc_of fresh_of a.s.now a.body.now a.len0 a.i0 l.body l.len l.i l.invariant limit-full (search rules) run.new.d run.result run.ensures.count run.ensures.bytes in
    omega (arith, g.within)

pub overflow_add-i-in-loop-i : goal.overflow_add-i-in-loop-i
overflow_add-i-in-loop-i c = let a = c.args in
    let l = c.loop-i in
    let run = c.copy_run-k in
    let g = held-run crc_of fresh_of a.s.now a.body.now a.len0 a.i0 l.body l.len l.i l.invariant limit-full (search rules) run.new.d run.result run.ensures.count run.ensures.bytes in
    omega (arith, g.inside)

pub loop-i-smaller : goal.loop-i-smaller
unfolding rules_of
loop-i-smaller c = let a = c.args in
    let l = c.loop-i in
    let run = c.copy_run-k in
    let g = held-run crc_of fresh_of a.s.now a.body.now a.len0 a.i0 l.body l.len l.i l.invariant limit-full (search rules) run.new.d run.result run.ensures.count run.ensures.bytes in
    omega (arith, g.inside, run-some a.s.now l.i (length l.body - l.len) run.result (omega arith) (omega arith) (raw-other _ c.if-b-eq126.false) run.ensures.count)

pub loop-i-preserved : goal.loop-i-preserved
loop-i-preserved c = let a = c.args in
    let l = c.loop-i in
    let run = c.copy_run-k in
    held-run crc_of fresh_of a.s.now a.body.now a.len0 a.i0 l.body l.len l.i l.invariant limit-full (search rules) run.new.d run.result run.ensures.count run.ensures.bytes
