-- `escaping::write_escaped` writes exactly the escaped form: after each turn, that of the part of the input passed is laid over `out`. Assumes nothing.
use Prim.Native.Nat.{◌+◌}
use native.Mathlib.Omega.{arith}
use Rattle.escaping.proofs.Writes.{laid_none, laid-all, laid-within, laid-run, byte-room, laid-byte}
use Rattle.escaping.proofs.write_escaped.Goals as goal

pub loop-i-init : goal.loop-i-init
loop-i-init c = let a = c.args in
    laid_none a.input.now a.out.now c.requires

pub overflow_add-k : goal.overflow_add-k
overflow_add-k c = let a = c.args in
    let l = c.loop-i in
    let run = c.copy_run-n in
    let next = run.new.d in
    let g = laid-run a.input.now a.out.now c.requires l.out l.i l.k l.invariant next run.result run.ensures.count run.ensures.bytes in
    omega (arith, laid-within a.input.now a.out.now c.requires next (l.i + run.result) (l.k + run.result) g)

pub overflow_add-i : goal.overflow_add-i
overflow_add-i c = let a = c.args in
    let l = c.loop-i in
    let run = c.copy_run-n in
    let next = run.new.d in
    let g = laid-run a.input.now a.out.now c.requires l.out l.i l.k l.invariant next run.result run.ensures.count run.ensures.bytes in
    omega (arith, g.inside)

pub bounds-input-i : goal.bounds-input-i
bounds-input-i c = let a = c.args in
    let l = c.loop-i in
    let run = c.copy_run-n in
    let next = run.new.d in
    let g = laid-run a.input.now a.out.now c.requires l.out l.i l.k l.invariant next run.result run.ensures.count run.ensures.bytes in
    omega (arith, g.inside)

pub write_byte-k-requires : goal.write_byte-k-requires
write_byte-k-requires c = let a = c.args in
    let l = c.loop-i in
    let run = c.copy_run-n in
    let next = run.new.d in
    let g = laid-run a.input.now a.out.now c.requires l.out l.i l.k l.invariant next run.result run.ensures.count run.ensures.bytes in
    byte-room a.input.now a.out.now c.requires next (l.i + run.result) (l.k + run.result) g (omega (arith, g.inside))

pub overflow_add-i-in-loop-i : goal.overflow_add-i-in-loop-i
overflow_add-i-in-loop-i c = let a = c.args in
    let l = c.loop-i in
    let run = c.copy_run-n in
    let next = run.new.d in
    let g = laid-run a.input.now a.out.now c.requires l.out l.i l.k l.invariant next run.result run.ensures.count run.ensures.bytes in
    omega (arith, g.inside)

pub loop-i-preserved : goal.loop-i-preserved
loop-i-preserved c = let a = c.args in
    let l = c.loop-i in
    let run = c.copy_run-n in
    let next = run.new.d in
    let g = laid-run a.input.now a.out.now c.requires l.out l.i l.k l.invariant next run.result run.ensures.count run.ensures.bytes in
    laid-byte a.input.now a.out.now c.requires next (l.i + run.result) (l.k + run.result) g (omega (arith, g.inside)) _ _ c.write_byte-k.ensures.0 c.write_byte-k.ensures.1

pub returns-then-i-input : goal.returns-then-i-input
returns-then-i-input c = let a = c.args in
    let l = c.loop-i in
    let run = c.copy_run-n in
    let next = run.new.d in
    let g = laid-run a.input.now a.out.now c.requires l.out l.i l.k l.invariant next run.result run.ensures.count run.ensures.bytes in
    laid-all a.input.now a.out.now c.requires next (l.i + run.result) (l.k + run.result) (omega arith) g
