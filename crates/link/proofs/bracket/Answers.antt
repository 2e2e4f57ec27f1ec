-- `link::bracket` is its two copies, one after the other. Assumes nothing.
use native.Mathlib.Omega.{arith}
use Rattle.link.proofs.Writes.{bracketed-copies}
use Rattle.link.proofs.bracket.Goals as goal

pub returns : goal.returns
returns c = let a = c.args in
    bracketed-copies a.start.now a.out.now _ _ a.m (omega arith)
    c.copy_in.ensures
    c.copy_in-2.ensures
