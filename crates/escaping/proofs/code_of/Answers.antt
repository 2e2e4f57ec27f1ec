-- `escaping::code_of` gives the code of each of the seven, and none for any other. Assumes nothing.
use mathlib.Core.Path.{refl}
use Rattle.escaping.specs.Escapes.{code_of}
use Rattle.escaping.proofs.Laws.{code_of-other}
use Rattle.escaping.proofs.code_of.Goals as goal

pub returns-in-126 : goal.returns-in-126
unfolding code_of
returns-in-126 c = rw c.in-126.is

pub returns-in-36 : goal.returns-in-36
unfolding code_of
returns-in-36 c = rw c.in-36.is

pub returns-in-35 : goal.returns-in-35
unfolding code_of
returns-in-35 c = rw c.in-35.is

pub returns-in-37 : goal.returns-in-37
unfolding code_of
returns-in-37 c = rw c.in-37.is

pub returns-in-164 : goal.returns-in-164
unfolding code_of
returns-in-164 c = rw c.in-164.is

pub returns-in-163 : goal.returns-in-163
unfolding code_of
returns-in-163 c = rw c.in-163.is

pub returns-in-165 : goal.returns-in-165
unfolding code_of
returns-in-165 c = rw c.in-165.is

pub returns-in_default : goal.returns-in_default
returns-in_default c =
    let n = c.in_default.in_default-own.rest in
    rw (code_of-other c.args.b n.0.0.0.0.0.0.1 n.0.0.0.0.0.1 n.0.0.0.0.1 n.0.0.0.1 n.0.0.1 n.0.1 n.1) refl
