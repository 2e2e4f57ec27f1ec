-- `link::enclose` lends `escape` the part of `out` between start and end, so that its refusal for want of room is the frame's. Assumes nothing.
use mathlib.Core.Path.{sym, ap, ◌∙◌}
use native.Mathlib.Omega.{arith}
use lib.ListN.{length}
use Rattle.laws.specs.Handed.{refused}
use Rattle.laws.proofs.Numbers.{handed_by-kept}
use Rattle.escaping.specs.Handed.{refusal_of as escape_refusal}
use Rattle.link.specs.Handed.{refusal_of}
use Rattle.escaping.proofs.Answers.{escape-accepted, escape-refused}
use Rattle.link.proofs.Writes.{part_of, length-part_of, enclosed, refused-room}
use Rattle.link.proofs.enclose.Goals as goal

pub bracket-requires : goal.bracket-requires
bracket-requires c = let a = c.args in
    let m = c.in_ok-m.m in
    let x = escape-accepted a.body.now (omega arith) (length (part_of a.start.now a.out.now)) m (sym c.in_ok-m.ensures.answer) in
    let y = length-part_of a.start.now a.out.now (omega arith) in
    omega (arith, x, y)

pub returns : goal.returns
returns c = let a = c.args in
    let m = c.in_ok-m.m in
    let x = escape-accepted a.body.now (omega arith) (length (part_of a.start.now a.out.now)) m (sym c.in_ok-m.ensures.answer) in
    let w = enclosed a.start.now a.body.now a.out.now c.escape.new.out (omega arith) (omega arith) c.escape.ensures.bytes m _ x.0 x.1 c.bracket.ensures in
    record { answer = w.0; bytes = w.1 }

pub returns-in_err-m : goal.returns-in_err-m
returns-in_err-m c = let a = c.args in
    let x = escape-refused a.body.now (omega arith) (length (part_of a.start.now a.out.now)) _ (sym c.in_err-m.ensures.answer) in
    let w = refused-room a.start.now a.body.now a.out.now c.escape.new.out (omega arith) (omega arith) c.in_err-m.ensures.bytes x.0 in
    let kept = handed_by-kept escape_refusal refusal_of c.from_residual.result c.in_err-m.field-0.0 c.from_residual.ensures.1 in
    record { answer = kept ∙ ap refused x.1 ∙ w.0; bytes = w.1 }
