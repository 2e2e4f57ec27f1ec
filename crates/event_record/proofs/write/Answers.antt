-- `event_record::write` lays the head and then the body down, if the record is admitted. Assumes nothing.
use mathlib.Core.Path.{refl, ◌∙◌}
use native.Mathlib.Omega.{arith}
use lib.ListN.{length}
use Rattle.std.specs.Prelude.{Err}
use Rattle.std.proofs.lemmas.Result.{err_from_is_err_and}
use Rattle.laws.specs.Handed.{value}
use Rattle.sound_record.specs.Kinds.{number_of}
use Rattle.event_record.specs.Handed.{handed}
use Rattle.event_record.proofs.Written.{sound-small, sized-small, framed-laid, admitted-fits, answers}
use Rattle.event_record.proofs.write.Goals as goal

pub admit-requires : goal.admit-requires
admit-requires c = rw (c.then_some.ensures, c.allows.ensures) (sized-small _ _ _)

pub returns-in_err-size : goal.returns-in_err-size
returns-in_err-size c = let a = c.args in
    let p = err_from_is_err_and c.from_residual.result c.from_residual.ensures.1 in
    let w = answers (number_of a.kind) a.gateway.0 a.body.now a.out.now (handed (Err p.0)) (rw p.2 (rw (c.then_some.ensures, c.allows.ensures) at c.in_err-size.ensures)) in
    rw p.1 (record { answer = w.0; bytes = w.1 })

pub put_head-requires : goal.put_head-requires
put_head-requires c =
    let s = rw (c.then_some.ensures, c.allows.ensures) at c.in_ok-size.ensures in
    let f = admitted-fits (number_of c.args.kind) c.args.gateway.0 c.args.body.now (length c.args.out.now) c.in_ok-size.size s in
    (sound-small _ _ _ f.0, omega (arith, f))

pub returns : goal.returns
returns c = let a = c.args in
    let s = rw (c.then_some.ensures, c.allows.ensures) at c.in_ok-size.ensures in
    let f = admitted-fits (number_of c.args.kind) c.args.gateway.0 c.args.body.now (length c.args.out.now) c.in_ok-size.size s in
    let w = answers (number_of a.kind) a.gateway.0 a.body.now a.out.now (value c.in_ok-size.size) s in
    record { answer = w.0; bytes = framed-laid (number_of a.kind) a.gateway.0 _ a.body.now a.out.now _ _ (omega (arith, f)) refl c.put_head.ensures c.copy_in.ensures ∙ w.1 }
