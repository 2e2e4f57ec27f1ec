-- `sound_record::sound_version_at` tests just the bytes that the length at the place says, if the log has them. Assumes nothing.
use mathlib.Core.Path.{sym, ap, ◌∙◌}
use mathlib.Core.Bool.{Bool}
use Prim.Native.Nat.{◌+◌}
use native.Mathlib.Omega.{arith}
use Rattle.std.specs.Bool.{then_some}
use Rattle.sound_record.proofs.Places.{be16_at-rest, stands-few, stands-cut, stands-tested}
use Rattle.sound_record.proofs.sound_version_at.Goals as goal

pub returns-in_err-rest : goal.returns-in_err-rest
returns-in_err-rest c = c.from_residual.ensures ∙ sym (stands-few _ _ _ (omega (arith, c.in_err-rest.ensures.lookup)))

pub returns-in_default : goal.returns-in_default
returns-in_default c = sym (stands-few _ _ _ (omega (arith, c.in_ok-rest.ensures.lookup)))

pub returns-in_err-record : goal.returns-in_err-record
returns-in_err-record c = let a = c.args in
    let l = c.in_ok-rest.ensures.lookup.0 in
    c.from_residual-in_err-record.ensures
    ∙ sym (stands-cut a.version a.log.now a.at (omega (arith, l.3, c.in_err-record.ensures.lookup, c.size_of-n.ensures, be16_at-rest a.version a.log.now a.at _ l.2)))

pub returns : goal.returns
returns c = let a = c.args in
    let l = c.in_ok-record.ensures.lookup.0 in
    c.then_some.ensures
    ∙ ap (λ (t : Bool). then_some t (a.at + c.size_of-n.result)) c.sound_version.ensures
    ∙ stands-tested a.version a.log.now a.at _ c.in_ok-rest.ensures.lookup.0.2 _ c.size_of-n.ensures l.1 _ l.2
