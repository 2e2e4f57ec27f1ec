-- `command_frames::keep_payload` is right: the part from 5 on is the rest of the payload. Assumes nothing.
use mathlib.Core.Path.{◌≡◌, ap, ◌∙◌}
use Prim.Native.Nat.{◌-◌, ◌*◌}
use lib.ListN.{length, take, drop, length-drop}
use lib.Seq.{take_all}
use Rattle.words.proofs.Laws.{copied_in-fits}
use native.Mathlib.Omega.{arith}
use borrow.Author.Rules.{rules}
use Rattle.command_frames.proofs.keep_payload.Goals as goal

pub returns : goal.returns
returns c = let a = c.args in
    let p = a.payload.now in
    let e : take (length p - 5) (drop 5 p) ≡ drop 5 p = take_all (length p - 5) (drop 5 p) (omega (arith, length-drop 5 p)) in
    let pool : length a.cpayloads.now ≡ 15680 = search rules in
    (ap length e, rw e at c.copy_in.ensures ∙ copied_in-fits a.cpayloads.now (a.i * 245) (drop 5 p) (omega (arith, length-drop 5 p, pool)))
