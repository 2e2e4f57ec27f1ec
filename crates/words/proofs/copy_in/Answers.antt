-- `words::copy_in` copies over the part that starts at the place, and leaves a slice in which the piece does not fit. Assumes nothing.
use mathlib.Core.Path.{refl, sym, ◌∙◌}
use Prim.Native.Nat.{◌+◌, ◌-◌}
use lib.ListN.{length}
use Rattle.std.proofs.lemmas.Slice.{put_mid-paste}
use native.Mathlib.Omega.{arith}
use Rattle.words.proofs.Laws.{copied_in-fits, copied_in-over}
use Rattle.words.proofs.copy_in.Goals as goal
use Rattle.words.proofs.copy_in.Goals.{else-at-d-via-then-at-d+else-s-d, else-at-d-via-else-at-d}

pub returns-then-s-d : goal.returns-then-s-d
returns-then-s-d c =
    let a = c.args in
    put_mid-paste a.at (a.at + length a.s.now - a.at) a.d.now c.copy_from_slice.new.self a.s.now (length a.s.now) c.copy_from_slice.ensures.after (omega arith) refl
    ∙ sym (copied_in-fits a.d.now a.at a.s.now (omega arith))

pub returns-else-at-d : goal.returns-else-at-d
returns-else-at-d c =
    sym (copied_in-over _ _ _ (elim c.else-at-d.branch [ else-at-d-via-then-at-d+else-s-d w ↦ omega arith | else-at-d-via-else-at-d w ↦ omega arith ]))
