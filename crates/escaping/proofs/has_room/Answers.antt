-- `escaping::has_room`: the escaped form takes at most twice the input's length, and else it is measured. Assumes nothing.
use mathlib.Core.Path.{sym}
use native.Mathlib.Omega.{arith}
use lib.ListN.{length}
use borrow.Author.Tests.{le-leb}
use Rattle.escaping.specs.Escapes.{escaped}
use Rattle.escaping.proofs.Lengths.{length-escaped-le}
use Rattle.escaping.proofs.has_room.Goals as goal

pub returns-then-input-room : goal.returns-then-input-room
returns-then-input-room c = let a = c.args in
    let xs = a.input.now in
    sym (le-leb (length (escaped xs)) a.room (omega (arith, length-escaped-le xs)))
