-- `escaping::escape` sees that there is room before it writes, so that a refusal writes nothing. Assumes nothing.
use mathlib.Core.Path.{sym, ◌∙◌}
use Prim.Native.Nat.{◌≤◌, ◌<◌}
use lib.ListN.{length}
use borrow.Author.Tests.{lt-ltb, le-ltb, leb-true, leb-false}
use Rattle.escaping.specs.Escapes.{escaped}
use Rattle.escaping.specs.Handed.{escape_handed, escape_bytes}
use Rattle.escaping.proofs.Answers.{escape_handed-fits, escape_bytes-fits}
use Rattle.escaping.proofs.escape.Goals as goal

pub returns-then-input-gt-INPUT_LIMIT : goal.returns-then-input-gt-INPUT_LIMIT
unfolding escape_handed escape_bytes
returns-then-input-gt-INPUT_LIMIT c = record { answer = rw (lt-ltb _ _ c.if-input-gt-INPUT_LIMIT.true); bytes = rw (lt-ltb _ _ c.if-input-gt-INPUT_LIMIT.true) }

pub returns-then-has_room : goal.returns-then-has_room
returns-then-has_room c = let a = c.args in
    let xs = a.input.now in
    let out = a.out.now in
    let within = c.if-input-gt-INPUT_LIMIT.false in
    let fits : length (escaped xs) ≤ length out = leb-true _ _ (sym c.has_room.ensures ∙ c.if-has_room.true) in
    let wrote = c.write_escaped-n.ensures in
    record { answer = rw (escape_handed-fits xs within (length out) fits, wrote.0); bytes = rw (escape_bytes-fits xs within out fits) wrote.1 }

pub returns : goal.returns
unfolding escape_handed escape_bytes
returns c = let a = c.args in
    let long = le-ltb _ _ c.if-input-gt-INPUT_LIMIT.false in
    let narrow : length a.out.now < length (escaped a.input.now) = leb-false _ _ (sym c.has_room.ensures ∙ c.if-has_room.false) in
    record { answer = rw (long, lt-ltb _ _ narrow); bytes = rw (long, lt-ltb _ _ narrow) }
