-- `plain_frames::version_response` is right: the text test is true exactly of a text. Assumes nothing.
use Rattle.plain_frames.specs.Plain.{version_in}
use Rattle.utf8.proofs.Laws.{is-text-told}
use Rattle.plain_frames.proofs.version_response.Goals as goal

pub returns-then-is_text : goal.returns-then-is_text
unfolding version_in
returns-then-is_text c = rw (c.raise-then-is_text.ensures, ← c.is_from.ensures, c.if-not-is_from.false, ← is-text-told c.args.payload.now c.is_text.result c.is_text.ensures, c.if-is_text.true)

pub returns : goal.returns
unfolding version_in
returns c = rw (c.raise-2.ensures, ← c.is_from.ensures, c.if-not-is_from.false, ← is-text-told c.args.payload.now c.is_text.result c.is_text.ensures, c.if-is_text.false)
