-- `events::blocks::put_records` is safe: what is written fits behind the place. Assumes nothing.
use mathlib.Core.Path.{sym, ap, ◌∙◌}
use native.Mathlib.Omega.{arith}
use Rattle.event_record.specs.Handed.{handed}
use Rattle.event_log.proofs.Writes.{handed-within, length_rest}
use Rattle.events.proofs.blocks.put_records.Goals as goal

pub overflow_add-out : goal.overflow_add-out
overflow_add-out c =
    let o = c.with_room.new.self in
    let n = handed-within _ _ _ (sym c.write.ensures.answer ∙ ap handed c.in-Ok.is) in
    omega (arith, n, length_rest o.bytes o.at)
