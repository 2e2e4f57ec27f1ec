-- `event_record::put_head` lays the six bytes before a body over the start of the buffer. Assumes nothing.
use mathlib.Core.Path.{◌∙◌}
use native.Mathlib.Omega.{arith}
use Rattle.event_record.specs.Layout.{extra}
use Rattle.event_record.proofs.Written.{head-laid}
use Rattle.event_record.proofs.put_head.Goals as goal

pub returns : goal.returns
unfolding extra
returns c = let a = c.args in
    head-laid _ a.out.now _ (omega arith) c.copy_in.ensures
    ∙ rw (c.high.ensures, c.low.ensures, c.high-2.ensures, c.low-2.ensures, c.from.ensures)
