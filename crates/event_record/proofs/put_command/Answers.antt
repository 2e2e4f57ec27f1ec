-- `event_record::put_command` copies the body's four pieces in, one behind the other. Assumes nothing.
use native.Mathlib.Omega.{arith}
use Rattle.event_record.proofs.Commands.{command-laid}
use Rattle.event_record.proofs.put_command.Goals as goal

pub returns : goal.returns
returns c = let a = c.args in
    command-laid a.asked a.answered a.request.now a.response.now a.out.now _ _ _ _ (omega (arith, c.requires))
    c.copy_in.ensures c.copy_in-2.ensures c.copy_in-3.ensures c.copy_in-4.ensures
