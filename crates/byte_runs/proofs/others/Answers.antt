-- `byte_runs::others` goes by the sort; marks of two sorts are joined. Assumes nothing.
use Rattle.byte_runs.proofs.Marks.{marks-plain}
use Rattle.byte_runs.proofs.others.Goals as goal

pub returns-in-Plain : goal.returns-in-Plain
returns-in-Plain c = let w = c.args.w in
    rw c.in-Plain.is (marks-plain w c.escapes-in-Plain.result c.fences.result c.escapes-in-Plain.ensures c.fences.ensures)
