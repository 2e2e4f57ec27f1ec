-- `byte_runs::first` counts the bytes before the first mark: each has eight zeros below the mark, and the mark's byte seven. Assumes nothing.
use Rattle.byte_runs.proofs.Marks.{trailing-first}
use Rattle.byte_runs.proofs.first.Goals as goal

pub returns : goal.returns
returns c = trailing-first c.args.z c.requires
