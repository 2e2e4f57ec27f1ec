-- `byte_runs::behind` moves each mark one byte on. Assumes nothing.
use Rattle.byte_runs.proofs.NoiseLaws.{behind-is}
use Rattle.byte_runs.proofs.behind.Goals as goal

pub returns : goal.returns
returns c = behind-is c.args.z c.args.before
