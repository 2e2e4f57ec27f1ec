-- `byte_runs::noisy_behind` reads the mark of the eighth byte. Assumes nothing.
use Rattle.byte_runs.proofs.NoiseLaws.{noisy-behind}
use Rattle.byte_runs.proofs.noisy_behind.Goals as goal

pub returns : goal.returns
returns c = noisy-behind c.args.z
