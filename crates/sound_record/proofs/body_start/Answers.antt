-- `sound_record::body_start`: no version has anything between gateway and body. Assumes nothing.
use mathlib.Core.Path.{sym}
use Rattle.sound_record.proofs.Soundness.{body_start-none}
use Rattle.sound_record.proofs.body_start.Goals as goal

pub returns : goal.returns
returns c = sym (body_start-none c.args.version)
