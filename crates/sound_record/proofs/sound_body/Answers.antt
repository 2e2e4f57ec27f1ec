-- `sound_record::sound_body`: no body is sound under a number that no kind has. Assumes nothing.
use mathlib.Core.Path.{sym}
use Rattle.sound_record.proofs.Soundness.{sound_body-other}
use Rattle.sound_record.proofs.sound_body.Goals as goal

pub returns-in-Err : goal.returns-in-Err
returns-in-Err c = sym (sound_body-other _ _ _ c.in-Err.ensures)
