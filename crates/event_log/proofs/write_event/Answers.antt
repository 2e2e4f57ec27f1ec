-- `event_log::write_event` hands each event to its encoder, and a receive response to `slots`. Assumes nothing.
use mathlib.Core.Path.{sym, ◌∙◌}
use Rattle.event_log.proofs.Writes.{rest-of, records_none, event_of_refused, records_one, bytes_one}
use Rattle.event_log.proofs.write_event.Goals as goal

pub returns-in_default-clause-answer : goal.returns-in_default-clause-answer
returns-in_default-clause-answer c = rw (c.in_default.is, event_of_refused _ _) (sym (records_none _))

pub returns-in-VersionObserved-clause-bytes : goal.returns-in-VersionObserved-clause-bytes
returns-in-VersionObserved-clause-bytes c = rw (c.in-Ok.is, c.in-VersionObserved.is) (c.version.ensures.bytes ∙ sym (bytes_one _ _ _))

pub returns-in-CommandExecuted-clause-answer : goal.returns-in-CommandExecuted-clause-answer
returns-in-CommandExecuted-clause-answer c =
    rw (c.in-Ok.is, c.in-CommandExecuted.is)
    (rw (c.request_payload-asked.ensures, rest-of _ _ _ c.min-in-CommandExecuted.ensures) at c.command.ensures.answer ∙ sym (records_one _ _ _))

pub returns-in-CommandExecuted-clause-bytes : goal.returns-in-CommandExecuted-clause-bytes
returns-in-CommandExecuted-clause-bytes c =
    rw (c.in-Ok.is, c.in-CommandExecuted.is)
    (rw (c.request_payload-asked.ensures, rest-of _ _ _ c.min-in-CommandExecuted.ensures) at c.command.ensures.bytes ∙ sym (bytes_one _ _ _))
