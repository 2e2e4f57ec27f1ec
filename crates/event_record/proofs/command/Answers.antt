-- `event_record::command` lays the head and then the body's four pieces down, if the record is admitted. Assumes nothing.
use mathlib.Core.Path.{◌∙◌}
use native.Mathlib.Omega.{arith}
use lib.ListN.{length}
use Rattle.std.specs.Prelude.{Err}
use Rattle.std.proofs.lemmas.Result.{err_from_is_err_and}
use Rattle.laws.specs.Handed.{value}
use Rattle.sound_record.specs.Record.{written}
use Rattle.event_record.specs.Event.{body_of, command}
use Rattle.event_record.specs.Handed.{handed}
use Rattle.event_record.proofs.Written.{framed-laid, admitted-fits, answers}
use Rattle.event_record.proofs.Commands.{length-command, command-size}
use Rattle.event_record.proofs.command.Goals as goal

pub returns-in_err-size : goal.returns-in_err-size
returns-in_err-size c = let a = c.args in
    let b = body_of written (command a.asked a.request.now a.answered a.response.now) in
    let p = err_from_is_err_and c.from_residual.result c.from_residual.ensures.1 in
    let s = c.command_size.ensures ∙ command-size a.asked a.answered a.request.now a.response.now in
    let w = answers 8 a.gateway.0 b a.out.now (handed (Err p.0)) (rw p.2 (rw s at c.in_err-size.ensures)) in
    rw p.1 (record { answer = w.0; bytes = w.1 })

pub returns : goal.returns
returns c = let a = c.args in
    let b = body_of written (command a.asked a.request.now a.answered a.response.now) in
    let l = length-command a.asked a.answered a.request.now a.response.now in
    let s = rw (c.command_size.ensures ∙ command-size a.asked a.answered a.request.now a.response.now) at c.in_ok-size.ensures in
    let f = admitted-fits 8 a.gateway.0 b (length a.out.now) c.in_ok-size.size s in
    let w = answers 8 a.gateway.0 b a.out.now (value c.in_ok-size.size) s in
    record {
      answer = w.0;
      bytes = framed-laid 8 a.gateway.0 _ b a.out.now _ _ (omega (arith, f)) (omega (arith, f)) c.put_head.ensures c.put_command.ensures ∙ w.1;
    }
