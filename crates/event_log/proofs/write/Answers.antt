-- `event_log::write` asks for 13 of the frame's gateway, and then writes what the answer says. Assumes nothing.
use Rattle.address.specs.Address.{gateway_of}
use Rattle.event_log.proofs.Writes.{gives-refused, gives-said}
use borrow.Author.Rules.{rules}
use Rattle.event_log.proofs.write.Goals as goal

pub returns-then-id-gt-ID_LIMIT : goal.returns-then-id-gt-ID_LIMIT
returns-then-id-gt-ID_LIMIT c = let a = c.args in
    let w = gives-refused (gateway_of a.address) c.gateway-id.result.0 _ a.out.now c.gateway-id.ensures c.if-id-gt-ID_LIMIT.true in
    record { answer = w.0; bytes = w.1 }

pub returns : goal.returns
returns c = let a = c.args in
    let w = gives-said a.cpayloads.now a.payload.now a.out.now (gateway_of a.address) c.gateway-id.result.0 a.answer c.gateway-id.ensures (search rules) _ _ (c.write_event.ensures.answer, c.write_event.ensures.bytes) in
    record { answer = w.0; bytes = w.1 }
