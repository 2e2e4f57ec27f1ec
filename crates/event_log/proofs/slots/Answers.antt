-- `event_log::slots` measures all records before it writes one. Assumes nothing.
use mathlib.Core.Path.{◌≡◌, refl, sym, ◌∙◌}
use native.Mathlib.Omega.{arith}
use Rattle.std.proofs.lemmas.Result.{err_from_is_err_and}
use Rattle.event_record.specs.declared.RecordError.TheVariants.{NoRoom}
use Rattle.event_log.proofs.Areas.{area_space}
use Rattle.event_log.proofs.Writes.{length_rest, slot-13, slot-40, slot-written, room_after-left, room_after-short, refused_no_room}
use Rattle.event_log.proofs.slots.Goals as goal

pub returns-then-gateway-gt-ID_LIMIT : goal.returns-then-gateway-gt-ID_LIMIT
returns-then-gateway-gt-ID_LIMIT c = let a = c.args in
    let w = slot-13 a.gateway.0 a.counter a.repeat a.area.now a.out.now c.if-gateway-gt-ID_LIMIT.true in
    record { answer = w.0; bytes = w.1 }

pub returns-in_err-room : goal.returns-in_err-room
returns-in_err-room c = let a = c.args in
    let p = err_from_is_err_and c.from_residual.result c.from_residual.ensures.1 in
    let h = c.in_err-room.ensures in
    let e : p.0 ≡ NoRoom = p.2 ∙ refused_no_room _ _ h.value h.ok_part in
    let s = rw h.ok_part at c.checked_sub.ensures in
    let w = slot-40 a.gateway.0 a.counter a.repeat a.area.now a.out.now (omega arith) (λ i. (c.type_inv.area i).fits) (omega (arith, s)) in
    rw (p.1, e) (record { answer = w.0; bytes = w.1 })

pub returns-in_err-left : goal.returns-in_err-left
returns-in_err-left c = let a = c.args in
    let p = err_from_is_err_and c.from_residual-in_err-left.result c.from_residual-in_err-left.ensures.1 in
    let h = c.in_err-left.ensures in
    let e : p.0 ≡ NoRoom = p.2 ∙ refused_no_room _ _ h.value h.ok_part in
    let s = rw c.in_ok-room.ensures.ok_part at c.checked_sub.ensures in
    let r = room_after-short (area_space a.area.now) _ (sym c.room_after.ensures ∙ h.ok_part) in
    let w = slot-40 a.gateway.0 a.counter a.repeat a.area.now a.out.now (omega arith) (λ i. (c.type_inv.area i).fits) (omega (arith, s, r)) in
    rw (p.1, e) (record { answer = w.0; bytes = w.1 })

pub put_packets-requires : goal.put_packets-requires
put_packets-requires c = let a = c.args in
    let s = rw c.in_ok-room.ensures.ok_part at c.checked_sub.ensures in
    let k = room_after-left (area_space a.area.now) _ _ (sym c.room_after.ensures ∙ c.in_ok-left.ensures.ok_part) in
    (omega arith, omega (arith, k, s, length_rest c.slot_counter.new.out 9, c.slot_counter.auto.out))

pub overflow_sub-result : goal.overflow_sub-result
overflow_sub-result c =
    let s = rw c.in_ok-room.ensures.ok_part at c.checked_sub.ensures in
    omega (arith, s, room_after-left (area_space c.args.area.now) _ _ (sym c.room_after.ensures ∙ c.in_ok-left.ensures.ok_part))

pub returns : goal.returns
returns c = let a = c.args in
    let s = rw c.in_ok-room.ensures.ok_part at c.checked_sub.ensures in
    let k = room_after-left (area_space a.area.now) _ _ (sym c.room_after.ensures ∙ c.in_ok-left.ensures.ok_part) in
    let w = slot-written a.gateway.0 a.counter a.repeat a.area.now a.out.now (omega arith) (λ i. (c.type_inv.area i).fits) (omega (arith, s, k)) _ (omega (arith, s, k)) c.slot_counter.new.out c.put_packets.new.out _ c.slot_counter.ensures.bytes c.put_packets.ensures refl in
    record { answer = w.0; bytes = w.1 }
