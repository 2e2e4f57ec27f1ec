-- `event_log::room_after` takes the room of each packet's record off what is left: the room and what the rest needs keep their difference.
-- Assumes nothing.
use Rattle.event_log.proofs.Areas.{space-packet, space-finished, space-short, area_space}
use Rattle.event_log.proofs.Writes.{room_after-fits, room_after-narrow}
use Rattle.std.specs.Prelude.{Some}
use mathlib.Core.Path.{sym, ap, ◌∙◌}
use native.Mathlib.Omega.{arith}
use Rattle.network.proofs.Walk.{found_at-ahead}
use Rattle.event_log.proofs.room_after.Goals as goal

pub returns : goal.returns
returns c = let a = c.args.area.now in
    let f = sym c.packet_at.ensures ∙ c.in_default.is in
    room_after-fits (area_space a) c.args.room c.loop-found.left (omega (arith, space-finished a c.loop-found.at f, c.loop-found.invariant.1))

pub returns-in_default-found : goal.returns-in_default-found
returns-in_default-found c = let a = c.args.area.now in
    let f = sym c.packet_at.ensures ∙ c.in-Some.is ∙ ap Some c.in_default-found.is in
    room_after-fits (area_space a) c.args.room c.loop-found.left (omega (arith, space-short a c.loop-found.at f, c.loop-found.invariant.1))

pub overflow_sub-packet : goal.overflow_sub-packet
overflow_sub-packet c = omega (arith, found_at-ahead c.args.area.now c.loop-found.at _ _ (sym c.packet_at.ensures ∙ c.in-Some.is ∙ ap Some c.in-Ok.is))

pub overflow_add-packet : goal.overflow_add-packet
overflow_add-packet c = omega (arith, found_at-ahead c.args.area.now c.loop-found.at _ _ (sym c.packet_at.ensures ∙ c.in-Some.is ∙ ap Some c.in-Ok.is))

pub returns-in_err-left : goal.returns-in_err-left
returns-in_err-left c = let a = c.args.area.now in
    let f = sym c.packet_at.ensures ∙ c.in-Some.is ∙ ap Some c.in-Ok.is in
    c.from_residual.ensures
    ∙ room_after-narrow (area_space a) c.args.room (omega (arith, c.in_err-left.ensures, c.loop-found.invariant.1, space-packet a c.loop-found.at _ _ f))

pub loop-found-smaller : goal.loop-found-smaller
loop-found-smaller c = omega (arith, found_at-ahead c.args.area.now c.loop-found.at _ _ (sym c.packet_at.ensures ∙ c.in-Some.is ∙ ap Some c.in-Ok.is))

pub loop-found-preserved : goal.loop-found-preserved
loop-found-preserved c = let a = c.args.area.now in
    let at = c.loop-found.at in
    let f = sym c.packet_at.ensures ∙ c.in-Some.is ∙ ap Some c.in-Ok.is in
    (omega (arith, found_at-ahead a at _ _ f), omega (arith, c.in_ok-left.ensures, c.loop-found.invariant.1, space-packet a at _ _ f))
