-- `event_log::put_packets` lays each packet's record behind the one before: what is laid down and what is still to come make up the whole.
-- Assumes nothing.
use Rattle.event_log.proofs.Areas.{space-packet, bytes-finished, bytes-short}
use Rattle.event_log.proofs.Writes.{length_back, put-more}
use Rattle.std.specs.Prelude.{Some}
use mathlib.Core.Path.{sym, ap, ◌∙◌}
use native.Mathlib.Omega.{arith}
use lib.ListN.{take-append-drop}
use Rattle.laws.specs.Bytes.{Bytes}
use Rattle.network.proofs.Walk.{found_at-ahead}
use Rattle.event_log.proofs.put_packets.Goals as goal

pub returns : goal.returns
returns c = let a = c.args.area.now in
    let at = c.loop-found.at in
    let f = sym c.packet_at.ensures ∙ c.in_default.is in
    sym (take-append-drop c.loop-found.to c.loop-found.out) ∙ rw (bytes-finished a at c.args.gateway.0 f) at c.loop-found.invariant.3

pub returns-in_default-found : goal.returns-in_default-found
returns-in_default-found c = let a = c.args.area.now in
    let at = c.loop-found.at in
    let f = sym c.packet_at.ensures ∙ c.in-Some.is ∙ ap Some c.in_default-found.is in
    sym (take-append-drop c.loop-found.to c.loop-found.out) ∙ rw (bytes-short a at c.args.gateway.0 f) at c.loop-found.invariant.3

pub slice_bounds-packet-count-in-Some : goal.slice_bounds-packet-count-in-Some
slice_bounds-packet-count-in-Some c = let a = c.args.area.now in
    let at = c.loop-found.at in
    let f = sym c.packet_at.ensures ∙ c.in-Some.is ∙ ap Some c.in-Ok.is in
    omega (arith, found_at-ahead a at _ _ f)

pub slice_bounds-packet-start-in-Some : goal.slice_bounds-packet-start-in-Some
slice_bounds-packet-start-in-Some c = let a = c.args.area.now in
    let at = c.loop-found.at in
    let f = sym c.packet_at.ensures ∙ c.in-Some.is ∙ ap Some c.in-Ok.is in
    omega (arith, found_at-ahead a at _ _ f)

pub slice_bounds-packet-end-in-Some : goal.slice_bounds-packet-end-in-Some
slice_bounds-packet-end-in-Some c = let a = c.args.area.now in
    let at = c.loop-found.at in
    let f = sym c.packet_at.ensures ∙ c.in-Some.is ∙ ap Some c.in-Ok.is in
    omega (arith, found_at-ahead a at _ _ f)

pub overflow_sub-to : goal.overflow_sub-to
overflow_sub-to c = let a = c.args.area.now in
    let at = c.loop-found.at in
    let f = sym c.packet_at.ensures ∙ c.in-Some.is ∙ ap Some c.in-Ok.is in
    omega (arith, found_at-ahead a at _ _ f)

pub overflow_add-to-in-Some : goal.overflow_add-to-in-Some
overflow_add-to-in-Some c = let a = c.args.area.now in
    let at = c.loop-found.at in
    let f = sym c.packet_at.ensures ∙ c.in-Some.is ∙ ap Some c.in-Ok.is in
    omega (arith, space-packet a at _ _ f)

pub loop-found-smaller : goal.loop-found-smaller
loop-found-smaller c = let a = c.args.area.now in
    let at = c.loop-found.at in
    let f = sym c.packet_at.ensures ∙ c.in-Some.is ∙ ap Some c.in-Ok.is in
    omega (arith, found_at-ahead a at _ _ f)

pub loop-found-preserved : goal.loop-found-preserved
loop-found-preserved c = let a = c.args.area.now in
    let at = c.loop-found.at in
    let f = sym c.packet_at.ensures ∙ c.in-Some.is ∙ ap Some c.in-Ok.is in
    let l = c.loop-found in
    let g = c.args.gateway.0 in
    let b : Bytes a = λ i. (c.type_inv.area i).fits in
    let h = found_at-ahead a at _ _ f in
    let s = space-packet a at _ _ f in
    let i = length_back g c.requires.0 a b at _ _ f l.out l.to l.invariant.2 c.packet.new.out c.packet.ensures.bytes in
    (omega arith, i ∙ l.invariant.1, omega arith, put-more g c.requires.0 a b at _ _ f l.out l.to l.invariant.2 c.packet.new.out c.packet.ensures.bytes ∙ l.invariant.3)
