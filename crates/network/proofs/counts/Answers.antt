-- `network::counts` walks from packet to packet: the packets passed and the tally of what is left are the tally of the area. Assumes nothing.
use Rattle.std.proofs.Common.{◌≡◌, ◌+◌, length, Some, sym, ap, ◌∙◌, arith, rules}
use Rattle.network.specs.Split.{tally_of}
use Rattle.network.proofs.Walk.{found_at-ahead, tally-packet, tally-short, tally-finished}
use Rattle.network.proofs.Walker.{next-packet, next-short, next-none}
use Rattle.network.proofs.counts.Goals as goal

pub loop-packet-init : goal.loop-packet-init
loop-packet-init c =
    let p : 0 + (tally_of c.args.area.now).packets ≡ (tally_of c.args.area.now).packets = omega arith in
    rw (c.into_iter-packet-iterator.ensures.into_iter_gives, c.new-packet-items.ensures.0, c.new-packet-items.ensures.1) (search rules, omega arith, rw p)

pub overflow_add-packets : goal.overflow_add-packets
overflow_add-packets c =
    let l = c.loop-packet in
    let g = next-packet _ _ _ c.next.ensures.steps c.in-Ok.field-0 (c.in-Some.is ∙ ap Some c.in-Ok.is) in
    omega (arith, found_at-ahead l.packet-iterator.area.now l.packet-iterator.at _ _ g.0, ap length l.invariant.0)

pub loop-packet-preserved : goal.loop-packet-preserved
loop-packet-preserved c =
    let l = c.loop-packet in
    let g = next-packet _ _ _ c.next.ensures.steps c.in-Ok.field-0 (c.in-Some.is ∙ ap Some c.in-Ok.is) in
    let h = found_at-ahead l.packet-iterator.area.now l.packet-iterator.at _ _ g.0 in
    rw g.1 (l.invariant.0, omega arith, l.invariant.2 ∙ tally-packet _ _ _ _ _ g.0)

pub returns-in-Err : goal.returns-in-Err
returns-in-Err c = sym (c.loop-packet.invariant.2 ∙ tally-short _ _ _ (next-short _ _ _ c.next.ensures.steps _ (c.in-Some.is ∙ ap Some c.in-Err.is)))

pub returns : goal.returns
returns c = sym (c.loop-packet.invariant.2 ∙ tally-finished _ _ _ (next-none _ _ _ c.next.ensures.steps c.in-None.is))
