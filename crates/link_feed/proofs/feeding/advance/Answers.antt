-- `link_feed::feeding::advance` is the steps one by one: at the loop's head, going on from here ends as from where it began. Assumes nothing.
use Rattle.std.proofs.Common.{◌≡◌, false, ◌&&◌, rules}
use Rattle.crc.specs.Crc.{crc_of}
use Rattle.link_receive.specs.Step.{fresh_of}
use Rattle.link_receive.specs.Numbered.{tallies_at}
use Rattle.std.specs.Option.{is_some}
use Rattle.link_feed.specs.Advance.{held_of}
use Rattle.link_feed.proofs.Goings.{going-led, going-onward, going-ends}
use Rattle.link_feed.proofs.feeding.advance.Goals.{else-stop-via-then-stop+else-is_some, else-stop-via-else-stop}
use Rattle.link_feed.proofs.feeding.advance.Goals as goal

pub loop-i-preserved : goal.loop-i-preserved
loop-i-preserved c = let a = c.args in
    let l = c.loop-i in
    let o = c.line-o in
    let x = c.onward-a in
    let g = going-led crc_of a.s.now a.stop _ fresh_of l.state l.body l.len (tallies_at l.tallies) l.i o.result (tallies_at o.new.tallies) l.invariant o.ensures in
    let r = held_of o.result.state l.body o.result.len o.new.tallies in
    let q = held_of x.result.state x.new.body x.result.len x.new.tallies in
    let goes : a.stop && is_some x.result.frame ≡ false =
    elim c.else-stop.branch [ else-stop-via-then-stop+else-is_some w ↦ rw (w.if-stop.true, ← w.is_some.ensures, w.if-is_some.false) | else-stop-via-else-stop w ↦ rw w.if-stop.false ]
    in
    going-onward crc_of a.s.now a.stop _ r o.result.at g q x.result.frame x.result.at x.ensures goes

pub returns : goal.returns
returns c = let a = c.args in
    let l = c.loop-i in
    going-ends crc_of a.s.now a.stop _ (held_of l.state l.body l.len l.tallies) l.i l.invariant (search rules)
