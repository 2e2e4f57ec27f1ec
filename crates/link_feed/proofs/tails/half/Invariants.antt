-- `link_feed::tails::half` goes back over the 7e before j: each turns over whether a pair is begun, and where none stands no pair is. Assumes nothing.
use Rattle.std.proofs.Common.{◌≡◌, ◌-◌, ◌≤◌, cond, not}
use Rattle.link_feed.specs.Advance.{half_at}
use Rattle.link_feed.proofs.tails.half.Given as goal

abbrev pub invariant-loop-q : goal.invariant-loop-q
invariant-loop-q l = (l.i ≤ l.q) × (l.q ≤ l.j) × (half_at l.s l.i (l.j - l.i) ≡ cond l.odd (not (half_at l.s l.i (l.q - l.i))) (half_at l.s l.i (l.q - l.i)))

abbrev pub decreases-loop-q : goal.decreases-loop-q
decreases-loop-q l = l.q
