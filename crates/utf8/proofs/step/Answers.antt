-- `utf8::step` asks what `step_of` asks, in the same order. Assumes nothing.
use borrow.Author.Tests.{lt-ltb, le-ltb, eq-eqb, ne_eqb}
use Rattle.utf8.specs.Scan.{step_of}
use borrow.Author.Rules.{rules}
use Rattle.utf8.proofs.step.Goals as goal
use Rattle.utf8.proofs.step.Goals.{then-b-w-via-then-b-w, then-b-w-via-else-b-w+then-w-b}

ruleset tests = (rules, lt-ltb, le-ltb, eq-eqb, ne_eqb)

pub returns-then-w-eq0 : goal.returns-then-w-eq0
unfolding step_of
returns-then-w-eq0 c = rw c.lead.ensures (search tests)

pub returns-then-b-w : goal.returns-then-b-w
unfolding step_of
returns-then-b-w c = elim c.then-b-w.branch [ then-b-w-via-then-b-w w ↦ search tests | then-b-w-via-else-b-w+then-w-b w ↦ search tests ]

pub returns : goal.returns
unfolding step_of
returns c = rw c.wants.ensures (search tests)
