-- `byte_runs::is` goes by the sort, and by the byte. Assumes nothing.
use borrow.Author.Tests.{eq-eqb, ne_eqb}
use Rattle.byte_runs.specs.Runs.{is_of}
use Rattle.byte_runs.proofs.is.Goals as goal

pub returns-in-Raw : goal.returns-in-Raw
unfolding is_of
returns-in-Raw c = rw c.in-Raw.is

pub returns-in-Idle : goal.returns-in-Idle
unfolding is_of
returns-in-Idle c = rw c.in-Idle.is c.is_idle.ensures

pub returns-then-b-ne126 : goal.returns-then-b-ne126
unfolding is_of
returns-then-b-ne126 c = rw (c.in-Plain.is, ne_eqb _ _ c.if-b-ne126.true, c.is_fenced.ensures)

pub returns-else-b-ne126 : goal.returns-else-b-ne126
unfolding is_of
returns-else-b-ne126 c = rw (c.in-Plain.is, eq-eqb _ _ c.if-b-ne126.false)

pub returns-then-b-ne7 : goal.returns-then-b-ne7
unfolding is_of
returns-then-b-ne7 c = rw (c.in-Calm.is, ne_eqb _ _ c.if-b-ne7.true)

pub returns-else-b-ne7 : goal.returns-else-b-ne7
unfolding is_of
returns-else-b-ne7 c = rw (c.in-Calm.is, eq-eqb _ _ c.if-b-ne7.false)
