-- `transport_receiver::step_in` is right in 01's words: over the tables that the arrays mean. Assumes nothing.
use borrow.Author.Rules.{rules}
use Rattle.std.specs.Prelude.{Err}
use Rattle.answers.specs.declared.Refusal.TheVariants.{OverLimit}
use Rattle.transport_receiver.specs.State.{frame_of}
use Rattle.transport_receiver.specs.Lent.{arrays, stepped, step_in}
use Rattle.transport_receiver.proofs.Refines.{Sized, step_means}
use Rattle.transport_receiver.proofs.step_in.Goals as goal

pub returns-then-over-clause-means : goal.returns-then-over-clause-means
unfolding step_in
returns-then-over-clause-means c = let a = c.args in
    let r = arrays a.nkeys.now a.numbers.now a.skeys.now a.sequences.now a.ckeys.now a.ctypes.now a.clengths.now a.cpayloads.now a.counters.now in
    let sized : Sized r = record { nkeys = search rules; numbers = search rules; skeys = search rules; sequences = search rules; ckeys = search rules; ctypes = search rules; clengths = search rules; cpayloads = search rules; counters = search rules } in
    step_means (stepped (Err OverLimit) r) r sized (frame_of a.address a.frame_type a.payload.now) (search rules)

pub returns-in_err-barred-clause-means : goal.returns-in_err-barred-clause-means
unfolding step_in
returns-in_err-barred-clause-means c = let a = c.args in
    let r = arrays a.nkeys.now a.numbers.now a.skeys.now a.sequences.now a.ckeys.now a.ctypes.now a.clengths.now a.cpayloads.now a.counters.now in
    let sized : Sized r = record { nkeys = search rules; numbers = search rules; skeys = search rules; sequences = search rules; ckeys = search rules; ctypes = search rules; clengths = search rules; cpayloads = search rules; counters = search rules } in
    step_means (stepped c.from_residual.result r) r sized (frame_of a.address a.frame_type a.payload.now) (search rules)

pub returns-clause-means : goal.returns-clause-means
unfolding step_in
returns-clause-means c = let a = c.args in
    let r = arrays a.nkeys.now a.numbers.now a.skeys.now a.sequences.now a.ckeys.now a.ctypes.now a.clengths.now a.cpayloads.now a.counters.now in
    let sized : Sized r = record { nkeys = search rules; numbers = search rules; skeys = search rules; sequences = search rules; ckeys = search rules; ctypes = search rules; clengths = search rules; cpayloads = search rules; counters = search rules } in
    step_means (stepped c.handled.result (arrays c.handled.new.nkeys c.handled.new.numbers c.handled.new.skeys c.handled.new.sequences c.handled.new.ckeys c.handled.new.ctypes c.handled.new.clengths c.handled.new.cpayloads c.handled.new.counters)) r sized (frame_of a.address a.frame_type a.payload.now) (search rules)
