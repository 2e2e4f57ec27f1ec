-- `link_feed::feeding::one` is one step: what the turn asks for. Assumes nothing.
use Rattle.std.proofs.Common.{sym, ◌∙◌, arith, rules}
use Rattle.crc.specs.Crc.{crc_of}
use Rattle.link_receive.specs.Step.{rules_of}
use Rattle.link_feed.specs.Advance.{held_of}
use Rattle.link_receive.proofs.Turns.{turn_of-push}
use Rattle.link_receive.proofs.Steps.{step_of-within}
use Rattle.link_feed.proofs.feeding.one.Goals as goal

pub bounds-body-len : goal.bounds-body-len
unfolding rules_of
bounds-body-len c = omega (arith, turn_of-push _ _ _ _ _ (sym c.turn.ensures ∙ c.in-Push.is))

pub overflow_add-result : goal.overflow_add-result
unfolding rules_of
overflow_add-result c = search rules

pub returns-in-Push : goal.returns-in-Push
unfolding rules_of
returns-in-Push c = let a = c.args in
    let m = sym c.turn.ensures ∙ c.in-Push.is in
    (sym (step_of-within crc_of (held_of a.state a.body.now a.len a.tallies.now) a.b _ c.requires m), omega (arith, turn_of-push _ _ _ _ _ m))
