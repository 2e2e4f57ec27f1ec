-- `link_receive::Receiver::push_u8` is one step: a unit is pushed only where it fits. Assumes nothing.
use Rattle.std.proofs.Common.{sym, ◌∙◌}
use Rattle.link_receive.proofs.Turns.{turn_of-push}
use Rattle.link_receive.proofs.Receiver.push_u8.Goals as goal

pub pushed-self-requires : goal.pushed-self-requires
pushed-self-requires c = turn_of-push _ _ _ _ _ (sym c.turn.ensures ∙ c.in-Push.is)
