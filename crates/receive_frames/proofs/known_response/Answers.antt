-- `receive_frames::known_response` is right: what is read decides. Assumes nothing.
use Rattle.receive_frames.proofs.Read.{response-fits}
use borrow.Author.Rules.{rules}
use Rattle.receive_frames.proofs.known_response.Goals as goal

pub good_response-requires : goal.good_response-requires
good_response-requires c = (search rules, search (rules, response-fits))
