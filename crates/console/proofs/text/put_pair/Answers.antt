-- `console::text::put_pair` puts the two digits, the higher first. Assumes nothing.
use Rattle.console.proofs.Laws.{put_bytes-pair}
use Rattle.console.proofs.text.put_pair.Goals as goal

pub returns : goal.returns
returns c = put_bytes-pair _ _ _ _ _ c.args.b c.digit.ensures c.digit-2.ensures c.put-next.ensures c.put.ensures
