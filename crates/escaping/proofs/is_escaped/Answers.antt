-- `escaping::is_escaped` is the test of the seven. Assumes nothing.
use Rattle.std.proofs.Common.{rules, arith}
use Rattle.escaping.proofs.Sevens.{seven-is}
use Rattle.escaping.proofs.is_escaped.Goals as goal

pub returns : goal.returns
returns c = rw c.is.ensures (seven-is c.args.b (search rules))
