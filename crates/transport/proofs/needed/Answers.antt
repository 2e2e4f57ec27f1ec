-- `transport::needed` is the sum of the fields, by the law that counts ones; at most three and two ones are taken off. Assumes nothing.
use Rattle.std.proofs.Common.{arith}
use Rattle.transport.proofs.Status.{ones-13, ones-0c, needed-by-ones}
use Rattle.transport.proofs.needed.Goals as goal

pub overflow_cast-result : goal.overflow_cast-result
overflow_cast-result c = omega (arith, ones-13 c.args.status)

pub overflow_sub-result : goal.overflow_sub-result
overflow_sub-result c = omega (arith, ones-13 c.args.status)

pub overflow_cast-result-2 : goal.overflow_cast-result-2
overflow_cast-result-2 c = omega (arith, ones-0c c.args.status)

pub overflow_mul-result : goal.overflow_mul-result
overflow_mul-result c = omega (arith, ones-0c c.args.status)

pub overflow_sub-result-2 : goal.overflow_sub-result-2
overflow_sub-result-2 c = omega (arith, ones-13 c.args.status, ones-0c c.args.status)

pub returns : goal.returns
returns c = needed-by-ones c.args.status
