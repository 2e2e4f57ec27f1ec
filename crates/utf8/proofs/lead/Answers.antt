-- `utf8::lead` goes by where the first byte lies, as `lead_of` does. Assumes nothing.
use borrow.Author.Tests.{lt-ltb, le-ltb}
use Rattle.utf8.specs.Scan.{lead_of}
use borrow.Author.Rules.{rules}
use Rattle.utf8.proofs.lead.Goals as goal

ruleset tests = (rules, lt-ltb, le-ltb)

pub returns-in-224 : goal.returns-in-224
unfolding lead_of
returns-in-224 c = rw c.in-224.is c.wants-in-224.ensures

pub returns-in-237 : goal.returns-in-237
unfolding lead_of
returns-in-237 c = rw c.in-237.is c.wants-in-237.ensures

pub returns-in-240 : goal.returns-in-240
unfolding lead_of
returns-in-240 c = rw c.in-240.is c.wants-in-240.ensures

pub returns-in-244 : goal.returns-in-244
unfolding lead_of
returns-in-244 c = rw c.in-244.is c.wants-in-244.ensures

pub returns-then-is_ascii : goal.returns-then-is_ascii
unfolding lead_of
returns-then-is_ascii c = rw c.wants.ensures (search tests)

pub returns-in-194-to-223 : goal.returns-in-194-to-223
unfolding lead_of
returns-in-194-to-223 c = rw c.wants-in-194-to-223.ensures (search tests)

pub returns-in-225-to-236 : goal.returns-in-225-to-236
unfolding lead_of
returns-in-225-to-236 c = rw c.wants-in-225-to-236.ensures (search tests)

pub returns-in-238-to-239 : goal.returns-in-238-to-239
unfolding lead_of
returns-in-238-to-239 c = rw c.wants-in-238-to-239.ensures (search tests)

pub returns-in-241-to-243 : goal.returns-in-241-to-243
unfolding lead_of
returns-in-241-to-243 c = rw c.wants-in-241-to-243.ensures (search tests)

pub returns-in_default : goal.returns-in_default
unfolding lead_of
returns-in_default c = search tests

pub returns-in_default-2 : goal.returns-in_default-2
unfolding lead_of
returns-in_default-2 c = search tests
