-- `doors::receiver::johkkesir_reset_counters` resets the receiver that it is lent and lays out what comes back: 12 leaves it as it was.
-- Assumes nothing.
use Rattle.std.proofs.Common.{◌≡◌, ◌<◌, ◌≤◌, sym, ap, ◌∙◌, arith, lt-ltb, le-ltb}
use Rattle.laws.proofs.Cases.{by}
use Rattle.link_receive.specs.declared.Stepped.{Stepped}
use Rattle.link_receive.specs.declared.Receiver.{Receiver}
use Rattle.link_receive.specs.Numbered.{receiver_at, numbers_of}
use Rattle.link_receive.specs.Step.{rules_of, too_long, reset_of}
use Rattle.link_receive.proofs.Numbers.{numbers_told-ok, numbers_told-err}
use Rattle.doors.proofs.receiver.johkkesir_reset_counters.Goals as goal

-- a reset keeps the length
reset_of-len : (q : Receiver) → (reset_of q).next.len ≡ q.len
unfolding reset_of
reset_of-len q = by (too_long q) (λ t. rw t) (λ t. rw t)

pub returns-in_default : goal.returns-in_default
unfolding reset_of rules_of
returns-in_default c = let a = c.args in
    let q = receiver_at a.numbers.now a.body.now in
    let e : c.reset_counters-f.result ≡ reset_of q = rw c.receiver_at-r.ensures at c.reset_counters-f.ensures in
    let over : (rules_of q).limit < q.len = omega (arith, numbers_told-err _ _ (sym c.numbers_of.ensures ∙ c.in_default.is), ap (λ (x : Stepped). x.next.len) e, reset_of-len q) in
    let t = lt-ltb _ _ over in
    record { value = rw (c.told_by.ensures, e, t); numbers_after = rw t; body_after = rw t }

pub returns : goal.returns
unfolding reset_of rules_of
returns c = let a = c.args in
    let q = receiver_at a.numbers.now a.body.now in
    let e : c.reset_counters-f.result ≡ reset_of q = rw c.receiver_at-r.ensures at c.reset_counters-f.ensures in
    let told = numbers_told-ok _ _ (sym c.numbers_of.ensures ∙ c.in-Ok.is) in
    let within : q.len ≤ (rules_of q).limit = omega (arith, told.0, ap (λ (x : Stepped). x.next.len) e, reset_of-len q) in
    let t = le-ltb _ _ within in
    record { value = rw (c.told_by-2.ensures, e); numbers_after = rw t (told.1 ∙ ap (λ (x : Stepped). numbers_of x.next) e ∙ rw t); body_after = rw t }
