-- `doors::receiver::johkkesir_ledger` takes the slice in and lays out the receiver's numbers, which 12 does not refuse. Assumes nothing.
use Rattle.std.proofs.Common.{◌≡◌, Result, Ok, sym, ap, ◌∙◌, arith}
use Rattle.crc.specs.Crc.{crc_of}
use Rattle.link_receive.specs.declared.Stepped.{Stepped}
use Rattle.link_receive.specs.declared.Receiver.{Receiver}
use Rattle.link_receive.specs.Numbered.{numbers_of, numbers_told}
use Rattle.link_receive.specs.Step.{fresh_of, rules_of}
use Rattle.link_receive.proofs.Numbers.{numbers_told-ok, numbers_told-err}
use Rattle.link_feed.specs.Drain.{extend_of}
use Rattle.link_feed.proofs.Drains.{extend_of-within}
use Rattle.doors.proofs.receiver.johkkesir_ledger.Goals as goal

pub returns-in-Ok : goal.returns-in-Ok
returns-in-Ok c = let s = c.args.s.now in
    let e = c.extend_from_slice-f.ensures ∙ ap (λ (r : Receiver). extend_of crc_of r s) c.new-r.ensures in
    (numbers_told-ok _ _ (sym c.numbers_of.ensures ∙ c.in-Ok.is)).1 ∙ ap (λ (x : Stepped). numbers_of x.next) e

pub returns-in_default : goal.returns-in_default
unfolding rules_of
returns-in_default c = let s = c.args.s.now in
    let e = c.extend_from_slice-f.ensures ∙ ap (λ (r : Receiver). extend_of crc_of r s) c.new-r.ensures in
    absurd (omega (arith, extend_of-within crc_of fresh_of s (omega arith), ap (λ (x : Stepped). x.next.len) e, numbers_told-err _ _ (sym c.numbers_of.ensures ∙ c.in_default.is)))
