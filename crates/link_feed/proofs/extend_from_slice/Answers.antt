-- `link_feed::extend_from_slice` puts the receiver into ten numbers, unless 12 refuses it, lends them to one advance through the whole slice, and
-- reads them back. Assumes nothing.
use Rattle.std.proofs.Common.{◌≡◌, length, sym, ap, ◌∙◌, rules, le-ltb, lt-ltb}
use Rattle.crc.specs.Crc.{crc_of}
use Rattle.link_receive.specs.declared.Receiver.{Receiver}
use Rattle.link_receive.specs.declared.Tallies.{Tallies}
use Rattle.link_receive.specs.Numbered.{state_number, tallies_at}
use Rattle.link_receive.specs.Step.{made_of, rules_of, quiet}
use Rattle.link_receive.proofs.Numbers.{receiver_at-numbers_of, numbers_told-ok, numbers_told-err}
use Rattle.link_feed.specs.declared.Fed.{Fed}
use Rattle.link_feed.specs.Drain.{drain_of, extend_of}
use Rattle.link_feed.specs.Advance.{held_of}
use Rattle.link_feed.proofs.Lent.{numbers-set}
use Rattle.link_feed.proofs.extend_from_slice.Goals as goal

pub returns-in_default : goal.returns-in_default
unfolding extend_of
returns-in_default c = rw (lt-ltb _ _ (numbers_told-err c.args.r _ (sym c.numbers_of.ensures ∙ c.in_default.is)))

pub advance-a-requires : goal.advance-a-requires
unfolding rules_of
advance-a-requires c = let told = numbers_told-ok c.args.r _ (sym c.numbers_of.ensures ∙ c.in-Ok.is) in (told.0, search rules)

pub returns : goal.returns
unfolding extend_of rules_of
returns c = let a = c.args in
    let r = a.r in
    let told = numbers_told-ok r _ (sym c.numbers_of.ensures ∙ c.in-Ok.is) in
    let f = c.advance-a in
    let numbers = f.new.tallies in
    let ten : length numbers ≡ 10 = search rules in
    let held : Receiver = held_of f.result.state f.new.body f.result.len numbers in
    let back : c.receiver_at.result ≡ held = c.receiver_at.ensures ∙ rw (c.state_number.ensures, numbers-set numbers (state_number f.result.state) f.result.len ten) (receiver_at-numbers_of held) in
    rw (le-ltb _ _ told.0, back)
    (ap (λ (x : Fed). quiet x.next) f.ensures
    ∙ ap (λ (x : Tallies). quiet (drain_of crc_of (made_of r r.state r.body r.len x) a.s.now)) (ap tallies_at told.1 ∙ ap (λ (x : Receiver). x.tallies) (receiver_at-numbers_of r)))
