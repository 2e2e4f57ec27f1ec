-- `link_feed::lending::feed_in` feeds the receiver that it is lent, and writes state and length back before the tallies; 12 leaves all of it. Assumes nothing.
use Rattle.std.proofs.Common.{◌≡◌, ◌<◌, ◌≤◌, length, get_or, sym, ap, ◌∙◌, rules, le-ltb, lt-ltb}
use Rattle.crc.specs.Crc.{crc_of}
use Rattle.link_receive.specs.declared.State.{State}
use Rattle.link_feed.specs.declared.Fed.{Fed}
use Rattle.link_feed.specs.Feed.{feed_of}
use Rattle.link_receive.specs.Step.{rules_of, fresh_of}
use Rattle.link_receive.specs.Numbered.{state_at, state_number, receiver_at, numbers_of}
use Rattle.link_feed.specs.Lent.{fed_in_of}
use Rattle.link_feed.specs.Advance.{held_of, fed_of}
use Rattle.link_feed.proofs.Lent.{numbers-set}
use Rattle.link_feed.proofs.Feeds.{feed_of-over, feed_of-within}
use Rattle.link_feed.proofs.lending.feed_in.Goals as goal

pub returns-then-len-gt-MAX_FRAME_SIZE : goal.returns-then-len-gt-MAX_FRAME_SIZE
unfolding rules_of
returns-then-len-gt-MAX_FRAME_SIZE c = let a = c.args in
    let numbers = a.numbers.now in
    let h : (rules_of fresh_of).limit < get_or numbers 1 0 = search rules in
    let e = feed_of-over crc_of (receiver_at numbers a.body.now) a.s.now h in
    record {
      answer = sym (ap fed_in_of e);
      numbers = rw (lt-ltb (rules_of fresh_of).limit (get_or numbers 1 0) h);
      units = sym (ap (λ (x : Fed). x.next.body) e);
    }

pub returns : goal.returns
unfolding rules_of
returns c = let a = c.args in
    let numbers = a.numbers.now in
    let f = c.advance-a in
    let next = f.new.tallies in
    let ten : length next ≡ 10 = search rules in
    let h : get_or numbers 1 0 ≤ (rules_of fresh_of).limit = search rules in
    let e : fed_of f.result f.new.body next ≡ feed_of crc_of (held_of (state_at (get_or numbers 0 0)) a.body.now (get_or numbers 1 0) numbers) a.s.now =
    f.ensures ∙ sym (feed_of-within crc_of (held_of c.state_at-state.result a.body.now (get_or numbers 1 0) numbers) a.s.now h) ∙ ap (λ (x : State). feed_of crc_of (held_of x a.body.now (get_or numbers 1 0) numbers) a.s.now) c.state_at-state.ensures
    in record {
      answer = ap fed_in_of e;
      numbers = rw (le-ltb (rules_of fresh_of).limit (get_or numbers 1 0) h, c.state_number.ensures) (numbers-set next (state_number f.result.state) f.result.len ten ∙ ap (λ (x : Fed). numbers_of x.next) e);
      units = ap (λ (x : Fed). x.next.body) e;
    }

pub advance-a-requires : goal.advance-a-requires
unfolding rules_of
advance-a-requires c = search rules
