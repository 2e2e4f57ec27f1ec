-- `link_feed::feed` puts the receiver into ten numbers, unless 12 refuses it, lends them, and reads them back. Assumes nothing.
use Rattle.std.proofs.Common.{◌≡◌, sym, ◌∙◌}
use Rattle.crc.specs.Crc.{crc_of}
use Rattle.link_receive.specs.Numbered.{numbers_of}
use Rattle.link_receive.proofs.Numbers.{receiver_at-numbers_of, numbers_told-ok, numbers_told-err}
use Rattle.link_feed.specs.Feed.{feed_of}
use Rattle.link_feed.specs.Lent.{fed_in_of}
use Rattle.link_feed.proofs.Feeds.{feed_of-over}
use Rattle.link_feed.proofs.Lent.{fed-back}
use Rattle.link_feed.proofs.feed.Goals as goal

pub returns-in_default : goal.returns-in_default
returns-in_default c = let a = c.args in
    sym (feed_of-over crc_of a.r a.s.now (numbers_told-err a.r _ (sym c.numbers_of.ensures ∙ c.in_default.is)))

pub returns : goal.returns
returns c = let a = c.args in
    let r = a.r in
    let put = (numbers_told-ok r _ (sym c.numbers_of.ensures ∙ c.in-Ok.is)).1 in
    let f = c.feed_in-f in
    let e : f.result ≡ fed_in_of (feed_of crc_of r a.s.now) = rw (put, receiver_at-numbers_of r) at f.ensures.answer in
    rw (c.receiver_at.ensures, e, (rw (put, receiver_at-numbers_of r) at f.ensures.numbers), (rw (put, receiver_at-numbers_of r) at f.ensures.units), (rw (receiver_at-numbers_of r) at (fed-back crc_of (numbers_of r) r.body a.s.now)))
