-- `link_feed::lending::feed_from` feeds what the slice has from the place on. Assumes nothing.
use Rattle.std.proofs.Common.{◌≡◌, ◌+◌, ◌-◌, length, take, drop, ap, arith}
use Rattle.crc.specs.Crc.{crc_of}
use Rattle.link_receive.specs.Numbered.{receiver_at}
use Rattle.link_feed.specs.declared.FedIn.{FedIn}
use Rattle.link_feed.specs.declared.Reached.{Reached}
use Rattle.link_feed.specs.Feed.{feed_of}
use Rattle.link_feed.specs.Lent.{fed_in_of, reached_of}
use Rattle.link_feed.proofs.Lent.{part-from, starts}
use Rattle.link_feed.proofs.lending.feed_from.Goals as goal

pub overflow_add-reached : goal.overflow_add-reached
overflow_add-reached c = let a = c.args in
    let s = a.s.now in
    let st = c.start_of-start in
    let f = c.feed_in-f in
    let u : take (length s - st.result) (drop st.result s) ≡ drop a.at s = rw st.ensures.0 (part-from s a.at) in
    let e : f.result ≡ fed_in_of (feed_of crc_of (receiver_at a.numbers.now a.body.now) (drop a.at s)) = rw u at f.ensures.answer in
    omega (arith, starts crc_of (receiver_at a.numbers.now a.body.now) s a.at, st.ensures.0, ap (λ (x : FedIn). x.taken) e)

pub returns : goal.returns
returns c = let a = c.args in
    let s = a.s.now in
    let r = receiver_at a.numbers.now a.body.now in
    let st = c.start_of-start in
    let f = c.feed_in-f in
    let u : take (length s - st.result) (drop st.result s) ≡ drop a.at s = rw st.ensures.0 (part-from s a.at) in
    let e : f.result ≡ fed_in_of (feed_of crc_of r (drop a.at s)) = rw u at f.ensures.answer in
    let told : ◌≡◌ {A = Reached} (record { answer = f.result.answer; at = st.result + f.result.taken }) (reached_of s a.at (feed_of crc_of r (drop a.at s))) = rw (st.ensures.0, e) in
    let k = ap (λ (x : Reached). x.at) told in
    record { answer = told; numbers = rw u at f.ensures.numbers; units = rw u at f.ensures.units; within = omega (arith, k, starts crc_of r s a.at) }
