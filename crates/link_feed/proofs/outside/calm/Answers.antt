-- `link_feed::outside::calm` goes over idle bytes, and if no opener stands there, over some bytes one by one and then over all up to one. Assumes nothing.
use Rattle.std.proofs.Common.{ℕ, Bool, List, zero-add}
use Rattle.byte_runs.specs.declared.Heard.{Heard}
use Rattle.link_feed.specs.Advance.{Passed}
use Rattle.crc.specs.Crc.{crc_of}
use Rattle.link_receive.specs.Step.{fresh_of}
use Rattle.link_feed.proofs.Passes.{heard, passed_then}
use Rattle.link_feed.proofs.outside.calm.Goals as goal

-- idle bytes have no noise among them, so that what is behind them is all
behind : (s : List ℕ) (n : Bool) (i j : ℕ) (f : Heard) → Passed crc_of fresh_of s n i (heard n 0 j) → Passed crc_of fresh_of s n j f → Passed crc_of fresh_of s n i f
behind s n i j f p q = rw zero-add at (passed_then crc_of fresh_of s n i (heard n 0 j) f p q)

pub returns : goal.returns
returns c = let a = c.args in
    let l = c.lull-start in
    let f = c.few-f in
    let q = c.quiet-q in
    (passed_then crc_of fresh_of a.s.now a.noisy a.i f.result q.result (behind a.s.now a.noisy a.i l.result f.result l.ensures f.ensures.0) q.ensures.0, q.ensures.1)
