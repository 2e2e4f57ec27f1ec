-- `receive_frames::good_response` is right: the part from `area` on is the packet area. Assumes nothing.
use Rattle.receive_frames.specs.Receive.{good_in}
use mathlib.Core.Path.{◌≡◌}
use Prim.Native.Nat.{◌-◌}
use lib.ListN.{length, take, drop, length-drop}
use lib.Seq.{take_all}
use native.Mathlib.Omega.{arith}
use Rattle.receive_frames.proofs.good_response.Goals as goal

pub returns : goal.returns
unfolding good_in
returns c = let p = c.args.payload.now in
    let a = c.args.area in
    let e : take (length p - a) (drop a p) ≡ drop a p = take_all (length p - a) (drop a p) (omega (arith, length-drop a p)) in
    rw (c.repeats-repeat.ensures, c.count_packets.ensures, c.raise.ensures) (rw e)
