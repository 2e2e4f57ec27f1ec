-- A walker over a packet area tells the splitter's list: each packet once, in order, one 'too short' exactly if bytes are left, and then it is
-- finished. Assumes nothing.
use Rattle.std.proofs.Common.{◌≡◌, ℕ, zero, suc, ◌+◌, ◌-◌, ◌<◌, ◌≤◌, List, [], ◌∷◌, length, take, drop, sym, refl, ap, ◌∙◌, arith, length-drop, drop_of_length-le, length-take-le, ne_eqb, Some, None, Result, Ok, Err}
use Rattle.network.specs.declared.Packet.{Packet}
use Rattle.network.specs.declared.PacketTooShort.{PacketTooShort}
use Rattle.network.specs.declared.received_packets.ReceivedPackets.{ReceivedPackets}
use Rattle.network.specs.Split.{Split, packets_past, packets_of, Found, found_short, found_at}
use Rattle.network.specs.Walker.{place_after, moved_on, Next, Nexts, none, then, told_of, first_told}
use Rattle.network.proofs.Walk.{seen, packets_of-seen, found_at-finished, found_at-ahead, found_at-left}

-- what a call of `next` tells, by its case, and where the walker goes on: a loop over a walker cites these
module _ (w u : ReceivedPackets) (f : Found) (n : Next w f u) where
  pub next-packet : (p : Packet) → f ≡ Some (Ok p) → (found_at w.area.now w.at ≡ Some (Ok p)) × (u ≡ record { area = w.area; at = p.end })
  next-packet p e = let g : found_at w.area.now w.at ≡ Some (Ok p) = sym n.tells ∙ e in (g, n.moves ∙ rw g)

  pub next-short : (e : PacketTooShort) → f ≡ Some (Err e) → found_at w.area.now w.at ≡ found_short
  next-short e q = sym n.tells ∙ q

  pub next-none : f ≡ None → found_at w.area.now w.at ≡ None
  next-none q = sym n.tells ∙ q

-- a packet or too few bytes bring the walker nearer to the end of its area
nearer : (a : List ℕ) (at : ℕ) (r : Result Packet PacketTooShort) → found_at a at ≡ Some r → length a - place_after a at (Some r) < length a - at
nearer a at (Ok p) f = omega (arith, found_at-ahead a at p.data_at p.end f)
nearer a at (Err e) f = omega (arith, found_at-left a at f)

pub next-nearer : (w u : ReceivedPackets) (r : Result Packet PacketTooShort) → Next w (Some r) u → length u.area.now - u.at < length w.area.now - w.at
next-nearer w u r n = rw (n.moves, sym n.tells) (nearer w.area.now w.at r (sym n.tells))

-- what a split from a place on tells
abbrev tells_of : ℕ → Split → List Found
tells_of at s = told_of at s.packets s.rest

module _ (a : List ℕ) (at : ℕ) where
  -- one look tells the first of what is told from its place on, and the rest is told from the place where it goes on
  tells-on : (n : ℕ) (f : Found) → found_at a at ≡ f → first_told (suc n) (tells_of at (seen a at f)) ≡ f ∷ first_told n (tells_of (place_after a at f) (packets_of (drop (place_after a at f) a)))
  unfolding packets_past
  tells-on n (Some (Ok q)) p =
      let h = found_at-ahead a at q.data_at q.end p in
      let k : q.end - at ≤ length (drop at a) = simp length-drop (omega arith) in
      let l : at + length (take (q.end - at) (drop at a)) ≡ q.end = omega (arith, length-take-le (q.end - at) (drop at a) k) in
      rw (l, sym h.0)
  tells-on n (Some (Err e)) p =
      let h = found_at-left a at p in
      let k : drop (length a) a ≡ [] = drop_of_length-le a {i = length a} (omega arith) in
      rw (ne_eqb (length (drop at a)) 0 (λ e. omega (arith, simp length-drop at e)), k)
  tells-on n None p = rw (packets_of-seen a at, p)

-- what all calls from a walker on tell
abbrev tells_from : ReceivedPackets → List Found
tells_from w = tells_of w.at (packets_of (drop w.at w.area.now))

nexts-tell : {w v : ReceivedPackets} {fs : List Found} → Nexts w fs v → fs ≡ first_told (length fs) (tells_from w)
nexts-tell none = refl
nexts-tell (then {w} {f = f} {fs = fs} n ns) =
    ap (λ (gs : List Found). f ∷ gs) (nexts-tell ns ∙ ap (λ (z : ReceivedPackets). first_told (length fs) (tells_from z)) n.moves)
    ∙ ap (λ (g : Found). g ∷ first_told (length fs) (tells_from (moved_on w))) n.tells
    ∙ sym (ap (λ (s : Split). first_told (suc (length fs)) (tells_of w.at s)) (packets_of-seen w.area.now w.at) ∙ tells-on w.area.now w.at (length fs) (found_at w.area.now w.at) refl)

-- Calls of `next`, however many, from a walker at the start of its area tell the splitter's list: each packet once, in order, one 'too short'
-- exactly if bytes are left, then finished forever
pub walk-told :
    (w v : ReceivedPackets) (fs : List Found) → w.at ≡ 0 → Nexts w fs v →
    fs ≡ first_told (length fs) (told_of 0 (packets_of w.area.now).packets (packets_of w.area.now).rest)
walk-told w v fs e ns = nexts-tell ns ∙ rw e

-- 01, "The reading of a stream": a walker past its area is finished, made up or not; it stays where it is
pub past-finished : (w u : ReceivedPackets) (f : Found) → length w.area.now ≤ w.at → Next w f u → (f ≡ None) × (u ≡ w)
past-finished w u f h n =
    let e : found_at w.area.now w.at ≡ None = sym (found_at-finished w.area.now w.at h) in
    (n.tells ∙ e, n.moves ∙ rw e)

-- after 'too short' the walker is past its area
pub short-past : (w u : ReceivedPackets) → Next w found_short u → length u.area.now ≤ u.at
short-past w u n = rw (n.moves, sym n.tells) (omega arith)

-- `next` can be called any number of times
pub record Called (n : ℕ) (w : ReceivedPackets) : Type 0 where
  pub told : List Found
  pub last : ReceivedPackets
  pub so-many : length told ≡ n
  pub calls : Nexts w told last

pub called : (n : ℕ) (w : ReceivedPackets) → Called n w
called zero w = record { told = []; last = w; so-many = refl; calls = none }
called (suc n) w =
    let f : Found = found_at w.area.now w.at in
    let i : Called n (moved_on w) = called n (moved_on w) in
    record { told = f ∷ i.told; last = i.last; so-many = ap suc i.so-many; calls = then (record { tells = refl; moves = refl }) i.calls }
