-- One look after another meets the packets of an area, in order, and the counts are theirs. Assumes nothing.
use Rattle.std.proofs.Common.{◌≡◌, ℕ, zero, suc, ◌+◌, ◌-◌, ◌<◌, ◌≤◌, Bool, true, false, cond, ltb, leb, List, [], length, take, drop, sym, refl, ap, ◌∙◌, arith, length-drop, drop_of_length-le, drop-drop, ltb-false, ltb-true, le-ltb, ne_eqb, leb-true, Some, None, Ok, Err}
use Rattle.network.specs.declared.Tally.{Tally}
use Rattle.network.specs.Split.{Split, header_size, packet_size, put, packets_past, packets_of, Found, found_packet, found_short, found_at, Walk, finished, too_short, packet, tally_of}
use Rattle.network.proofs.Split.{packets_of-front}

-- what one look says of all that is left
abbrev pub seen : List ℕ → ℕ → Found → Split
seen a at (Some (Ok p)) = put (take (p.end - at) (drop at a)) (packets_of (drop p.end a))
seen a at (Some (Err e)) = record { packets = []; rest = drop at a }
seen a at None = record { packets = []; rest = [] }

pub packets_of-seen : (a : List ℕ) (at : ℕ) → packets_of (drop at a) ≡ seen a at (found_at a at)
unfolding found_at packets_past
packets_of-seen a at = go (ltb at (length a)) refl
  where
    r : List ℕ
    r = drop at a

    n : ℕ
    n = packet_size r

    inner : (u : Bool) → cond u (put (take n r) (packets_of (drop n r))) (record { packets = []; rest = r }) ≡ seen a at (cond u (found_packet (at + header_size) (at + n)) found_short)
    inner true = let e : at + n - at ≡ n = omega arith in rw (drop-drop n at a, e)
    inner false = refl

    go : (t : Bool) → ltb at (length a) ≡ t → packets_of r ≡ seen a at (cond t (cond (leb n (length r)) (found_packet (at + header_size) (at + n)) found_short) None)
    go true e = packets_of-front r (simp length-drop (omega (arith, ltb-true at (length a) e))) ∙ inner (leb n (length r))
    go false e = rw (drop_of_length-le a (ltb-false at (length a) e))

-- where a packet's data starts and ends
abbrev bounds_of : Found → ℕ × ℕ
bounds_of (Some (Ok p)) = (p.data_at, p.end)
bounds_of (Some (Err e)) = (0, 0)
bounds_of None = (0, 0)

module _ (a : List ℕ) (at : ℕ) where
  pub found_at-finished : length a ≤ at → None ≡ found_at a at
  unfolding found_at
  found_at-finished h = rw (le-ltb at (length a) h)

  -- a packet lies ahead and within the area, its data behind its header
  pub found_at-ahead : (d e : ℕ) → found_at a at ≡ found_packet d e → (d ≡ at + 7) × (d ≤ e) × (e ≤ length a)
  unfolding found_at
  found_at-ahead d e = go (ltb at (length a)) refl (leb (packet_size (drop at a)) (length (drop at a))) refl
    where
      go : (t : Bool) → ltb at (length a) ≡ t → (u : Bool) → leb (packet_size (drop at a)) (length (drop at a)) ≡ u
          → cond t (cond u (found_packet (at + header_size) (at + packet_size (drop at a))) found_short) None ≡ found_packet d e → (d ≡ at + 7) × (d ≤ e) × (e ≤ length a)
      go true p true q f =
          let k : at + header_size ≡ d = ap (λ (f : Found). (bounds_of f).0) f in
          let g : at + packet_size (drop at a) ≡ e = ap (λ (f : Found). (bounds_of f).1) f in
          let i = simp length-drop at (leb-true (packet_size (drop at a)) (length (drop at a)) q) in
          let l = ltb-true at (length a) p in
          (omega arith, omega arith, omega arith)
      go true p false q f = let z : ◌≡◌ {A = ℕ} 0 1 = cc in absurd (omega arith)
      go false p u q f = let z : ◌≡◌ {A = ℕ} 0 1 = cc in absurd (omega arith)

  -- where too few bytes are left, one is
  pub found_at-left : found_at a at ≡ found_short → at < length a
  unfolding found_at
  found_at-left = go (ltb at (length a)) refl
    where
      go : (t : Bool) → ltb at (length a) ≡ t → cond t (cond (leb (packet_size (drop at a)) (length (drop at a))) (found_packet (at + header_size) (at + packet_size (drop at a))) found_short) None ≡ found_short → at < length a
      go true p f = ltb-true at (length a) p
      go false p f = let z : ◌≡◌ {A = ℕ} 0 1 = cc in absurd (omega arith)

-- whatever a walk from a place meets is the list of packets from there ..
pub walk-packets_of : (a : List ℕ) {at : ℕ} {s : Split} → Walk a at s → s ≡ packets_of (drop at a)
walk-packets_of a {at} (finished f) = sym (packets_of-seen a at ∙ ap (seen a at) f)
walk-packets_of a {at} (too_short f) = sym (packets_of-seen a at ∙ ap (seen a at) f)
walk-packets_of a {at} (packet {e = e} f w) = ap (put (take (e - at) (drop at a))) (walk-packets_of a w) ∙ sym (packets_of-seen a at ∙ ap (seen a at) f)

walks-within : (n : ℕ) (a : List ℕ) (at : ℕ) → length a ≤ at + n → Walk a at (packets_of (drop at a))
walks-within zero a at l = let f : found_at a at ≡ None = sym (found_at-finished a at (omega arith)) in rw (packets_of-seen a at, f) (finished f)
walks-within (suc n) a at l = rw (packets_of-seen a at) (go (λ e h. walks-within n a e (omega arith)) (found_at a at) refl)
  where
    go : ((e : ℕ) → at < e → Walk a e (packets_of (drop e a))) → (f : Found) → found_at a at ≡ f → Walk a at (seen a at f)
    go r None p = finished p
    go r (Some (Err e)) p = too_short p
    go r (Some (Ok q)) p = let h = found_at-ahead a at q.data_at q.end p in packet p (r q.end (omega arith))

-- .. and a walk from 0 ends and meets the packets of the whole area
pub walk-whole : (a : List ℕ) → Walk a 0 (packets_of a)
walk-whole a = walks-within (length a) a 0 (omega arith)

-- n packets more than counted
abbrev pub more : ℕ → Tally → Tally
more n t = record { packets = n + t.packets; short = t.short }

module _ (a : List ℕ) (at n : ℕ) where
  pub tally-packet : (d e : ℕ) → found_at a at ≡ found_packet d e → more n (tally_of (drop at a)) ≡ more (n + 1) (tally_of (drop e a))
  unfolding tally_of
  tally-packet d e f =
      let p : n + suc (length (packets_of (drop e a)).packets) ≡ n + 1 + length (packets_of (drop e a)).packets = omega arith in
      rw (packets_of-seen a at, f, p)

  pub tally-short : found_at a at ≡ found_short → more n (tally_of (drop at a)) ≡ record { packets = n; short = true }
  unfolding tally_of
  tally-short f =
      let l = found_at-left a at f in
      let p : n + 0 ≡ n = omega arith in
      rw (packets_of-seen a at, f, p, ne_eqb (length (drop at a)) 0 (λ e. omega (arith, simp length-drop at e)))

  pub tally-finished : found_at a at ≡ None → more n (tally_of (drop at a)) ≡ record { packets = n; short = false }
  unfolding tally_of
  tally-finished f = let p : n + 0 ≡ n = omega arith in rw (packets_of-seen a at, f, p)
