-- The records of a packet area: their bytes packet by packet, their length, and that each is sound. Assumes nothing.
use mathlib.Core.Path.{◌≡◌, refl, sym, ◌∙◌}
use Prim.Native.Nat.{ℕ, zero, suc, ◌+◌, ◌-◌, ◌*◌, ◌≤◌}
use mathlib.Core.Bool.{Bool, true, false, not, ◌&&◌}
use mathlib.Core.List.{List, [], ◌∷◌, ◌++◌}
use native.Mathlib.Omega.{arith}
use lib.ListN.{length, take, drop, length-append, length-drop}
use lib.Seq.{length-take-le}
use lib.Dec.{leb}
use borrow.Author.Tests.{leb-true, leb-false, le-ltb}
use Rattle.std.specs.Prelude.{None}
use Rattle.laws.specs.Bytes.{Bytes}
use Rattle.laws.proofs.Bytes.{bytes_drop, bytes_take}
use Rattle.network.specs.Split.{packet_size, packets_of, found_packet, found_short, found_at}
use Rattle.network.proofs.Split.{packets_of-packet, packets_of-rest, whole-front}
use Rattle.network.proofs.Walk.{packets_of-seen, found_at-ahead}
use Rattle.sound_record.specs.Record.{written, sound_at}
use Rattle.sound_record.specs.Log.{all_sound}
use Rattle.sound_record.proofs.Soundness.{body_start-written}
use Rattle.event_record.specs.Event.{record_of, packet}
use Rattle.event_record.proofs.Written.{length-framed}
use Rattle.event_record.proofs.Fit.{fits-packet}
use Rattle.event_log.specs.Records.{packets_at, listed, bytes_of, any_over, any_unsound, space_of}

-- the records of an area's packets
abbrev pub area_bytes : ℕ → List ℕ → List ℕ
area_bytes g a = bytes_of written (packets_at g (packets_of a).packets)

abbrev pub area_space : List ℕ → ℕ
area_space a = space_of (packets_of a).packets

length-packets : (g : ℕ) (ps : List (List ℕ)) → length (bytes_of written (packets_at g ps)) ≡ space_of ps
length-packets g [] = refl
length-packets g (p ∷ ps) = length-append (record_of written g (packet p)) _ ∙ rw (length-framed written 7 g p, length-packets g ps)

pub length-area : (g : ℕ) (a : List ℕ) → length (area_bytes g a) ≡ area_space a
length-area g a = length-packets g (packets_of a).packets

-- one look after another: `room_after` and `put_packets` cite these
module _ (a : List ℕ) (at : ℕ) where
  pub bytes-finished : (g : ℕ) → found_at a at ≡ None → area_bytes g (drop at a) ≡ []
  bytes-finished g f = rw (packets_of-seen a at, f)

  pub bytes-short : (g : ℕ) → found_at a at ≡ found_short → area_bytes g (drop at a) ≡ []
  bytes-short g f = rw (packets_of-seen a at, f)

  module _ (d e : ℕ) (f : found_at a at ≡ found_packet d e) where
    pub bytes-packet : (g : ℕ) → area_bytes g (drop at a) ≡ record_of written g (packet (take (e - at) (drop at a))) ++ area_bytes g (drop e a)
    bytes-packet g = rw (packets_of-seen a at, f)

    pub length_found : length (take (e - at) (drop at a)) ≡ e - at
    length_found = let h = found_at-ahead a at d e f in length-take-le (e - at) (drop at a) (simp length-drop (omega arith))

    pub space-packet : area_space (drop at a) ≡ 6 + (e - at) + area_space (drop e a)
    space-packet = rw (packets_of-seen a at, f, length_found, body_start-written)

  pub space-finished : found_at a at ≡ None → area_space (drop at a) ≡ 0
  space-finished f = rw (packets_of-seen a at, f)

  pub space-short : found_at a at ≡ found_short → area_space (drop at a) ≡ 0
  space-short f = rw (packets_of-seen a at, f)

-- the records of an area take at most twice its bytes
space-within : (n : ℕ) (a : List ℕ) → length a ≤ n → area_space a ≤ 2 * length a
space-within zero a l = rw (packets_of-rest a (omega arith)) (omega arith)
space-within (suc n) a l = go (λ k. space-within n (drop (packet_size a) a) (simp length-drop (omega arith))) (leb (packet_size a) (length a)) refl
  where
    go : (packet_size a ≤ length a → area_space (drop (packet_size a) a) ≤ 2 * length (drop (packet_size a) a)) → (t : Bool) → leb (packet_size a) (length a) ≡ t → area_space a ≤ 2 * length a
    go r true e =
        let k : packet_size a ≤ length a = leb-true (packet_size a) (length a) e in
        let i = r k in
        rw (packets_of-packet a k, length-take-le (packet_size a) a k) (omega (arith, length-drop (packet_size a) a, body_start-written))
    go r false e = rw (packets_of-rest a (leb-false (packet_size a) (length a) e)) (omega arith)

pub space-small : (a : List ℕ) → area_space a ≤ 2 * length a
space-small a = space-within (length a) a (omega arith)

module _ (g : ℕ) (h : g ≤ 0x7fff) where
  pub none_over : (ps : List (List ℕ)) → any_over (packets_at g ps) ≡ false
  none_over [] = refl
  none_over (p ∷ ps) = rw (le-ltb 0x7fff g h, none_over ps)

  -- a packet at the front of bytes has a sound record
  sound-front : (a : List ℕ) → Bytes a → packet_size a ≤ length a → sound_at written (record_of written g (packet (take (packet_size a) a))) ≡ true
  sound-front a b l = fits-packet g h (take (packet_size a) a) (bytes_take (packet_size a) a b 6) (whole-front a l)

  sound-within : (n : ℕ) (a : List ℕ) → length a ≤ n → Bytes a → any_unsound (packets_at g (packets_of a).packets) ≡ false
  sound-within zero a l b = rw (packets_of-rest a (omega arith))
  sound-within (suc n) a l b =
      go (λ k. sound-within n (drop (packet_size a) a) (simp length-drop (omega arith)) (bytes_drop (packet_size a) a b)) (leb (packet_size a) (length a)) refl
    where
      go : (packet_size a ≤ length a → any_unsound (packets_at g (packets_of (drop (packet_size a) a)).packets) ≡ false) → (t : Bool) → leb (packet_size a) (length a) ≡ t → any_unsound (packets_at g (packets_of a).packets) ≡ false
      go r true e = let k : packet_size a ≤ length a = leb-true (packet_size a) (length a) e in rw (packets_of-packet a k, sound-front a b k) (r k)
      go r false e = rw (packets_of-rest a (leb-false (packet_size a) (length a) e))

  -- every record of an area of bytes is sound
  pub none-unsound : (a : List ℕ) → Bytes a → any_unsound (packets_at g (packets_of a).packets) ≡ false
  none-unsound a b = sound-within (length a) a (omega arith) b

  -- and so is the one at a place
  pub sound-found : (a : List ℕ) → Bytes a → (at d e : ℕ) → found_at a at ≡ found_packet d e → sound_at written (record_of written g (packet (take (e - at) (drop at a)))) ≡ true
  sound-found a b at d e f =
      head-sound (sound_at written (record_of written g (packet (take (e - at) (drop at a))))) (all_sound (sound_at written) (listed written (packets_at g (packets_of (drop e a)).packets))) (rw (packets_of-seen a at, f) at (none-unsound (drop at a) (bytes_drop at a b)))
    where
      head-sound : (t u : Bool) → not (t && u) ≡ false → t ≡ true
      head-sound true u q = refl
      head-sound false u q = sym q
