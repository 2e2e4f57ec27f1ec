-- Laws of soundness: what a body of each kind must be, and the parts of a sound record. Assumes nothing.
use mathlib.Core.Path.{◌≡◌, refl, sym, ◌∙◌}
use Prim.Native.Nat.{ℕ, ◌+◌, ◌≤◌, ◌<◌}
use mathlib.Core.Bool.{Bool, true, false, ◌&&◌, and-false}
use mathlib.Core.List.{List, []}
use native.Mathlib.Omega.{arith}
use lib.ListN.{length, get_or, drop}
use lib.Dec.{leb, ltb, eqb}
use borrow.Author.Tests.{leb-true, eqb-true, lt-ltb, le-ltb, le-leb, lt-leb, eq-eqb, ne_eqb}
use Rattle.laws.specs.Bytes.{be16_at}
use Rattle.utf8.specs.Scan.{is_text}
use Rattle.network.specs.Split.{packet_size}
use Rattle.address.specs.Address.{id_limit}
use Rattle.std.specs.Prelude.{◌≢◌}
use Rattle.sound_record.specs.declared.Kind.{Kind}
use Rattle.sound_record.specs.declared.Kind.TheVariants.{EnumerationStarted, Identity, VersionText, EnumerationEnded, SlotCaptured, SlotCounter, Packet, Command}
use Rattle.sound_record.specs.Kinds.{number_of}
use Rattle.sound_record.specs.Record.{written, version_at, kind_at, gateway_at, gateway_end, between, body_start, is_counter, is_body, sound_body, whole, shows, all_below, sound_at}

-- a test that a later one implies need not be asked
implied : (a b : Bool) → (b ≡ true → a ≡ true) → (a && b) ≡ b
implied true b h = refl
implied false true h = h refl
implied false false h = refl

pub both : (a b : Bool) → (a && b) ≡ true → (a ≡ true) × (b ≡ true)
both true b h = (refl, h)
both false b h = let z : ◌≡◌ {A = ℕ} 0 1 = cc in absurd (omega arith)

pub not-true-false : (t : Bool) → (t ≡ true → ⊥) → t ≡ false
not-true-false true h = absurd (h refl)
not-true-false false h = refl

-- what a body of each kind must be
module _ (v : ℕ) (b : List ℕ) where
  exactly : (n m : ℕ) → m ≤ 1024 → (leb n 1024 && eqb n m) ≡ eqb n m
  exactly n m h = implied (leb n 1024) (eqb n m) (λ e. le-leb n 1024 (omega (arith, eqb-true n m e)))

  pub sound_body-1 : sound_body v 1 b ≡ eqb (length b) 0
  unfolding sound_body is_body
  sound_body-1 = exactly (length b) 0 (omega arith)

  pub sound_body-2 : sound_body v 2 b ≡ eqb (length b) 8
  unfolding sound_body is_body
  sound_body-2 = exactly (length b) 8 (omega arith)

  -- version text: non-empty UTF-8, within the limit
  pub sound_body-3 : length b ≤ 1024 → sound_body v 3 b ≡ is_text b
  unfolding sound_body is_body
  sound_body-3 h = rw (le-leb (length b) 1024 h)

  pub sound_body-3-long : 1024 < length b → sound_body v 3 b ≡ false
  unfolding sound_body is_body
  sound_body-3-long h = rw (lt-leb (length b) 1024 h)

  pub sound_body-4 : sound_body v 4 b ≡ eqb (length b) 0
  unfolding sound_body is_body
  sound_body-4 = exactly (length b) 0 (omega arith)

  pub sound_body-5 : sound_body v 5 b ≡ eqb (length b) 0
  unfolding sound_body is_body
  sound_body-5 = exactly (length b) 0 (omega arith)

  -- slot counter and repeat mark
  sound_body-counter : sound_body v 6 b ≡ is_counter b
  unfolding sound_body is_body
  sound_body-counter =
      implied (leb (length b) 1024) (is_counter b)
      (λ e. le-leb (length b) 1024 (omega (arith, eqb-true (length b) 3 (both (eqb (length b) 3) (leb (get_or b 2 0) 1) e).0)))

  pub sound_body-6 : length b ≡ 3 → sound_body v 6 b ≡ leb (get_or b 2 0) 1
  sound_body-6 h = sound_body-counter ∙ rw (eq-eqb (length b) 3 h)

  pub sound_body-6-length : (length b ≡ 3 → ⊥) → sound_body v 6 b ≡ false
  sound_body-6-length h = sound_body-counter ∙ rw (ne_eqb (length b) 3 h)

  -- one whole packet
  pub sound_body-7 : get_or b 6 0 < 256 → sound_body v 7 b ≡ eqb (packet_size b) (length b)
  unfolding sound_body is_body
  sound_body-7 h =
      implied (leb (length b) 1024) (eqb (packet_size b) (length b))
      (λ e. le-leb (length b) 1024 (omega (arith, eqb-true (packet_size b) (length b) e)))

  pub sound_body-7-short : length b < 7 → sound_body v 7 b ≡ false
  unfolding sound_body is_body
  sound_body-7-short h = rw (ne_eqb (packet_size b) (length b) (λ e. omega arith)) (and-false (leb (length b) 1024))

  -- command
  pub sound_body-8 : get_or b 1 0 < 256 → length b ≤ 1025 → sound_body v 8 b ≡ leb (3 + get_or b 1 0) (length b)
  unfolding sound_body is_body
  sound_body-8 h l = rw (lt-ltb (get_or b 1 0) 256 h, le-leb (length b) 1025 l)

  pub sound_body-8-wide : 255 < get_or b 1 0 → sound_body v 8 b ≡ false
  unfolding sound_body is_body
  sound_body-8-wide h = rw (le-ltb (get_or b 1 0) 256 h) (and-false (leb (length b) 1025))

  pub sound_body-8-long : 1025 < length b → sound_body v 8 b ≡ false
  unfolding sound_body is_body
  sound_body-8-long h = rw (lt-leb (length b) 1025 h)

  pub sound_body-8-short : length b < 3 → sound_body v 8 b ≡ false
  unfolding sound_body is_body
  sound_body-8-short h =
      rw (lt-leb (3 + get_or b 1 0) (length b) (omega arith), and-false (ltb (get_or b 1 0) 256)) (and-false (leb (length b) 1025))

  -- a number that no kind has
  pub sound_body-other : (n : ℕ) → ((kind : Kind) → number_of kind ≢ n) → sound_body v n b ≡ false
  unfolding sound_body is_body
  sound_body-other n h =
      rw (
        ne_eqb n 1 (λ e. h EnumerationStarted (sym e)),
        ne_eqb n 2 (λ e. h Identity (sym e)),
        ne_eqb n 3 (λ e. h VersionText (sym e)),
        ne_eqb n 4 (λ e. h EnumerationEnded (sym e)),
        ne_eqb n 5 (λ e. h SlotCaptured (sym e)),
        ne_eqb n 6 (λ e. h SlotCounter (sym e)),
        ne_eqb n 7 (λ e. h Packet (sym e)),
        ne_eqb n 8 (λ e. h Command (sym e)),
      )
      (and-false (leb (length b) 1024))

-- a body stands behind the gateway, in any version
pub body_start-least : (v : ℕ) → gateway_end ≤ body_start v
body_start-least v = omega arith

-- in version 1 it stands right behind it: what is written cites this
pub body_start-written : body_start written ≡ gateway_end
unfolding between
body_start-written = refl

-- no other version has anything between the two either: the functions that take any version cite these
between_none : (v : ℕ) → between v ≡ []
unfolding between
between_none v = refl

pub body_start-none : (v : ℕ) → body_start v ≡ gateway_end
body_start-none v = rw (between_none v)

pub below_none : (v : ℕ) (bytes : List ℕ) → all_below (between v) bytes ≡ true
below_none v bytes = rw (between_none v)

-- nor do the bodies of two versions differ
pub sound_body-alike : (v w kind : ℕ) (b : List ℕ) → sound_body v kind b ≡ sound_body w kind b
unfolding sound_body is_body
sound_body-alike v w kind b = refl

-- the parts of a sound record
pub record Parts (v : ℕ) (r : List ℕ) : Type 0 where
  pub whole : length r ≡ 2 + be16_at r 0
  pub version : get_or r version_at 0 ≡ v
  pub head : body_start v ≤ length r
  pub gateway : be16_at r gateway_at ≤ 0x7fff
  pub between : all_below (between v) (drop gateway_end r) ≡ true
  pub body : sound_body v (get_or r kind_at 0) (drop (body_start v) r) ≡ true

module _ (v : ℕ) (r : List ℕ) where
  pub sound-parts : sound_at v r ≡ true → Parts v r
  unfolding sound_at
  sound-parts e =
      let a = leb (body_start v) (length r) in
      let b = leb (be16_at r gateway_at) id_limit in
      let m = all_below (between v) (drop gateway_end r) in
      let d = sound_body v (get_or r kind_at 0) (drop (body_start v) r) in
      let w = both (whole r) (shows v r && (a && (b && (m && d)))) e in
      let s = both (shows v r) (a && (b && (m && d))) w.1 in
      let h = both a (b && (m && d)) s.1 in
      let g = both b (m && d) h.1 in
      let i = both m d g.1 in
      let n = both (ltb 0 (be16_at r 0)) (ltb version_at (length r) && eqb (get_or r version_at 0) v) s.0 in
      let u = both (ltb version_at (length r)) (eqb (get_or r version_at 0) v) n.1 in
      record {
        whole = eqb-true (length r) (2 + be16_at r 0) w.0;
        version = eqb-true (get_or r version_at 0) v u.1;
        head = leb-true (body_start v) (length r) h.0;
        gateway = leb-true (be16_at r gateway_at) id_limit g.0;
        between = i.0;
        body = i.1;
      }

  -- where all but the body is right, the body decides
  pub sound-body : length r ≡ 2 + be16_at r 0 → get_or r version_at 0 ≡ v → body_start v ≤ length r → be16_at r gateway_at ≤ 0x7fff
      → all_below (between v) (drop gateway_end r) ≡ true → sound_at v r ≡ sound_body v (get_or r kind_at 0) (drop (body_start v) r)
  unfolding sound_at
  sound-body w e h g m =
      rw (
        eq-eqb (length r) (2 + be16_at r 0) w,
        lt-ltb 0 (be16_at r 0) (omega arith),
        lt-ltb version_at (length r) (omega arith),
        eq-eqb (get_or r version_at 0) v e,
        le-leb (body_start v) (length r) h,
        le-leb (be16_at r gateway_at) 0x7fff g,
        m,
      )

  pub not_sound : (Parts v r → ⊥) → sound_at v r ≡ false
  not_sound h = not-true-false (sound_at v r) (λ e. h (sound-parts e))
