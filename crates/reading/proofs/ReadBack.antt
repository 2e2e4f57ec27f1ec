-- Read-back: a frame within the limit, encoded, come while the line is Idle or in Noise, opens once and closes soundly with exactly its body,
-- and the line is Idle then. For any check and any rules. Assumes nothing.
use mathlib.Core.Path.{◌≡◌, refl, ◌∙◌, ap}
use Prim.Native.Nat.{ℕ, ◌+◌, ◌-◌, ◌≤◌, ◌<◌}
use mathlib.Core.Bool.{Bool, true, false, cond}
use mathlib.Core.List.{List, [], ◌∷◌, ◌++◌, append_assoc, append-nil, map-append}
use native.Mathlib.Omega.{arith}
use native.Mathlib.Nat.{div-add-mod'}
use lib.ListN.{length, length-append}
use lib.Seq.{take_at, get_or-append-add}
use lib.Dec.{ltb}
use borrow.Author.Tests.{ne_eqb, eq-eqb, lt-ltb}
use Rattle.laws.specs.Bytes.{le16}
use Rattle.escaping.specs.Escapes.{meaning, escaped_byte, escaped}
use Rattle.escaping.proofs.Laws.{OnTheWire, itself, coded, escaped_byte-on}
use Rattle.link.specs.Wire as wire
use Rattle.address.specs.Address.{id_limit, gateway_of, number_of}
use Rattle.link.specs.Wire.{Frame, start_of, checked_of, frame_of, body_of, encoded_of}
use Rattle.link.proofs.Body.{length-body_of, frame_of-body_of}
use Rattle.reading.specs.Counters.{Counter, openings, frames, same}
use Rattle.reading.specs.Grammar.{Rules, Line, idle, noisy, Piece, Reading, is7e}
use Rattle.reading.specs.Counts.{sound, checks, verdict, Rest, out, inside, inside_7e, left, one, count, sound_bodies, sound_frames}
use Rattle.reading.proofs.Machine.{counted, closes, Beat, run, reach}
use Rattle.reading.proofs.Books.{tally, bodies, count-more, left-more, sound_bodies-more}
use Rattle.reading.proofs.Verdicts.{verdict-sound}

-- A FRAME'S BODY

-- a list that carries its check is sound
checks-append : (check : List ℕ → ℕ) (front : List ℕ) (c : ℕ) → check front ≡ c → checks check (front ++ le16 c) ≡ true
checks-append check front c e =
    let n : length (front ++ le16 c) ≡ length front + 2 = length-append front (le16 c) in
    let n2 : length front + 2 - 2 ≡ length front + 0 = omega arith in
    let n1 : length front + 2 - 1 ≡ length front + 1 = omega arith in
    let z : length front + 0 ≡ length front = omega arith in
    rw (n, n2, n1, get_or-append-add front (le16 c) 0 0, get_or-append-add front (le16 c) 1 0, z, take_at front (le16 c) (length front) refl, e, div-add-mod' c 256, eq-eqb c c refl)

pub verdict-body_of : (check : List ℕ → ℕ) (f : Frame) → verdict check (body_of check f) ≡ sound
verdict-body_of check f = verdict-sound check (body_of check f) (omega (arith, length-body_of check f)) (checks-append check (checked_of f) _ refl)

-- THE MACHINE OVER AN ENCODED FRAME

-- an encoded frame but for its last byte, with which the machine hands it out
unfoldable pub almost_of : (List ℕ → ℕ) → Frame → List ℕ
almost_of check f = start_of (number_of f.address) ++ (escaped (body_of check f) ++ (0x7e ∷ []))

pub encoded_of-almost_of : (check : List ℕ → ℕ) (f : Frame) → encoded_of check f ≡ almost_of check f ++ (0x08 ∷ [])
unfolding encoded_of almost_of
encoded_of-almost_of check f = simp append_assoc

module _ (rules : Rules) (check : List ℕ → ℕ) where
  -- events and rest of a run
  abbrev pub goes : List ℕ → Rest → Beat
  goes bs r = record { events = run rules check bs r; to = reach rules check bs r }

  -- one byte of the body
  goes-escaped_byte : (b : ℕ) (body more : List ℕ) → length body < rules.limit → goes (escaped_byte b ++ more) (inside body) ≡ goes more (inside (body ++ (b ∷ [])))
  unfolding run reach
  goes-escaped_byte b body more h = go (escaped_byte b) (escaped_byte-on b)
    where
      go : (w : List ℕ) → OnTheWire b w → goes (w ++ more) (inside body) ≡ goes more (inside (body ++ (b ∷ [])))
      go w (itself code n) = let e : is7e b ≡ false = ne_eqb b 0x7e n in rw (e, reach, lt-ltb (length body) rules.limit h)
      go w (coded below m value) = rw (m, reach, lt-ltb (length body) rules.limit h, value)

  goes-escaped : (bs body more : List ℕ) → length body + length bs ≤ rules.limit → goes (escaped bs ++ more) (inside body) ≡ goes more (inside (body ++ bs))
  unfolding escaped
  goes-escaped [] body more h = rw append-nil
  goes-escaped (b ∷ bs) body more h =
      rw (append_assoc (escaped_byte b) (escaped bs) more)
      (goes-escaped_byte b body (escaped bs ++ more) (omega arith) ∙ goes-escaped bs (body ++ (b ∷ [])) more (simp length-append (omega arith)) ∙ rw append_assoc)

  -- From frames and To frames open alike, in Idle and in Noise
  goes-start_of : (from : Bool) (l : Line) (more : List ℕ) → goes (cond from (0x00 ∷ 0xff ∷ 0xff ∷ 0x7e ∷ 0x07 ∷ []) (0xff ∷ 0x7e ∷ 0x07 ∷ []) ++ more) (out l)
      ≡ record { events = counted openings ∷ run rules check more (inside []); to = reach rules check more (inside []) }
  unfolding run reach meaning
  goes-start_of true idle more = refl
  goes-start_of true noisy more = refl
  goes-start_of false idle more = refl
  goes-start_of false noisy more = refl

  module _ (f : Frame) (fits : length f.payload + 6 ≤ rules.limit) (l : Line) where
    -- an encoded frame: one opening, one frame closed soundly with its body, then Idle
    pub goes-encoded_of : goes (encoded_of check f) (out l) ≡ record { events = counted openings ∷ closes sound (body_of check f) ∷ []; to = out idle }
    unfolding run reach encoded_of meaning
    goes-encoded_of =
        goes-start_of (ltb (number_of f.address) 0x8000) l (escaped (body_of check f) ++ wire.end)
        ∙ ap (λ (x : Beat). record { events = counted openings ∷ x.events; to = x.to }) (goes-escaped (body_of check f) [] wire.end (omega (arith, length-body_of check f)))
        ∙ rw (verdict-body_of check f)

    -- without its last byte the frame is open, with its whole body, after a 7e
    pub goes-almost_of : goes (almost_of check f) (out l) ≡ record { events = counted openings ∷ []; to = inside_7e (body_of check f) }
    unfolding run reach almost_of meaning
    goes-almost_of =
        goes-start_of (ltb (number_of f.address) 0x8000) l (escaped (body_of check f) ++ (0x7e ∷ []))
        ∙ ap (λ (x : Beat). record { events = counted openings ∷ x.events; to = x.to }) (goes-escaped (body_of check f) [] (0x7e ∷ []) (omega (arith, length-body_of check f)))

    -- IN A READING: after bytes that leave off outside, Idle or in Noise

    module _ (h : List ℕ) (ps qs : List Piece) (r : Reading rules h ps) (outside : left ps ≡ out l) (s : Reading rules (h ++ encoded_of check f) qs) where
      -- exactly that frame is added to the sound ones
      pub read_back : gateway_of f.address ≤ id_limit → sound_frames check qs ≡ sound_frames check ps ++ (f ∷ [])
      unfolding bodies
      read_back good =
          rw (sound_bodies-more rules check h (encoded_of check f) ps qs r s, outside, ap (λ (x : Beat). x.events) goes-encoded_of)
          (map-append frame_of (sound_bodies check ps) (body_of check f ∷ []) ∙ rw (frame_of-body_of check f good))

      -- the line is Idle then
      pub read-back-left : left qs ≡ out idle
      read-back-left = left-more rules check h (encoded_of check f) ps qs r s ∙ rw (outside, ap (λ (x : Beat). x.to) goes-encoded_of)

      -- openings and frames move by one each, and nothing else
      pub read-back-count : (j : Counter) → count check j qs ≡ count check j ps + (one (same j openings) + one (same j frames))
      unfolding tally
      read-back-count j =
          count-more rules check j h (encoded_of check f) ps qs r s ∙ rw (outside, ap (λ (x : Beat). x.events) goes-encoded_of) (omega arith)
