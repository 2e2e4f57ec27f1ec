-- Records at the places of a log: what stands there, that a record's length gives its end, and that no two records stand at one place.
-- Assumes nothing.
use mathlib.Core.Path.{◌≡◌, refl, sym, ◌∙◌, ap}
use Prim.Native.Nat.{ℕ, ◌+◌, ◌-◌, ◌≤◌, ◌<◌}
use mathlib.Core.Bool.{Bool, true, false}
use mathlib.Core.List.{List, ◌++◌}
use Rattle.std.specs.Prelude.{Some, None}
use Rattle.std.specs.Bool.{then_some}
use Rattle.std.specs.List.{slice_range}
use native.Mathlib.Omega.{arith}
use lib.ListN.{length, take, drop, length-take, length-drop, take-append-drop, get_or-append}
use lib.Seq.{get_or-take, get_or-drop, length-take-le, take_all, take-append_seam, drop-append_seam}
use Rattle.laws.specs.Bytes.{be16_at}
use Rattle.sound_record.specs.Record.{body_start, sound_at, record_at, stands_at}
use Rattle.sound_record.proofs.Soundness.{body_start-least, sound-parts, not_sound}

-- a start of a list is as many of its elements as the start has
take-length-take : (n : ℕ) (l : List ℕ) → take (length (take n l)) l ≡ take n l
take-length-take n l = ap (take (length (take n l))) (sym (take-append-drop n l)) ∙ take-append_seam (take n l) (drop n l)

module _ (v : ℕ) (log : List ℕ) (at : ℕ) where
  -- the length of what stands at a place is the one that is read there
  be16_at-record_at : be16_at (record_at log at) 0 ≡ be16_at log at
  be16_at-record_at =
      let n = 2 + be16_at log at in
      let z : at + 0 ≡ at = omega arith in
      rw (get_or-take n (drop at log) 0 0 (omega arith), get_or-take n (drop at log) (0 + 1) 0 (omega arith), get_or-drop at log 0 0, get_or-drop at log (0 + 1) 0, z)

  pub stands-sound : sound_at v (record_at log at) ≡ true → stands_at v log at ≡ Some (at + length (record_at log at))
  unfolding stands_at
  stands-sound e = rw e

  pub stands-nothing : sound_at v (record_at log at) ≡ false → stands_at v log at ≡ None
  unfolding stands_at
  stands-nothing e = rw e

  -- fewer bytes are left than the least record has
  pub stands-few : length log - at < body_start v → stands_at v log at ≡ None
  stands-few h = stands-nothing (not_sound v (record_at log at) (λ p. omega (arith, simp (length-take, length-drop) at p.head)))

  -- fewer bytes are left than the length says
  pub stands-cut : length log - at < 2 + be16_at log at → stands_at v log at ≡ None
  stands-cut h =
      stands-nothing
      (not_sound v (record_at log at) (λ p. omega (arith, simp (length-take, length-drop) at p.whole, be16_at-record_at)))

  -- what the log has from the place on, as a slice of it
  module _ (rest : List ℕ) (s : rest ≡ slice_range log at (length log)) where
    rest-drop : rest ≡ drop at log
    rest-drop = s ∙ take_all (length log - at) (drop at log) (simp length-drop (omega arith))

    -- the length is read there
    pub be16_at-rest : be16_at rest 0 ≡ be16_at log at
    be16_at-rest = let z : at + 0 ≡ at = omega arith in rw (rest-drop, get_or-drop at log 0 0, get_or-drop at log (0 + 1) 0, z)

    -- the record lies within the log, and a test of just its bytes decides
    pub stands-tested : (n : ℕ) → n ≡ 2 + be16_at rest 0 → n ≤ length rest → (r : List ℕ) → r ≡ slice_range rest 0 n
        → then_some (sound_at v r) (at + n) ≡ stands_at v log at
    unfolding stands_at
    stands-tested n e h r q =
        let f : n ≡ 2 + be16_at log at = e ∙ ap (λ (k : ℕ). 2 + k) be16_at-rest in
        let l : length (record_at log at) ≡ n = length-take-le (2 + be16_at log at) (drop at log) (omega (arith, ap length rest-drop)) ∙ sym f in
        let same : r ≡ record_at log at = q ∙ (let z : n - 0 ≡ n = omega arith in rw (z, rest-drop, ← f)) in
        rw (same, l)

-- bytes that end where their length says
pub record Ended (r : List ℕ) : Type 0 where
  pub least : 2 ≤ length r
  pub whole : length r ≡ 2 + be16_at r 0

-- a sound record's length gives its end
pub sound-ended : (v : ℕ) (r : List ℕ) → sound_at v r ≡ true → Ended r
sound-ended v r e = let p = sound-parts v r e in record { least = omega (arith, p.head, body_start-least v); whole = p.whole }

-- a record is sound at one version at most: the one that it shows
pub one-version : (v w : ℕ) (r : List ℕ) → sound_at v r ≡ true → sound_at w r ≡ true → v ≡ w
one-version v w r e f = sym (sound-parts v r e).version ∙ (sound-parts w r f).version

-- such bytes are read off whatever follows them ..
front : (r : List ℕ) → Ended r → (x : List ℕ) → take (2 + be16_at (r ++ x) 0) (r ++ x) ≡ r
front r e x =
    let n : be16_at (r ++ x) 0 ≡ be16_at r 0 = rw (get_or-append r x 0 0 (omega (arith, e.least)), get_or-append r x 0 (0 + 1) (omega (arith, e.least))) in
    rw (n, ← e.whole) (take-append_seam r x)

-- .. so that no two of them start the same bytes
pub same-front : (r s x y : List ℕ) → Ended r → Ended s → r ++ x ≡ s ++ y → r ≡ s
same-front r s x y e f g = sym (front r e x) ∙ ap (λ (l : List ℕ). take (2 + be16_at l 0) l) g ∙ front s f y

-- no sound record starts another, whatever their versions: at one place of a log at most one stands
pub one-record : (v w : ℕ) (r s x y : List ℕ) → sound_at v r ≡ true → sound_at w s ≡ true → r ++ x ≡ s ++ y → r ≡ s
one-record v w r s x y e f g = same-front r s x y (sound-ended v r e) (sound-ended w s f) g

module _ (v : ℕ) (r : List ℕ) (s : sound_at v r ≡ true) where
  -- a sound record that lies in a log stands at its place
  module _ (p x : List ℕ) where
    record_at-within : record_at (p ++ (r ++ x)) (length p) ≡ r
    record_at-within =
        let log = p ++ (r ++ x) in
        let z : length p + 0 ≡ length p = omega arith in
        let e : be16_at (drop (length p) log) 0 ≡ be16_at log (length p) = rw (get_or-drop (length p) log 0 0, get_or-drop (length p) log (0 + 1) 0, z) in
        let d : drop (length p) log ≡ r ++ x = drop-append_seam p (r ++ x) in
        ap (λ (n : ℕ). take (2 + n) (drop (length p) log)) (sym e) ∙ ap (λ (l : List ℕ). take (2 + be16_at l 0) l) d ∙ front r (sound-ended v r s) x

    pub stands-within : stands_at v (p ++ (r ++ x)) (length p) ≡ Some (length p + length r)
    stands-within =
        stands-sound v (p ++ (r ++ x)) (length p) (ap (sound_at v) record_at-within ∙ s)
        ∙ ap (λ (l : List ℕ). Some (length p + length l)) record_at-within

-- where a record is found, the bytes up to its end are sound, and lie within the log
module _ (v : ℕ) (log : List ℕ) (at e : ℕ) where
  found : stands_at v log at ≡ Some e → (sound_at v (record_at log at) ≡ true) × (e ≡ at + length (record_at log at))
  unfolding stands_at
  found = go (sound_at v (record_at log at)) refl
    where
      go : (t : Bool) → sound_at v (record_at log at) ≡ t → then_some t (at + length (record_at log at)) ≡ Some e
          → (sound_at v (record_at log at) ≡ true) × (e ≡ at + length (record_at log at))
      go true s f = (s, cc)
      go false s f = let z : ◌≡◌ {A = ℕ} 0 1 = cc in absurd (omega arith)

  within : body_start v ≤ length (record_at log at) → at + length (record_at log at) ≤ length log
  within h = let i = simp (length-take, length-drop) at h in simp (length-take, length-drop) (omega arith)

  -- it has at least the bytes before a body, and ends within the log
  pub stands-ahead : stands_at v log at ≡ Some e → (at + body_start v ≤ e) × (e ≤ length log)
  stands-ahead f =
      let r = found f in
      let p = sound-parts v (record_at log at) r.0 in
      (omega (arith, p.head, r.1), omega (arith, r.1, within p.head))

  pub stands-bytes : stands_at v log at ≡ Some e → sound_at v (take (e - at) (drop at log)) ≡ true
  stands-bytes f =
      let r = found f in
      let l = length (record_at log at) in
      let n : e - at ≡ l = omega (arith, r.1) in
      ap (λ (k : ℕ). sound_at v (take k (drop at log))) n ∙ ap (sound_at v) (take-length-take (2 + be16_at log at) (drop at log)) ∙ r.0
