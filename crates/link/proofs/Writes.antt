-- What the writing functions lay over their buffers. Assumes nothing.
use mathlib.Core.Path.{◌≡◌, ap, ◌∙◌}
use mathlib.Core.List.{List, [], ◌∷◌, ◌++◌, append_assoc}
use Prim.Native.Nat.{ℕ, ◌+◌, ◌-◌, ◌/◌, ◌%◌, ◌≤◌, ◌<◌}
use native.Mathlib.Nat.{zero-add}
use native.Mathlib.Omega.{arith}
use lib.ListN.{length, take, drop, length-append, length-drop, take-append-drop}
use lib.Seq.{paste, length-paste, take-length, take_at, drop_at, length-take-le}
use borrow.Author.Tests.{lt-ltb, le-ltb}
use Rattle.laws.specs.Bytes.{laid_over, be16, le16}
use Rattle.laws.specs.Handed.{refused, value}
use Rattle.laws.proofs.Lay.{laid_over-append, laid_over-paste, laid_over-take}
use Rattle.words.specs.Words.{copied_in}
use Rattle.words.proofs.Laws.{copied_in-fits, copied_in-laid_over}
use Rattle.address.specs.Address.{number_of}
use Rattle.escaping.specs.Escapes.{escaped}
use Rattle.escaping.specs.Handed.{escape_bytes}
use Rattle.escaping.proofs.Answers.{escape_bytes-fits, escape_bytes-narrow}
use Rattle.link.specs.Wire.{Frame, end, wire_of, body_limit, checked_of, body_of}
use Rattle.link.specs.Handed.{written_handed, written_bytes, bracketed}

pub length-wire_of : (start body : List ℕ) → length (wire_of start body) ≡ length start + length (escaped body) + 2
length-wire_of start body = simp length-append (omega arith)

-- too little room, and enough
module _ (wire out : List ℕ) where
  pub written-narrow : length out < length wire → (refused 11 ≡ written_handed wire (length out)) × (out ≡ written_bytes wire out)
  written-narrow h = let e = lt-ltb (length out) (length wire) h in (rw e, rw e)

  pub written-fits : length wire ≤ length out → (value (length wire) ≡ written_handed wire (length out)) × (laid_over wire out ≡ written_bytes wire out)
  written-fits h = let e = le-ltb (length out) (length wire) h in (rw e, rw e)

-- a start laid over what stood before the escaped body, and the end behind it
pub bracketed-escaped : (start w out : List ℕ) → length start ≤ length out → bracketed start (length w) (take (length start) out ++ laid_over w (drop (length start) out)) ≡ laid_over ((start ++ w) ++ end) out
bracketed-escaped start w out h =
    let d = take (length start) out ++ laid_over w (drop (length start) out) in
    let p : paste d 0 start (length start) ≡ laid_over (start ++ w) out =
    rw (zero-add, take-length start, drop_at (take (length start) out) (laid_over w (drop (length start) out)) (length start) (length-take-le (length start) out h)) (laid_over-append start w out)
    in
    rw (p, ← length-append start w) (laid_over-paste (start ++ w) end out)

-- two copies lay a start, and the end m bytes behind it
pub bracketed-copies : (start out d₁ d₂ : List ℕ) (m : ℕ) → length start + m + 2 ≤ length out
    → d₁ ≡ copied_in out 0 start → d₂ ≡ copied_in d₁ (length start + m) end → d₂ ≡ bracketed start m out
bracketed-copies start out d₁ d₂ m h e₁ e₂ =
    let l : length (paste out 0 start (length start)) ≡ length out = length-paste out 0 start (length start) (omega arith) (omega arith) in
    let f : d₁ ≡ paste out 0 start (length start) = e₁ ∙ copied_in-fits out 0 start (omega arith) in
    e₂ ∙ rw f (copied_in-fits (paste out 0 start (length start)) (length start + m) end (omega arith))

-- the part of the buffer that is left for the escaped body, less two bytes for the end
abbrev pub part_of : List ℕ → List ℕ → List ℕ
part_of start out = take (length out - 2 - length start) (drop (length start) out)

pub length-part_of : (start out : List ℕ) → length start + 2 ≤ length out → length (part_of start out) ≡ length out - 2 - length start
length-part_of start out h = length-take-le (length out - 2 - length start) (drop (length start) out) (simp length-drop (omega arith))

-- the buffer with the part as `escape` leaves it
abbrev pub back_of : List ℕ → List ℕ → List ℕ → List ℕ
back_of start out last = take (length start) out ++ (last ++ drop (length out - 2 - length start) (drop (length start) out))

module _ (start body out last : List ℕ) (open₂ : length start + 2 ≤ length out) (within : length body ≤ body_limit) (left : last ≡ escape_bytes body (part_of start out)) where
  -- the escaped body has room: the whole frame is written
  pub enclosed : (m : ℕ) (d : List ℕ) → length (escaped body) ≤ length (part_of start out) → m ≡ length (escaped body) → d ≡ bracketed start m (back_of start out last)
      → (value (length start + m + 2) ≡ written_handed (wire_of start body) (length out)) × (d ≡ written_bytes (wire_of start body) out)
  enclosed m d fits e p =
      let w = escaped body in
      let k = length start in
      let whole = written-fits (wire_of start body) out (omega (arith, length-wire_of start body, length-part_of start out open₂)) in
      let n : k + m + 2 ≡ length (wire_of start body) = omega (arith, length-wire_of start body) in
      let q : last ≡ laid_over w (part_of start out) = left ∙ escape_bytes-fits body (omega arith) (part_of start out) fits in
      let r : back_of start out last ≡ take k out ++ laid_over w (drop k out) = rw (q, laid_over-take w (drop k out) (length out - 2 - k) fits) in
      (rw n whole.0, p ∙ rw (e, r) (bracketed-escaped start w out (omega arith)) ∙ ap (λ (l : List ℕ). laid_over l out) (append_assoc start w end) ∙ whole.1)

  -- it has not: nothing is
  pub refused-room : length (part_of start out) < length (escaped body)
      → (refused 11 ≡ written_handed (wire_of start body) (length out)) × (back_of start out last ≡ written_bytes (wire_of start body) out)
  refused-room h =
      let whole = written-narrow (wire_of start body) out (omega (arith, length-wire_of start body, length-part_of start out open₂)) in
      let q : last ≡ part_of start out = left ∙ escape_bytes-narrow body (omega arith) (part_of start out) h in
      (whole.0, rw (q, take-append-drop, take-append-drop) whole.1)

-- three copies lay the body over a buffer, whatever the check
pub assembled : (check : List ℕ → ℕ) (f : Frame) (m : ℕ) (body d₁ d₂ d₃ : List ℕ) (c h₁ l₁ h₂ l₂ l₃ h₃ : ℕ)
    → length f.payload + 6 ≤ length body
    → number_of f.address ≡ m → h₁ ≡ m / 256 → l₁ ≡ m % 256 → h₂ ≡ f.frame_type / 256 → l₂ ≡ f.frame_type % 256
    → d₁ ≡ copied_in body 0 (h₁ ∷ l₁ ∷ h₂ ∷ l₂ ∷ [])
    → d₂ ≡ copied_in d₁ 4 f.payload
    → c ≡ check (take (length f.payload + 4) d₂) → l₃ ≡ c % 256 → h₃ ≡ c / 256
    → d₃ ≡ copied_in d₂ (length f.payload + 4) (l₃ ∷ h₃ ∷ [])
    → d₃ ≡ laid_over (body_of check f) body
assembled check f m body d₁ d₂ d₃ c h₁ l₁ h₂ l₂ l₃ h₃ fits num p₁ q₁ p₂ q₂ e₁ e₂ e q₃ p₃ e₃ =
    let head : List ℕ = be16 (number_of f.address) ++ be16 f.frame_type in
    let n : length (checked_of f) ≡ length f.payload + 4 = omega arith in
    let g₁ : d₁ ≡ laid_over head body = e₁ ∙ rw (p₁, q₁, p₂, q₂, ← num) (copied_in-laid_over [] head body (omega arith)) in
    let g₂ : d₂ ≡ laid_over (checked_of f) body = e₂ ∙ rw g₁ (copied_in-laid_over head f.payload body (omega arith)) in
    let g : c ≡ check (checked_of f) = e ∙ rw g₂ (ap check (take_at (checked_of f) (drop (length (checked_of f)) body) (length f.payload + 4) n)) in
    e₃ ∙ rw (q₃, p₃, g, g₂, ← n) (copied_in-laid_over (checked_of f) (le16 (check (checked_of f))) body (omega arith))
