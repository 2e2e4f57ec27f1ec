-- What an answer hands out: no two answers are alike, and a sound body's frame is the one that its bytes say. Assumes nothing.
use Rattle.std.proofs.Common.{◌≡◌, ℕ, ◌+◌, ◌-◌, ◌≤◌, Some, None, Ok, Err, List, [], ◌∷◌, length, take, drop, sym, refl, ap, arith, length-take-le, take-take, take-add, drop_at}
use Rattle.link.specs.Wire.{frame_of}
use Rattle.reading.specs.Counts.{sound}
use Rattle.link_receive.specs.declared.Head.{Head}
use Rattle.link_receive.specs.Frames.{Answered, handed, payload_of, handed_out}
use Rattle.link_receive.specs.Step.{head_of, judged_of, parsed_of}
use Rattle.link_receive.proofs.Steps.{parsed_of-sound, sound-units}

-- `handed` tells any two answers apart
pub handed-apart : (a b : Answered) → handed a ≡ handed b → a ≡ b
handed-apart (Ok None) (Ok None) e = refl
handed-apart (Ok None) (Ok (Some h)) e = cc
handed-apart (Ok None) (Err x) e = cc
handed-apart (Ok (Some h)) (Ok None) e = cc
handed-apart (Ok (Some h)) (Ok (Some g)) e =
    let p : h.address ≡ g.address = cc in
    let q : h.frame_type.0 ≡ g.frame_type.0 = cc in
    let r : h.len ≡ g.len = cc in
    let s : h.frame_type ≡ g.frame_type = ap (λ (x : ℕ). record { 0 = x }) q in
    rw (p, s, r)
handed-apart (Ok (Some h)) (Err x) e = cc
handed-apart (Err x) (Ok None) e = cc
handed-apart (Err x) (Ok (Some h)) e = cc
handed-apart (Err x) (Err y) e = refl

drop-take : (m k : ℕ) (l : List ℕ) → m ≤ length l → drop m (take (m + k) l) ≡ take k (drop m l)
drop-take m k l h = rw (take-add m k l) (drop_at (take m l) (take k (drop m l)) m (length-take-le m l h))

-- the payload lies in the body where a sound frame's does
payload_of-body : (body : List ℕ) (len : ℕ) → len ≤ length body → 6 ≤ len → payload_of (length (take len body) - 6) body ≡ drop 4 (take (length (take len body) - 2) (take len body))
payload_of-body body len h l =
    let e : length (take len body) ≡ len = length-take-le len body h in
    let f : len - 2 ≡ 4 + (len - 6) = omega arith in
    rw (e, take-take (len - 2) len body (omega arith), f) (sym (drop-take 4 (len - 6) body (omega arith)))

module _ (check : List ℕ → ℕ) where
  parsed_of-says : (s : List ℕ) (h : Head) → parsed_of check s ≡ Ok h → head_of s ≡ h
  unfolding parsed_of
  parsed_of-says s h e =
      let f : judged_of sound s ≡ Ok h = rw (parsed_of-sound check s h e) at e in
      cc

  -- a sound body hands out the frame that its bytes say
  pub handed_out-sound :
      (body : List ℕ) (len : ℕ) (h : Head) → len ≤ length body → parsed_of check (take len body) ≡ Ok h →
      handed_out (Ok (Some h)) body ≡ frame_of (take len body) ∷ []
  handed_out-sound body len h l e =
      rw (← parsed_of-says (take len body) h e, payload_of-body body len l (sound-units check body len h l e))
