-- A body of a frame, over any check: its length, what is checked of it, and the frame read back out of it. Assumes nothing.
use mathlib.Core.Path.{◌≡◌}
use mathlib.Core.List.{List, [], ◌∷◌, ◌++◌}
use mathlib.Core.Bool.{Bool, true, false, cond}
use lib.Dec.{ltb}
use Prim.Native.Nat.{ℕ, ◌+◌, ◌-◌, ◌^◌, ◌≤◌, ◌<◌}
use native.Mathlib.Omega.{arith}
use lib.ListN.{length, take, drop, length-append}
use lib.Seq.{take_at}
use Rattle.laws.specs.Bytes.{Bytes, Check16, be16, le16, laid_over}
use Rattle.laws.proofs.Bytes.{of16-be16, bytes-append, bytes-be16, bytes-le16}
use Rattle.address.specs.Address.{id_limit, gateway_of, number_of}
use Rattle.address.proofs.Laws.{address_of-number_of}
use Rattle.escaping.proofs.Lengths.{length-escaped-le}
use Rattle.link.specs.Wire.{Frame, start_of, checked_of, body_of, frame_of, encoded_of, payload_limit}
use Rattle.link.proofs.Writes.{length-wire_of}

length-start_of-le : (n : ℕ) → length (start_of n) ≤ 5
length-start_of-le n = go (ltb n 0x8000) (0x00 ∷ 0xff ∷ 0xff ∷ 0x7e ∷ 0x07 ∷ []) (0xff ∷ 0x7e ∷ 0x07 ∷ []) (omega arith) (omega arith)
  where
    go : (t : Bool) (to from : List ℕ) → length to ≤ 5 → length from ≤ 5 → length (cond t to from) ≤ 5
    go true to from h g = h
    go false to from h g = g

module _ (check : List ℕ → ℕ) (f : Frame) where
  pub length-checked_of : length (checked_of f) ≡ length f.payload + 4
  length-checked_of = omega arith

  -- a body is its payload and six bytes
  pub length-body_of : length (body_of check f) ≡ length f.payload + 6
  length-body_of = simp length-append (omega arith)

  -- the part of a buffer that a body was laid over
  pub body-taken : (d out : List ℕ) → d ≡ laid_over (body_of check f) out → take (length f.payload + 6) d ≡ body_of check f
  body-taken d out e = rw e (take_at (body_of check f) (drop (length (body_of check f)) out) (length f.payload + 6) length-body_of)

  -- what stands before the last two bytes is what is checked
  pub body_of-checked : take (length (body_of check f) - 2) (body_of check f) ≡ checked_of f
  body_of-checked =
      let e : length (checked_of f) ≡ length (body_of check f) - 2 = omega (arith, length-body_of, length-checked_of) in
      take_at (checked_of f) (le16 (check (checked_of f))) (length (body_of check f) - 2) e

  -- the frame that a body says is the one that it was made of
  pub frame_of-body_of : gateway_of f.address ≤ id_limit → frame_of (body_of check f) ≡ f
  frame_of-body_of h = rw (of16-be16 (number_of f.address), address_of-number_of f.address h, of16-be16 f.frame_type, body_of-checked)

  -- a body is a list of bytes
  module _ (a : number_of f.address < 2 ^ 16) (k : f.frame_type < 2 ^ 16) (p : Bytes f.payload) where
    pub checked_of-bytes : Bytes (checked_of f)
    checked_of-bytes = bytes-append (be16 (number_of f.address)) (be16 f.frame_type ++ f.payload) (bytes-be16 (number_of f.address) a) (bytes-append (be16 f.frame_type) f.payload (bytes-be16 f.frame_type k) p)

    pub body_of-bytes : Check16 check → Bytes (body_of check f)
    body_of-bytes h = bytes-append (checked_of f) (le16 (check (checked_of f))) checked_of-bytes (bytes-le16 (check (checked_of f)) (h (checked_of f) checked_of-bytes))

  -- 01, "On the wire": the longest encoding has at most 5 + 512 + 2 = 519 bytes
  pub length-encoded_of-le : length f.payload ≤ payload_limit → length (encoded_of check f) ≤ 5 + 512 + 2
  unfolding encoded_of
  length-encoded_of-le h =
      omega (arith, length-wire_of (start_of (number_of f.address)) (body_of check f), length-start_of-le (number_of f.address), length-escaped-le (body_of check f), length-body_of)
