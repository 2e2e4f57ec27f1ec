-- What an accepted `encode` wrote: the frame's wire form, of a payload within the limit. Over any check. Assumes nothing.
use mathlib.Core.Path.{◌≡◌, refl}
use Prim.Native.Nat.{ℕ, ◌≤◌}
use mathlib.Core.Bool.{Bool, true, false}
use mathlib.Core.List.{List}
use native.Mathlib.Omega.{arith}
use lib.ListN.{length, take, drop}
use lib.Seq.{take-append_seam}
use lib.Dec.{ltb}
use borrow.Author.Tests.{ltb-false}
use Rattle.laws.specs.Handed.{refused, value}
use Rattle.address.specs.Address.{id_limit, gateway_of}
use Rattle.address.specs.declared.Address.{Address}
use Rattle.link.specs.Wire.{payload_limit, encoded_of}
use Rattle.link.specs.Handed.{frame_for, numbered_handed, numbered_bytes, encode_handed, encode_bytes}

no_value : (m n : ℕ) → refused m ≡ value n → ⊥
no_value m n e = let z : ◌≡◌ {A = ℕ} 0 1 = cc in omega arith

pub record Wrote (check : List ℕ → ℕ) (a : Address) (frame_type : ℕ) (payload out : List ℕ) (n : ℕ) : Type 0 where
  pub good : gateway_of a ≤ id_limit
  pub within : length payload ≤ payload_limit
  pub bytes : take n (encode_bytes check a frame_type payload out) ≡ encoded_of check (frame_for a frame_type payload)

module _ (check : List ℕ → ℕ) (a : Address) (frame_type : ℕ) (payload out : List ℕ) (n : ℕ) where
  abbrev wire : List ℕ
  wire = encoded_of check (frame_for a frame_type payload)

  pub encode-wrote : encode_handed check a frame_type payload (length out) ≡ value n → Wrote check a frame_type payload out n
  unfolding encode_handed encode_bytes numbered_handed numbered_bytes
  encode-wrote e = go (ltb id_limit (gateway_of a)) (ltb payload_limit (length payload)) (ltb (length out) (length wire)) refl refl refl
    where
      go : (x y z : Bool) → ltb id_limit (gateway_of a) ≡ x → ltb payload_limit (length payload) ≡ y → ltb (length out) (length wire) ≡ z → Wrote check a frame_type payload out n
      go true y z p q s = absurd (no_value 13 n (rw p at e))
      go false true z p q s = absurd (no_value 10 n (rw (p, q) at e))
      go false false true p q s = absurd (no_value 11 n (rw (p, q, s) at e))
      go false false false p q s =
          let f : value (length wire) ≡ value n = rw (p, q, s) at e in
          let m : length wire ≡ n = cc in
          record {
            good = ltb-false id_limit (gateway_of a) p;
            within = ltb-false payload_limit (length payload) q;
            bytes = rw (p, q, s, ← m) (take-append_seam wire (drop (length wire) out));
          }
