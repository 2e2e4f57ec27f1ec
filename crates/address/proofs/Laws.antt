-- An address and its 16 bits, both ways, and what determines each answer. Assumes nothing.
use mathlib.Core.Path.{◌≡◌, refl, ap}
use Rattle.std.specs.Prelude.{List, Result, Ok, Err}
use mathlib.Core.Bool.{Bool, true, false, cond}
use Prim.Native.Nat.{ℕ, ◌+◌, ◌-◌, ◌≤◌, ◌<◌, ◌^◌}
use native.Mathlib.Omega.{arith}
use lib.Dec.{ltb}
use borrow.Author.Tests.{lt-ltb, le-ltb, ltb-true, ltb-false}
use Rattle.laws.specs.Bytes.{be16}
use Rattle.laws.specs.Handed.{refused, value}
use Rattle.laws.proofs.Numbers.{handed_by-same}
use Rattle.address.specs.Address.{id_limit, gateway_of, is_from, number_of, address_of}
use Rattle.address.specs.Handed.{refusal_of, handed_id, handed_number, handed_bytes, number_handed, bytes_handed}
use Rattle.address.specs.declared.Address.{Address}
use Rattle.address.specs.declared.GatewayID.{GatewayID}
use Rattle.address.specs.declared.InvalidGatewayID.{InvalidGatewayID}
use Rattle.address.specs.declared.Address.TheVariants.{From, To}

-- the round trip from an address whose ID has 15 bits
pub address_of-number_of : (a : Address) → gateway_of a ≤ id_limit → address_of (number_of a) ≡ a
unfolding address_of
address_of-number_of (From g) h =
    let e : 0x8000 + g.0 - 0x8000 ≡ g.0 = omega arith in
    rw (le-ltb (0x8000 + g.0) 0x8000 (omega arith), e)
address_of-number_of (To g) h = rw (lt-ltb g.0 0x8000 (omega arith))

-- the round trip from 16 bits
pub number_of-address_of : (n : ℕ) → number_of (address_of n) ≡ n
unfolding address_of
number_of-address_of n = go (ltb n 0x8000) refl
  where
    go : (t : Bool) → ltb n 0x8000 ≡ t → number_of (cond t (To (record { 0 = n })) (From (record { 0 = n - 0x8000 }))) ≡ n
    go true e = refl
    go false e = let h : 0x8000 ≤ n = ltb-false n 0x8000 e in omega arith

-- 16 bits always say an ID of 15 bits
pub gateway_of-address_of : (n : ℕ) → n < 2 ^ 16 → gateway_of (address_of n) ≤ id_limit
unfolding address_of
gateway_of-address_of n h = go (ltb n 0x8000) refl
  where
    go : (t : Bool) → ltb n 0x8000 ≡ t → gateway_of (cond t (To (record { 0 = n })) (From (record { 0 = n - 0x8000 }))) ≤ id_limit
    go true e = let g : n < 0x8000 = ltb-true n 0x8000 e in omega arith
    go false e = omega arith

-- the direction bit tells From and To apart
pub ltb-number_of : (a : Address) → gateway_of a ≤ id_limit → ltb (number_of a) 0x8000 ≡ cond (is_from a) false true
ltb-number_of (From g) h = le-ltb (0x8000 + g.0) 0x8000 (omega arith)
ltb-number_of (To g) h = lt-ltb g.0 0x8000 (omega arith)

-- what an answer tells of the ID: `encode` cites these
pub number-accepted : (a : Address) (n : ℕ) → number_handed a ≡ value n → (gateway_of a ≤ id_limit) × (n ≡ number_of a)
unfolding number_handed
number-accepted a n = go (ltb id_limit (gateway_of a)) refl
  where
    go : (t : Bool) → ltb id_limit (gateway_of a) ≡ t → cond t (refused 13) (value (number_of a)) ≡ value n → (gateway_of a ≤ id_limit) × (n ≡ number_of a)
    go true p q = absurd (let z : ◌≡◌ {A = ℕ} 0 1 = cc in omega arith)
    go false p q = (ltb-false id_limit (gateway_of a) p, cc)

pub number-refused : (a : Address) → number_handed a ≡ refused 13 → id_limit < gateway_of a
unfolding number_handed
number-refused a = go (ltb id_limit (gateway_of a)) refl
  where
    go : (t : Bool) → ltb id_limit (gateway_of a) ≡ t → cond t (refused 13) (value (number_of a)) ≡ refused 13 → id_limit < gateway_of a
    go true p q = ltb-true id_limit (gateway_of a) p
    go false p q = absurd (let z : ◌≡◌ {A = ℕ} 0 1 = cc in omega arith)

-- the two bytes follow the number
pub bytes_handed-value : (a : Address) (n : ℕ) → number_handed a ≡ value n → bytes_handed a ≡ value (be16 n)
unfolding number_handed bytes_handed
bytes_handed-value a n = go (ltb id_limit (gateway_of a)) (number_of a)
  where
    go : (t : Bool) (m : ℕ) → cond t (refused 13) (value m) ≡ value n → cond t (refused 13) (value (be16 m)) ≡ value (be16 n)
    go true m e = cc
    go false m e = let z : m ≡ n = cc in rw z

pub bytes_handed-refused : (a : Address) → number_handed a ≡ refused 13 → bytes_handed a ≡ refused 13
unfolding number_handed bytes_handed
bytes_handed-refused a = go (ltb id_limit (gateway_of a)) (number_of a)
  where
    go : (t : Bool) (m : ℕ) → cond t (refused 13) (value m) ≡ refused 13 → cond t (refused 13) (value (be16 m)) ≡ refused 13
    go true m e = refl
    go false m e = cc

-- two answers that 01 cannot tell apart are one answer
apart : (d e : InvalidGatewayID) → refusal_of d ≡ refusal_of e → d ≡ e
apart d e p = refl

pub handed_id-same : (a b : Result GatewayID InvalidGatewayID) → handed_id a ≡ handed_id b → a ≡ b
handed_id-same (Ok g) (Ok h) e = let z : g.0 ≡ h.0 = cc in ap (λ (n : ℕ). Ok (record { 0 = n })) z
handed_id-same (Ok g) (Err d) e = cc
handed_id-same (Err d) (Ok h) e = cc
handed_id-same (Err c) (Err d) e = refl

pub handed_number-same : (a b : Result ℕ InvalidGatewayID) → handed_number a ≡ handed_number b → a ≡ b
handed_number-same = handed_by-same refusal_of apart

pub handed_bytes-same : (a b : Result (List ℕ) InvalidGatewayID) → handed_bytes a ≡ handed_bytes b → a ≡ b
handed_bytes-same = handed_by-same refusal_of apart
