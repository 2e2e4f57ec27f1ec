-- What the readers of fixed layouts hand back, in 01's numbers. Assumes nothing.
use mathlib.Core.Path.{◌≡◌, refl, ap}
use mathlib.Core.Bool.{Bool, true, false, cond}
use mathlib.Core.List.{List}
use Prim.Native.Nat.{ℕ, ◌-◌}
use native.Mathlib.Omega.{arith}
use lib.ListN.{length}
use lib.Dec.{eqb, ltb}
use Rattle.laws.specs.Bytes.{be16_at}
use Rattle.laws.specs.Handed.{refused, value}
use Rattle.address.specs.declared.Address.TheVariants.{From, To}
use Rattle.address.specs.Address.{address_of}
use Rattle.std.specs.Prelude.{Result, Ok, Err}
use Rattle.address.specs.declared.GatewayID.{GatewayID}
use Rattle.layouts.specs.declared.WrongLength.{WrongLength}
use Rattle.layouts.specs.declared.NamesFrom.{NamesFrom}
use Rattle.layouts.specs.Layouts.{handed, exactly, at_least, to_gateway, named_of, handed_named}

module _ {A : Type 0} (n : ℕ) (p : List ℕ) (a : A) where
  abbrev wrong : Result A WrongLength
  wrong = Err (record {})

  -- 21 exactly for a length other than n: receive request, identify and enumeration response, enumeration start
  pub handed-exactly : handed (exactly n p a) ≡ cond (eqb (length p) n) (value a) (refused 21)
  handed-exactly = go (eqb (length p) n)
    where
      go : (t : Bool) → handed (cond t (Ok a) wrong) ≡ cond t (value a) (refused 21)
      go true = refl
      go false = refl

  -- 21 exactly for a length below n: command request and response
  pub handed-at_least : handed (at_least n p a) ≡ cond (ltb (length p) n) (refused 21) (value a)
  handed-at_least = go (ltb (length p) n)
    where
      go : (t : Bool) → handed (cond t wrong (Ok a)) ≡ cond t (refused 21) (value a)
      go true = refl
      go false = refl

-- 28 exactly for an address with bit 0x8000 set, and else the gateway that it names
pub handed_named-named_of : (a : List ℕ) → handed_named (named_of a) ≡ cond (ltb (be16_at a 0) 0x8000) (value (be16_at a 0)) (refused 28)
unfolding named_of address_of
handed_named-named_of a = go (be16_at a 0) (ltb (be16_at a 0) 0x8000)
  where
    go : (n : ℕ) (t : Bool) → handed_named (to_gateway (cond t (To (record { 0 = n })) (From (record { 0 = n - 0x8000 })))) ≡ cond t (value n) (refused 28)
    go n true = refl
    go n false = refl

-- what is handed back tells any two answers apart
pub handed_named-apart : (q r : Result GatewayID NamesFrom) → handed_named q ≡ handed_named r → q ≡ r
handed_named-apart (Ok g) (Ok h) e = let f : g.0 ≡ h.0 = cc in ap (λ (n : ℕ). Ok (record { 0 = n })) f
handed_named-apart (Err x) (Err y) e = refl
handed_named-apart (Ok g) (Err y) e = let z : ◌≡◌ {A = ℕ} 0 1 = cc in absurd (omega arith)
handed_named-apart (Err x) (Ok h) e = let z : ◌≡◌ {A = ℕ} 0 1 = cc in absurd (omega arith)
