-- What stands behind 13 and 32: refused as they refuse, or done as if they were not asked. Assumes nothing.
use mathlib.Core.Path.{◌≡◌}
use Prim.Native.Nat.{ℕ}
use mathlib.Core.List.{List}
use native.Mathlib.Omega.{arith}
use lib.ListN.{length}
use lib.Dec.{ltb}
use Rattle.std.specs.Prelude.{Ok, Err}
use Rattle.laws.proofs.Cases.{by}
use Rattle.answers.specs.Barred.{unless_barred, barred_of}
use Rattle.answers.specs.declared.Refusal.{Refusal}
use Rattle.answers.specs.declared.Refusal.TheVariants.{InvalidGatewayID, PayloadTooLong}

module _ {A : Type 0} (g : ℕ) (p : List ℕ) (refuse : Refusal → A) (go : A) where
  pub barred-refuses : (r : Refusal) → barred_of g p ≡ Err r → unless_barred g p refuse go ≡ refuse r
  barred-refuses r h =
      by (ltb 0x7fff g)
      (λ e. let v : Err InvalidGatewayID ≡ Err r = rw e at h in let w : InvalidGatewayID ≡ r = cc in rw (e, w))
      (λ e. by (ltb 250 (length p))
      (λ l. let v : Err PayloadTooLong ≡ Err r = rw (e, l) at h in let w : PayloadTooLong ≡ r = cc in rw (e, l, w))
      (λ l. absurd (let w : Ok tt ≡ Err r = rw (e, l) at h in let z : ◌≡◌ {A = ℕ} 0 1 = cc in omega arith)))

  pub barred-passes : barred_of g p ≡ Ok tt → unless_barred g p refuse go ≡ go
  barred-passes h =
      by (ltb 0x7fff g)
      (λ e. absurd (let w : Err InvalidGatewayID ≡ Ok tt = rw e at h in let z : ◌≡◌ {A = ℕ} 0 1 = cc in omega arith))
      (λ e. by (ltb 250 (length p))
      (λ l. absurd (let w : Err PayloadTooLong ≡ Ok tt = rw (e, l) at h in let z : ◌≡◌ {A = ℕ} 0 1 = cc in omega arith))
      (λ l. rw (e, l)))
