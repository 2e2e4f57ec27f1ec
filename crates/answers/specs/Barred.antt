-- What is asked of a frame before its type is looked at. Assumes nothing.
use Rattle.std.specs.Prelude.{ℕ, cond, List, length, nat_lt, Result, Ok, Err}
use Rattle.address.specs.Address.{id_limit}
use Rattle.link.specs.Wire.{payload_limit}
use Rattle.answers.specs.declared.Refusal.{Refusal}
use Rattle.answers.specs.declared.Refusal.TheVariants.{InvalidGatewayID, PayloadTooLong}

-- 01, "Numbers handed back": 13, gateway ID above 7fff, made or given; 32, payload over 250 given to transport; the order 12, 13, 32 ..
abbrev pub unless_barred : {A : Type 0} → ℕ → List ℕ → (Refusal → A) → A → A
unless_barred gateway payload refuse go =
    cond (nat_lt id_limit gateway) (refuse InvalidGatewayID)
    (cond (nat_lt payload_limit (length payload)) (refuse PayloadTooLong)
    go)

-- the same where nothing else is done
abbrev pub barred_of : ℕ → List ℕ → Result Unit Refusal
barred_of gateway payload = unless_barred gateway payload Err (Ok tt)
