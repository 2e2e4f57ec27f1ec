-- A node and its address lead to each other, and no ID is 0. Assumes nothing.
use Rattle.std.proofs.Common.{◌≡◌, ℕ, ◌+◌, ◌<◌, Bool, true, false, cond, eqb, ltb, sym, refl, ap, arith, ne_eqb, eqb-true, Some, None}
use Rattle.network.specs.declared.NodeID.{NodeID}
use Rattle.network.specs.Nodes.{node_of, address_of, successor_of}

-- the address of the node that an address names is that address
pub address_of-node_of : (n : ℕ) → address_of (node_of n) ≡ n
unfolding node_of
address_of-node_of n = go (eqb n 0) refl
  where
    go : (t : Bool) → eqb n 0 ≡ t → address_of (cond t None (Some (record { 0 = n }))) ≡ n
    go true e = sym (eqb-true n 0 e)
    go false e = refl

-- a node that has an ID above 0 is the one that its address names
pub node_of-address_of : (id : NodeID) → 0 < id.0 → node_of (address_of (Some id)) ≡ Some id
unfolding node_of
node_of-address_of id h = rw (ne_eqb id.0 0 (λ e. omega arith))

-- no number names an ID of 0, and no successor is 0
pub node_of-some : (n : ℕ) (id : NodeID) → node_of n ≡ Some id → 0 < id.0
unfolding node_of
node_of-some n id = go (eqb n 0) refl
  where
    go : (t : Bool) → eqb n 0 ≡ t → cond t None (Some (record { 0 = n })) ≡ Some id → 0 < id.0
    go true e f = let z : ◌≡◌ {A = ℕ} 0 1 = cc in absurd (omega arith)
    go false e f =
        let g : n ≡ id.0 = ap address_of f in
        above n (λ z. let y : eqb n 0 ≡ true = ap (λ (k : ℕ). eqb k 0) z in let x : ◌≡◌ {A = ℕ} 0 1 = cc in omega arith) g
      where
        above : (n : ℕ) → (n ≡ 0 → ⊥) → n ≡ id.0 → 0 < id.0
        above n f e = omega arith

pub successor_of-some : (n : ℕ) (id : NodeID) → successor_of n ≡ Some id → 0 < id.0
unfolding successor_of
successor_of-some n id = go (ltb n 65535)
  where
    go : (t : Bool) → cond t (Some (record { 0 = n + 1 })) None ≡ Some id → 0 < id.0
    go true f = let g : n + 1 ≡ id.0 = cc in omega arith
    go false f = let z : ◌≡◌ {A = ℕ} 0 1 = cc in absurd (omega arith)
