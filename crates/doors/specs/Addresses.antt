-- How an address crosses a door. Assumes nothing.
use Rattle.std.specs.Prelude.{ℕ, ◌+◌, Bool, cond}
use Rattle.address.specs.declared.Address.{Address}
use Rattle.address.specs.declared.Address.TheVariants.{From, To}

-- the gateway, and 2^16 more for an address From it
abbrev pub directed : Address → ℕ
directed (From g) = 0x10000 + g.0
directed (To g) = g.0

-- the address From or To a gateway
abbrev pub toward : Bool → ℕ → Address
toward «from» id = cond «from» (From (record { 0 = id })) (To (record { 0 = id }))
