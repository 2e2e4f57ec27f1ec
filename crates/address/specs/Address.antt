-- An address and its 16 bits. Assumes nothing.
use Rattle.std.specs.Prelude.{ℕ, ◌+◌, ◌-◌, Bool, true, false, cond, ltb}
use Rattle.address.specs.declared.Address.{Address}
use Rattle.address.specs.declared.Address.TheVariants.{From, To}

-- 01, "Numbers handed back", 13: gateway ID above 7fff
abbrev pub id_limit : ℕ
id_limit = 0x7fff

-- the gateway that an address names, whichever its direction
abbrev pub gateway_of : Address → ℕ
gateway_of (From g) = g.0
gateway_of (To g) = g.0

-- 01, "On the wire": bit 0x8000 set means From
abbrev pub is_from : Address → Bool
is_from (From g) = true
is_from (To g) = false

-- 01, "On the wire": address (2, big-endian; bit 0x8000 set means From): its 16 bits
abbrev pub number_of : Address → ℕ
number_of (From g) = 0x8000 + g.0
number_of (To g) = g.0

-- 01, "What comes over": direction bit, 15-bit ID: the address that 16 bits say
unfoldable pub address_of : ℕ → Address
address_of n = cond (ltb n 0x8000) (To (record { 0 = n })) (From (record { 0 = n - 0x8000 }))
