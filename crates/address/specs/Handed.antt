-- What the functions of this crate hand back, in 01's numbers and values. Assumes nothing.
use Rattle.std.specs.Prelude.{◌≡◌, ℕ, List, [], ◌∷◌, ltb, Result, Ok, Err}
use Rattle.laws.specs.Bytes.{be16}
use Rattle.laws.specs.Handed.{Handed, value}
use Rattle.laws.specs.Numbers.{Refusal, refused_as, handed_by, row, judged, invalid_id}
use Rattle.address.specs.Address.{id_limit, gateway_of, number_of, address_of}
use Rattle.address.specs.declared.Address.{Address}
use Rattle.address.specs.declared.GatewayID.{GatewayID}
use Rattle.address.specs.declared.InvalidGatewayID.{InvalidGatewayID}

-- 01, "Numbers handed back", 13: gateway ID above 7fff, made or given
abbrev pub refusal_of : InvalidGatewayID → Refusal
refusal_of e = invalid_id

-- what is handed back of an ID that is made: the ID's own number
abbrev pub handed_id : Result GatewayID InvalidGatewayID → Handed ℕ
handed_id (Ok g) = value g.0
handed_id (Err e) = refused_as (refusal_of e)

-- the same of the 16 bits of an address that are asked for
abbrev pub handed_number : Result ℕ InvalidGatewayID → Handed ℕ
handed_number = handed_by refusal_of

-- and of its two bytes
abbrev pub handed_bytes : Result (List ℕ) InvalidGatewayID → Handed (List ℕ)
handed_bytes = handed_by refusal_of

-- 01, "Numbers handed back", 13: gateway ID above 7fff, made: else the ID itself
unfoldable pub id_handed : ℕ → Handed ℕ
id_handed n = judged (row invalid_id (ltb id_limit n) ∷ []) (value n)

-- 01, "Numbers handed back", 13: gateway ID above 7fff, given: else the 16 bits of its address
unfoldable pub number_handed : Address → Handed ℕ
number_handed a = judged (row invalid_id (ltb id_limit (gateway_of a)) ∷ []) (value (number_of a))

-- the same for the two bytes. 01, "On the wire": address (2, big-endian)
unfoldable pub bytes_handed : Address → Handed (List ℕ)
bytes_handed a = judged (row invalid_id (ltb id_limit (gateway_of a)) ∷ []) (value (be16 (number_of a)))

-- what the conversions between these types give: the ID of a number, the 16 bits of an address, and the address of 16 bits
abbrev pub MakesID : ℕ → Result GatewayID InvalidGatewayID → Type 0
MakesID n r = handed_id r ≡ id_handed n

abbrev pub MakesNumber : Address → Result ℕ InvalidGatewayID → Type 0
MakesNumber a r = handed_number r ≡ number_handed a

abbrev pub MakesAddress : ℕ → Address → Type 0
MakesAddress n a = a ≡ address_of n
