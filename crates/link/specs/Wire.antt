-- A frame and its form on the wire, over any check. Assumes nothing.
use Rattle.std.specs.Prelude.{ℕ, ◌-◌, cond, List, [], ◌∷◌, ◌++◌, length, take, drop, ltb}
use Rattle.laws.specs.Bytes.{be16, le16, be16_at}
use Rattle.escaping.specs.Escapes.{escaped}
use Rattle.address.specs.Address.{number_of, address_of}
use Rattle.address.specs.declared.Address.{Address}

-- a frame: its address (direction and gateway ID), the 16 bits of its type, its payload
pub record Frame : Type 0 where
  pub address : Address
  pub frame_type : ℕ
  pub payload : List ℕ

-- 01, "On the wire": a From frame starts ff 7e 07, a To frame 00 ff ff 7e 07 (bit 0x8000 set means From)
abbrev pub start_of : ℕ → List ℕ
start_of address = cond (ltb address 0x8000) (0x00 ∷ 0xff ∷ 0xff ∷ 0x7e ∷ 0x07 ∷ []) (0xff ∷ 0x7e ∷ 0x07 ∷ [])

-- 01, "On the wire": both end 7e 08
abbrev pub end : List ℕ
end = 0x7e ∷ 0x08 ∷ []

-- 01, "On the wire": a body is address (2, big-endian), type (2, big-endian), payload, check of all that: this is all that
abbrev pub checked_of : Frame → List ℕ
checked_of f = be16 (number_of f.address) ++ (be16 f.frame_type ++ f.payload)

-- 01, "The reading of a stream": closed by 7e 08 with at most 256 data units
abbrev pub body_limit : ℕ
body_limit = 256

-- the longest payload: a body less address (2), type (2) and check (2); 01, "Numbers handed back", 10: payload over 250
abbrev pub payload_limit : ℕ
payload_limit = body_limit - 6

-- a body on the line: a start, the body escaped, the end
abbrev pub wire_of : List ℕ → List ℕ → List ℕ
wire_of start body = start ++ (escaped body ++ end)

-- a frame whose address has these 16 bits
abbrev pub frame_at : ℕ → ℕ → List ℕ → Frame
frame_at number frame_type payload = record { address = address_of number; frame_type = frame_type; payload = payload }

-- what a body of at least four bytes and a check says
abbrev pub frame_of : List ℕ → Frame
frame_of body = frame_at (be16_at body 0) (be16_at body 2) (drop 4 (take (length body - 2) body))

module _ (check : List ℕ → ℕ) where
  -- 01, "On the wire": a body is address, type, payload, check of all that (2, little-endian)
  abbrev pub body_of : Frame → List ℕ
  body_of f = checked_of f ++ le16 (check (checked_of f))

  -- the whole frame on the line
  unfoldable pub encoded_of : Frame → List ℕ
  encoded_of f = wire_of (start_of (number_of f.address)) (body_of f)
