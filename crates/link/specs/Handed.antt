-- What `encode` hands back, in 01's numbers and values, and what it writes, over any check. Assumes nothing.
use Rattle.std.specs.Prelude.{ℕ, ◌+◌, List, [], ◌∷◌, length, ltb, Result}
use Rattle.std.proofs.Math.Seq.{paste}
use Rattle.laws.specs.Bytes.{laid_if}
use Rattle.laws.specs.Handed.{Handed, value}
use Rattle.laws.specs.Numbers.{Refusal, handed_by, row, judged, too_long, no_room, invalid_id}
use Rattle.address.specs.Address.{id_limit, gateway_of}
use Rattle.address.specs.declared.Address.{Address}
use Rattle.link.specs.Wire.{Frame, end, payload_limit, encoded_of}
use Rattle.link.specs.declared.EncodeError.{EncodeError}
use Rattle.link.specs.declared.EncodeError.TheVariants.{InvalidGatewayID, TooLong, NoRoom}

-- 01, "Numbers handed back", 13: gateway ID above 7fff; 10: encode: payload over 250; 11: encode: room below the exact length
abbrev pub refusal_of : EncodeError → Refusal
refusal_of InvalidGatewayID = invalid_id
refusal_of TooLong = too_long
refusal_of NoRoom = no_room

-- .. else how many bytes were written
abbrev pub handed : Result ℕ EncodeError → Handed ℕ
handed = handed_by refusal_of

-- 01, "Numbers handed back", 11: room below the exact length
abbrev pub written_handed : List ℕ → ℕ → Handed ℕ
written_handed wire room = judged (row no_room (ltb room (length wire)) ∷ []) (value (length wire))

-- the lent bytes afterwards: the bytes of the wire over their start, if they have room
abbrev pub written_bytes : List ℕ → List ℕ → List ℕ
written_bytes wire out = laid_if (written_handed wire (length out)) wire out

-- a start written over a buffer, and the end m bytes behind it
abbrev pub bracketed : List ℕ → ℕ → List ℕ → List ℕ
bracketed start m out = paste (paste out 0 start (length start)) (length start + m) end 2

-- the frame of an address, a type and a payload
abbrev pub frame_for : Address → ℕ → List ℕ → Frame
frame_for a frame_type payload = record { address = a; frame_type = frame_type; payload = payload }

module _ (check : List ℕ → ℕ) where
  -- 01, "Numbers handed back", 10: encode: payload over 250; then 11: of a frame whose gateway ID is at most 7fff
  unfoldable pub numbered_handed : Frame → ℕ → Handed ℕ
  numbered_handed f room = judged (row too_long (ltb payload_limit (length f.payload)) ∷ []) (written_handed (encoded_of check f) room)

  -- the lent bytes afterwards: the frame's bytes over their start, if it is accepted
  unfoldable pub numbered_bytes : Frame → List ℕ → List ℕ
  numbered_bytes f out = laid_if (numbered_handed f (length out)) (encoded_of check f) out

  -- 01, "Numbers handed back": for encode 13, 10, 11
  unfoldable pub encode_handed : Address → ℕ → List ℕ → ℕ → Handed ℕ
  encode_handed a frame_type payload room =
      judged (row invalid_id (ltb id_limit (gateway_of a)) ∷ []) (numbered_handed (frame_for a frame_type payload) room)

  -- the lent bytes afterwards: the frame's bytes over their start, if it is accepted
  unfoldable pub encode_bytes : Address → ℕ → List ℕ → List ℕ → List ℕ
  encode_bytes a frame_type payload out =
      laid_if (encode_handed a frame_type payload (length out)) (encoded_of check (frame_for a frame_type payload)) out
