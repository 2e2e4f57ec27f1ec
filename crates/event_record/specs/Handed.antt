-- What an encoder hands back, in 01's numbers and values, and what it leaves in the buffer. Assumes nothing.
use Rattle.std.specs.Prelude.{ℕ, ◌+◌, not, List, [], ◌∷◌, length, ltb, Option, is_none, unwrap_or, Result, Ok, Err}
use Rattle.laws.specs.Bytes.{laid_if}
use Rattle.laws.specs.Handed.{Handed, value}
use Rattle.laws.specs.Numbers.{Refusal, refused_as, row, judged, invalid_id, no_room_for_record, unsound_record}
use Rattle.address.specs.Address.{id_limit}
use Rattle.sound_record.specs.Record.{written, sound_at}
use Rattle.event_record.specs.Layout.{framed}
use Rattle.event_record.specs.Event.{Event, kind_of, body_of}
use Rattle.event_record.specs.declared.RecordError.{RecordError}
use Rattle.event_record.specs.declared.RecordError.TheVariants.{InvalidGatewayID, Unsound, NoRoom}

-- 01, "Numbers handed back", 13: gateway ID above 7fff; 41: event whose record would not be sound; 40: event record: room below its whole
-- length; else how many bytes were written
abbrev pub refusal_of : RecordError → Refusal
refusal_of InvalidGatewayID = invalid_id
refusal_of Unsound = unsound_record
refusal_of NoRoom = no_room_for_record

abbrev pub handed : Result ℕ RecordError → Handed ℕ
handed (Ok n) = value n
handed (Err e) = refused_as (refusal_of e)

-- the same three, in that order, of a body that has so many bytes, or that is not sound; six bytes stand before it
abbrev pub admitted : ℕ → Option ℕ → ℕ → Handed ℕ
admitted gateway body room =
    judged
    (row invalid_id (ltb id_limit gateway)
    ∷ row unsound_record (is_none body)
    ∷ row no_room_for_record (ltb room (6 + unwrap_or body 0))
    ∷ [])
    (value (6 + unwrap_or body 0))

-- 01, "Numbers handed back", for an event record 13, 41, 40: gateway ID above 7fff; event whose record would not be sound; room below
-- its whole length
unfoldable pub framed_handed : ℕ → ℕ → List ℕ → ℕ → Handed ℕ
framed_handed kind gateway body room =
    judged
    (row invalid_id (ltb id_limit gateway)
    ∷ row unsound_record (not (sound_at written (framed written kind gateway body)))
    ∷ row no_room_for_record (ltb room (length (framed written kind gateway body)))
    ∷ [])
    (value (length (framed written kind gateway body)))

-- the lent buffer afterwards: the record over its start, if it is accepted
abbrev pub framed_bytes : ℕ → ℕ → List ℕ → List ℕ → List ℕ
framed_bytes kind gateway body out =
    laid_if (framed_handed kind gateway body (length out)) (framed written kind gateway body) out

-- what is handed back for an event: the same of its kind and body ..
abbrev pub record_handed : ℕ → Event → ℕ → Handed ℕ
record_handed gateway e room = framed_handed (kind_of e) gateway (body_of written e) room

-- .. and the lent buffer afterwards
abbrev pub record_bytes : ℕ → Event → List ℕ → List ℕ
record_bytes gateway e out = framed_bytes (kind_of e) gateway (body_of written e) out
