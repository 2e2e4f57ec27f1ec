-- Which records an event gives, their bytes, and what a writer of them hands back and leaves in the buffer. Assumes nothing.
use Rattle.std.specs.Prelude.{ℕ, ◌+◌, Bool, true, false, cond, not, List, [], ◌∷◌, length, ltb}
use Rattle.std.proofs.Math.Option.{Option, none, some}
use Rattle.laws.specs.Bytes.{laid_if}
use Rattle.laws.specs.Handed.{Handed, value}
use Rattle.laws.specs.Numbers.{row, judged, invalid_id, no_room_for_record, unsound_record}
use Rattle.address.specs.Address.{id_limit}
use Rattle.network.specs.Split.{packets_of}
use Rattle.sound_record.specs.Record.{written, body_start, sound_at}
use Rattle.sound_record.specs.Log.{joined, all_sound}
use Rattle.event_record.specs.Event.{record_of}
use Rattle.event_record.specs.Event as kind
use Rattle.transport_receiver.specs.Step.{Event, enumeration_started, identity, version, enumeration_ended, slot_captured, slot_counter, command}

-- a record of the log: the gateway that it names, and what it says
pub record Entry : Type 0 where
  pub gateway : ℕ
  pub says : kind.Event

-- the record of a gateway and what is said
abbrev pub entry : ℕ → kind.Event → Entry
entry g e = record { gateway = g; says = e }

-- its bytes, in version v
abbrev pub entry_bytes : ℕ → Entry → List ℕ
entry_bytes v x = record_of v x.gateway x.says

-- kind 7 for each packet, in order
abbrev pub packets_at : ℕ → List (List ℕ) → List Entry
packets_at g [] = []
packets_at g (p ∷ ps) = entry g (kind.packet p) ∷ packets_at g ps

-- 01, "Event record": kind 1's gateway is the one its request names, every other kind's the frame's (an event's gateway is that one).
-- A receive response gives kind 6, then its packets in order
abbrev pub records_of : Event → List Entry
records_of (enumeration_started g) = entry g kind.enumeration_started ∷ []
records_of (identity g address) = entry g (kind.identity address) ∷ []
records_of (version g text) = entry g (kind.version_text text) ∷ []
records_of (enumeration_ended g) = entry g kind.enumeration_ended ∷ []
records_of (slot_captured g) = entry g kind.slot_captured ∷ []
records_of (slot_counter g counter repeat area) = entry g (kind.slot_counter counter repeat) ∷ packets_at g (packets_of area).packets
records_of (command g asked request answered response) = entry g (kind.command asked request answered response) ∷ []

-- what has no event gives no record
abbrev pub records_in : Option Event → List Entry
records_in none = []
records_in (some e) = records_of e

-- the record of each, in version v
abbrev pub listed : ℕ → List Entry → List (List ℕ)
listed v [] = []
listed v (x ∷ xs) = entry_bytes v x ∷ listed v xs

-- the records' bytes, one record after another
abbrev pub bytes_of : ℕ → List Entry → List ℕ
bytes_of v xs = joined (listed v xs)

-- 13: one of the gateways is above 7fff
abbrev pub any_over : List Entry → Bool
any_over [] = false
any_over (x ∷ xs) = cond (ltb id_limit x.gateway) true (any_over xs)

-- 41: one of the records would not be sound
abbrev pub any_unsound : List Entry → Bool
any_unsound xs = not (all_sound (sound_at written) (listed written xs))

-- 01, "Numbers handed back", for an event record 13, 41, 40; of several records all or none is written: 40 if room is below their whole length
unfoldable pub records_handed : List Entry → ℕ → Handed ℕ
records_handed xs room =
    judged
    (row invalid_id (any_over xs)
    ∷ row unsound_record (any_unsound xs)
    ∷ row no_room_for_record (ltb room (length (bytes_of written xs)))
    ∷ [])
    (value (length (bytes_of written xs)))

-- 01, "Numbers handed back": no refusal touches an output buffer; an accepted encoding changes only the bytes written
abbrev pub records_bytes : List Entry → List ℕ → List ℕ
records_bytes xs out = laid_if (records_handed xs (length out)) (bytes_of written xs) out

-- 01, "Numbers handed back", 13: gateway ID above 7fff, given: a frame of such a gateway is refused first, whatever records are asked for; else
-- what is handed back for those ..
unfoldable pub answer_handed : ℕ → List Entry → ℕ → Handed ℕ
answer_handed gateway xs room = judged (row invalid_id (ltb id_limit gateway) ∷ []) (records_handed xs room)

-- .. and the lent buffer afterwards
abbrev pub answer_bytes : ℕ → List Entry → List ℕ → List ℕ
answer_bytes gateway xs out = laid_if (answer_handed gateway xs (length out)) (bytes_of written xs) out

-- the bytes that the records of some packets take: what stands before a body, and each packet
abbrev pub space_of : List (List ℕ) → ℕ
space_of [] = 0
space_of (p ∷ ps) = body_start written + length p + space_of ps
