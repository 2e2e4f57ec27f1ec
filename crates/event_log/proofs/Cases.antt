-- Worked examples: which records an event gives, byte by byte. Assumes nothing.
use mathlib.Core.Path.{◌≡◌, refl}
use mathlib.Core.Bool.{true}
use mathlib.Core.List.{[], ◌∷◌}
use Rattle.laws.specs.Handed.{refused, value}
use Rattle.network.specs.Split.{packets_past}
use Rattle.sound_record.specs.Record.{written, between, sound_at, sound_body, is_body}
use Rattle.event_record.specs.Layout.{extra, framed}
use Rattle.transport_receiver.specs.Step.{enumeration_started, enumeration_ended, slot_counter}
use Rattle.event_log.specs.Records.{records_of, bytes_of, records_handed}

-- 01, "Event record": enumeration ended at 0x1201: 00 04 01 04 12 01
pub ended-1201 : bytes_of written (records_of (enumeration_ended 0x1201)) ≡ 0x00 ∷ 0x04 ∷ 0x01 ∷ 0x04 ∷ 0x12 ∷ 0x01 ∷ []
unfolding framed extra
ended-1201 = refl

-- a slot with two packets, of no data and of one byte, and a byte left over: kind 6, then the packets in order
pub slot-1201 : bytes_of written (records_of (slot_counter 0x1201 0x4567 true (0x31 ∷ 0 ∷ 1 ∷ 0 ∷ 2 ∷ 3 ∷ 0 ∷ 0x32 ∷ 0 ∷ 1 ∷ 0 ∷ 2 ∷ 4 ∷ 1 ∷ 0xaa ∷ 0xbb ∷ [])))
    ≡ 0x00 ∷ 0x07 ∷ 0x01 ∷ 0x06 ∷ 0x12 ∷ 0x01 ∷ 0x45 ∷ 0x67 ∷ 0x01
    ∷ 0x00 ∷ 0x0b ∷ 0x01 ∷ 0x07 ∷ 0x12 ∷ 0x01 ∷ 0x31 ∷ 0 ∷ 1 ∷ 0 ∷ 2 ∷ 3 ∷ 0
    ∷ 0x00 ∷ 0x0c ∷ 0x01 ∷ 0x07 ∷ 0x12 ∷ 0x01 ∷ 0x32 ∷ 0 ∷ 1 ∷ 0 ∷ 2 ∷ 4 ∷ 1 ∷ 0xaa ∷ []
unfolding framed extra packets_past
slot-1201 = refl

-- 13 before 40; 40 one byte below the whole length
pub started-8000 : records_handed (records_of (enumeration_started 0x8000)) 0 ≡ refused 13
unfolding records_handed
started-8000 = refl

pub started-5 : records_handed (records_of (enumeration_started 0x1201)) 5 ≡ refused 40
unfolding records_handed framed extra sound_at between sound_body is_body
started-5 = refl

pub started-6 : records_handed (records_of (enumeration_started 0x1201)) 6 ≡ value 6
unfolding records_handed framed extra sound_at between sound_body is_body
started-6 = refl
