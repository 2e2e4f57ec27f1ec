-- What an event record says, and the record of an event. Assumes nothing.
use Rattle.std.specs.Prelude.{ℕ, ◌+◌, Bool, cond, List, [], ◌∷◌, ◌++◌, length, get_or, take, drop, eqb}
use Rattle.std.proofs.Math.Option.{Option, none, some}
use Rattle.laws.specs.Bytes.{be16, be16_at}
use Rattle.sound_record.specs.declared.Kind.TheVariants.{EnumerationStarted, Identity, VersionText, EnumerationEnded, SlotCaptured, SlotCounter, Packet, Command}
use Rattle.sound_record.specs.Kinds.{number_of}
use Rattle.sound_record.specs.Record.{kind_at, gateway_at, body_start, request_width, request_length}
use Rattle.event_record.specs.Layout.{framed}

-- 01, "Event record": kinds: 1 enumeration started; 2 identity, long address; 3 version text; 4 enumeration ended; 5 slot captured;
-- 6 slot counter (2) and repeat mark (0 or 1); 7 packet as it stood in the area; 8 command: request type, request payload length (1),
-- request payload, response type, response payload
pub data Event : Type 0 where
  enumeration_started : Event
  identity : List ℕ → Event
  version_text : List ℕ → Event
  enumeration_ended : Event
  slot_captured : Event
  slot_counter : ℕ → Bool → Event
  packet : List ℕ → Event
  command : ℕ → List ℕ → ℕ → List ℕ → Event

-- the number of each kind in 01's list
abbrev pub kind_of : Event → ℕ
kind_of enumeration_started = number_of EnumerationStarted
kind_of (identity address) = number_of Identity
kind_of (version_text text) = number_of VersionText
kind_of enumeration_ended = number_of EnumerationEnded
kind_of slot_captured = number_of SlotCaptured
kind_of (slot_counter counter repeat) = number_of SlotCounter
kind_of (packet bytes) = number_of Packet
kind_of (command asked request answered response) = number_of Command

-- 01, "Event record": request payload length (1): as version v writes it
abbrev pub count_of : ℕ → ℕ → List ℕ
count_of v n = n ∷ []

-- 01, "Event record": repeat mark (0 or 1): 1 if it is set
abbrev pub mark_of : Bool → ℕ
mark_of repeat = cond repeat 1 0

-- the body of each kind: what 01's list names behind the kind, in its order; of kinds 1, 4 and 5 it names nothing
abbrev pub body_of : ℕ → Event → List ℕ
body_of v enumeration_started = []
body_of v (identity address) = address
body_of v (version_text text) = text
body_of v enumeration_ended = []
body_of v slot_captured = []
body_of v (slot_counter counter repeat) = be16 counter ++ (mark_of repeat ∷ [])
body_of v (packet bytes) = bytes
body_of v (command asked request answered response) = asked ∷ (count_of v (length request) ++ (request ++ (answered ∷ response)))

-- the record of an event at a gateway, in version v
abbrev pub record_of : ℕ → ℕ → Event → List ℕ
record_of v gateway e = framed v (kind_of e) gateway (body_of v e)

-- what kind 8's body says: request type, request payload length, request payload, response type, response payload
abbrev pub command_in : ℕ → List ℕ → Event
command_in v body =
    let n = request_length v body in
    let at = 1 + request_width v in
    command (get_or body 0 0) (take n (drop at body)) (get_or body (at + n) 0) (drop (at + n + 1) body)

-- what a body of a kind says; of a kind that is not known, nothing
unfoldable pub event_of : ℕ → ℕ → List ℕ → Option Event
event_of v kind body =
    cond (eqb kind 1) (some enumeration_started)
    (cond (eqb kind 2) (some (identity body))
    (cond (eqb kind 3) (some (version_text body))
    (cond (eqb kind 4) (some enumeration_ended)
    (cond (eqb kind 5) (some slot_captured)
    (cond (eqb kind 6) (some (slot_counter (be16_at body 0) (eqb (get_or body 2 0) 1)))
    (cond (eqb kind 7) (some (packet body))
    (cond (eqb kind 8) (some (command_in v body))
    none)))))))

-- the gateway that a record names: two bytes, big-endian, behind length, version and kind
abbrev pub gateway_in : List ℕ → ℕ
gateway_in r = be16_at r gateway_at

-- the event that a record of version v says, by its kind and its body
abbrev pub says_of : ℕ → List ℕ → Option Event
says_of v r = event_of v (get_or r kind_at 0) (drop (body_start v) r)
