-- The event record, a house form: when a record is sound at a version. What depends on the version stands in functions
-- of it; of version 1, which is written, they say what 01 says. Assumes nothing.
use Rattle.std.specs.Prelude.{ℕ, ◌+◌, ◌^◌, Bool, true, false, cond, ◌&&◌, List, [], ◌∷◌, length, get_or, take, drop, leb, ltb, eqb, Option}
use Rattle.std.specs.Bool.{then_some}
use Rattle.laws.specs.Bytes.{be16_at}
use Rattle.address.specs.Address.{id_limit}
use Rattle.utf8.specs.Scan.{is_text}
use Rattle.network.specs.Split.{packet_size}

-- 01, "Event record": version 1
abbrev pub written : ℕ
written = 1

-- the versions that are known
abbrev pub known : List ℕ
known = written ∷ []

-- 01, "Event record": Length (2), version, kind, gateway (2), body: where version, kind and gateway stand, and where the gateway ends,
-- in a record of any version
abbrev pub version_at : ℕ
version_at = 2

abbrev pub kind_at : ℕ
kind_at = 3

abbrev pub gateway_at : ℕ
gateway_at = 4

abbrev pub gateway_end : ℕ
gateway_end = 6

-- 01, "Event record": gateway (2, big-endian), body: nothing stands between the two. For each byte that a version has there, the list has
-- the number that the byte lies below
unfoldable pub between : ℕ → List ℕ
between v = []

-- where the body starts in a record of version v
abbrev pub body_start : ℕ → ℕ
body_start v = gateway_end + length (between v)

-- 01, "Event record": request payload length (1): how many bytes say the length of kind 8's request payload in version v
abbrev pub request_width : ℕ → ℕ
request_width v = 1

-- 01, "Event record": request type, request payload length: the length that kind 8's body says
abbrev pub request_length : ℕ → List ℕ → ℕ
request_length v body = get_or body 1 0

-- 01, "Event record": the body without kind 8's request length is at most 1,024 bytes
abbrev pub body_limit : ℕ → ℕ → ℕ
body_limit v kind = cond (eqb kind 8) (1024 + request_width v) 1024

-- 01, "Event record": 6 slot counter (2) and repeat mark; the mark is 0 or 1
abbrev pub is_counter : List ℕ → Bool
is_counter body = eqb (length body) 3 && leb (get_or body 2 0) 1

-- 01, "Event record": 8 command: request type, request payload length, request payload, response type, response payload; the lengths fit
abbrev pub is_command : ℕ → List ℕ → Bool
is_command v body = ltb (request_length v body) (256 ^ request_width v) && leb (2 + request_width v + request_length v body) (length body)

-- 01, "Event record": kinds: 1 enumeration started; 2 identity, long address; 3 version text; 4 enumeration ended; 5 slot captured;
-- 6 slot counter and repeat mark; 7 packet as it stood in the area; 8 command. No other kind is known.
-- The text is non-empty UTF-8, and kind 7 holds exactly one whole packet.
unfoldable pub is_body : ℕ → ℕ → List ℕ → Bool
is_body v kind body =
    cond (eqb kind 1) (eqb (length body) 0)
    (cond (eqb kind 2) (eqb (length body) 8)
    (cond (eqb kind 3) (is_text body)
    (cond (eqb kind 4) (eqb (length body) 0)
    (cond (eqb kind 5) (eqb (length body) 0)
    (cond (eqb kind 6) (is_counter body)
    (cond (eqb kind 7) (eqb (packet_size body) (length body))
    (cond (eqb kind 8) (is_command v body)
    false)))))))

-- a body is sound if it is one of its kind and not over its limit
unfoldable pub sound_body : ℕ → ℕ → List ℕ → Bool
sound_body v kind body = leb (length body) (body_limit v kind) && is_body v kind body

-- a record is whole if it has the bytes that its length says, and no more
abbrev pub whole : List ℕ → Bool
whole r = eqb (length r) (2 + be16_at r 0)

-- a record shows a version if its length reaches to that byte: a length of 0 shows None
abbrev pub shows : ℕ → List ℕ → Bool
shows v r = ltb 0 (be16_at r 0) && (ltb version_at (length r) && eqb (get_or r version_at 0) v)

-- each byte lies below its number
abbrev pub all_below : List ℕ → List ℕ → Bool
all_below [] bytes = true
all_below (n ∷ ns) bytes = ltb (get_or bytes 0 0) n && all_below ns (drop 1 bytes)

-- 01, "Event record": a record is sound if it is whole, its version and kind are known, the gateway is at most 7fff, the text is
-- non-empty UTF-8, the mark is 0 or 1, kind 7 holds exactly one whole packet, the lengths fit, and the body without kind 8's request
-- length is at most 1,024 bytes; a version that has bytes between gateway and body says what they may be
unfoldable pub sound_at : ℕ → List ℕ → Bool
sound_at v r =
    whole r
    && (shows v r
    && (leb (body_start v) (length r)
    && (leb (be16_at r gateway_at) id_limit
    && (all_below (between v) (drop gateway_end r)
    && sound_body v (get_or r kind_at 0) (drop (body_start v) r)))))

-- a record is sound at one of these versions
abbrev pub sound_in : List ℕ → List ℕ → Bool
sound_in [] r = false
sound_in (v ∷ vs) r = cond (sound_at v r) true (sound_in vs r)

-- the bytes at a place of a log, as far as the length there says
abbrev pub record_at : List ℕ → ℕ → List ℕ
record_at log at = take (2 + be16_at log at) (drop at log)

-- what stands at a place of a log: a sound record, by where it ends, or None
unfoldable pub stands_at : ℕ → List ℕ → ℕ → Option ℕ
stands_at v log at = then_some (sound_at v (record_at log at)) (at + length (record_at log at))
