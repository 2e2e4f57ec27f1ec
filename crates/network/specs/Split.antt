-- The packets of a packet area, and the walk that meets them one after another. Assumes nothing.
use Rattle.std.specs.Prelude.{◌≡◌, ℕ, zero, suc, ◌+◌, ◌-◌, ◌<◌, cond, not, List, [], ◌∷◌, ◌++◌, length, take, drop, ◌==◌, nat_le, nat_lt, slice_index, slice_index_or, slice_range, Option, Some, None, Result, Ok, Err}
use Rattle.network.specs.declared.Packet.{Packet}
use Rattle.network.specs.declared.PacketTooShort.{PacketTooShort}
use Rattle.network.specs.declared.Tally.{Tally}

-- network.rs, `ReceivedPacketHeader`: packet type (1), node address (2), short address (2), dsn (1), data length (1)
abbrev pub header_size : ℕ
header_size = 7

-- network.rs, `ReceivedPackets`: a packet is its header and as many bytes of data as the header's last byte says; of fewer than 7 bytes this
-- is more than there are
abbrev pub packet_size : List ℕ → ℕ
packet_size a = header_size + slice_index a 6

-- exactly one packet, whole
abbrev pub Whole : List ℕ → Type 0
Whole p = packet_size p ≡ length p

-- the whole packets in order, and the bytes that are left and hold none
pub record Split : Type 0 where
  pub packets : List (List ℕ)
  pub rest : List ℕ

-- a packet set before the others
abbrev pub put : List ℕ → Split → Split
put p s = record { packets = p ∷ s.packets; rest = s.rest }

-- the packets of an area whose first `past` bytes still belong to the packet before
unfoldable pub packets_past : ℕ → List ℕ → Split
packets_past past [] = record { packets = []; rest = [] }
packets_past (suc past) (b ∷ s) = packets_past past s
packets_past zero (b ∷ s) =
    cond (nat_le (packet_size (b ∷ s)) (length (b ∷ s)))
    (put (take (packet_size (b ∷ s)) (b ∷ s)) (packets_past (packet_size (b ∷ s) - 1) s))
    (record { packets = []; rest = b ∷ s })

-- network.rs, `ReceivedPackets`: a packet is taken off the front as long as a whole one stands there; the first place where none does ends the list
abbrev pub packets_of : List ℕ → Split
packets_of a = packets_past 0 a

-- the packets' bytes, one packet after another
abbrev pub joined : List (List ℕ) → List ℕ
joined [] = []
joined (p ∷ ps) = p ++ joined ps

-- the packets' bytes and the rest joined make up the area, each packet is whole, and no whole packet stands at the front of the rest
pub record Divides (a : List ℕ) (s : Split) : Type 0 where
  pub joins : joined s.packets ++ s.rest ≡ a
  pub whole : (i : ℕ) → i < length s.packets → Whole (slice_index_or s.packets i [])
  pub short : length s.rest < packet_size s.rest

-- what stands in the area at a place: a whole packet, or too few bytes for one, or nothing ..
abbrev pub Found : Type 0
Found = Option (Result Packet PacketTooShort)

-- .. a packet whose data starts and ends at these places ..
abbrev pub found_packet : ℕ → ℕ → Found
found_packet d e = Some (Ok (record { data_at = d; end = e }))

-- .. too few bytes
abbrev pub found_short : Found
found_short = Some (Err (record {}))

-- what stands in the area at a place: nothing at the end or past it, else a whole packet, or too few bytes for one
unfoldable pub found_at : List ℕ → ℕ → Found
found_at a at =
    cond (nat_lt at (length a))
    (cond (nat_le (packet_size (drop at a)) (length (drop at a))) (found_packet (at + header_size) (at + packet_size (drop at a))) found_short)
    None

-- a walk from a place: on past each packet found, up to the end or the place where too few bytes are left
pub data Walk (a : List ℕ) : ℕ → Split → Type 0 where
  finished : {at : ℕ} → found_at a at ≡ None → Walk a at (record { packets = []; rest = [] })
  too_short : {at : ℕ} → found_at a at ≡ found_short → Walk a at (record { packets = []; rest = drop at a })
  packet : {at d e : ℕ} {s : Split} → found_at a at ≡ found_packet d e → Walk a e s → Walk a at (put (slice_range a at e) s)

-- what the transport step counts: whole packets, and whether bytes are left
unfoldable pub tally_of : List ℕ → Tally
tally_of a = record { packets = length (packets_of a).packets; short = not (length (packets_of a).rest == 0) }
