-- Node IDs, node addresses and the header of a received packet, after network.rs. Assumes nothing.
use Rattle.std.specs.Prelude.{ℕ, ◌+◌, cond, List, length, ◌==◌, nat_lt, slice_index, Option, Some, None, Result, Ok, Err}
use Rattle.laws.specs.Bytes.{be16_at}
use Rattle.network.specs.declared.NodeID.{NodeID}
use Rattle.network.specs.declared.PacketTooShort.{PacketTooShort}
use Rattle.network.specs.declared.ReceivedPacketHeader.{ReceivedPacketHeader}
use Rattle.network.specs.Split.{header_size}

-- network.rs, `NodeID`: a number that is not 0; `NodeAddress`: 0, `ZERO`, names no node
unfoldable pub node_of : ℕ → Option NodeID
node_of n = cond (n == 0) None (Some (record { 0 = n }))

-- network.rs, `NodeAddress` of an `Option<NodeID>`: the ID's number, or `ZERO`
abbrev pub address_of : Option NodeID → ℕ
address_of (Some id) = id.0
address_of None = 0

-- network.rs, `successor`: the next node ID; 65535, `MAX`, has none
unfoldable pub successor_of : ℕ → Option NodeID
successor_of n = cond (nat_lt n 65535) (Some (record { 0 = n + 1 })) None

-- network.rs, `ReceivedPacketHeader`: packet type (1), node address (2), short address (2), dsn (1), data length (1);
-- multibyte fields are big-endian
unfoldable pub header_of : List ℕ → Result ReceivedPacketHeader PacketTooShort
header_of p =
    cond (nat_lt (length p) header_size) (Err (record {}))
    (Ok
    (record {
      packet_type = record { 0 = slice_index p 0 };
      node_address = record { 0 = be16_at p 1 };
      short_address = record { 0 = be16_at p 3 };
      dsn = record { 0 = slice_index p 5 };
      data_length = slice_index p 6;
    }))
