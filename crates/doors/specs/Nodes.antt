-- How nodes and packet headers cross a door. Assumes nothing.
use Rattle.std.specs.Prelude.{ℕ, List, [], ◌∷◌, Option, Some, None, Result, Ok, Err}
use Rattle.network.specs.Nodes.{successor_of}
use Rattle.network.specs.declared.NodeID.{NodeID}
use Rattle.network.specs.declared.PacketTooShort.{PacketTooShort}
use Rattle.network.specs.declared.ReceivedPacketHeader.{ReceivedPacketHeader}
use Rattle.address.specs.declared.GatewayID.{GatewayID}
use Rattle.layouts.specs.declared.NamesFrom.{NamesFrom}

-- a node's number; 2^16 for none
abbrev pub node_number : Option NodeID → ℕ
node_number (Some id) = id.0
node_number None = 0x10000

-- the number of the node that comes after a number; 2^16 for none
abbrev pub successor_number : ℕ → ℕ
successor_number n = node_number (successor_of n)

-- what comes after a node; 2^16 where nothing does
abbrev pub after_number : Option NodeID → ℕ
after_number (Some id) = successor_number id.0
after_number None = 0x10000

-- a header's fields in the order of their bytes
abbrev pub header_list : ReceivedPacketHeader → List ℕ
header_list h = h.packet_type.0 ∷ h.node_address.0 ∷ h.short_address.0 ∷ h.dsn.0 ∷ h.data_length ∷ []

-- 0 for a header, 1 where there are too few bytes
abbrev pub header_answer : Result ReceivedPacketHeader PacketTooShort → ℕ
header_answer (Ok h) = 0
header_answer (Err e) = 1

-- the fields, or zeros
abbrev pub header_fields : Result ReceivedPacketHeader PacketTooShort → List ℕ
header_fields (Ok h) = header_list h
header_fields (Err e) = 0 ∷ 0 ∷ 0 ∷ 0 ∷ 0 ∷ []

-- the gateway that is named; 2^16 where the address is From one
abbrev pub named_number : Result GatewayID NamesFrom → ℕ
named_number (Ok g) = g.0
named_number (Err e) = 0x10000
