-- Each public contract determines its outcome, of whatever function a caller can name. Of `payload` and `request_payload`, which hand back a part of
-- what they are lent, it determines the bytes. Four of them are in Walked.antt too, with claims written by hand; the doors of the comparison are not
-- among them, nor those of crates/console that read or write, whose outcome is the system's. Assumes nothing.
use mathlib.Core.Path.{◌≡◌, refl, sym, ap, ap₂, ◌∙◌}
use mathlib.Core.Bool.{Bool, true, false}
use mathlib.Core.Logic.{◌↔◌}
use Rattle.promises.specs.Determined.{Determined}
use Rattle.escaping.proofs.Answers.{handed_byte-same, handed_length-same, handed_written-same}
use Rattle.address.proofs.Laws.{handed_id-same, handed_number-same, handed_bytes-same}
use Rattle.link.proofs.Answers.{handed-same}
use Rattle.link.specs.Handed.{refusal_of}
use Rattle.link.specs.declared.EncodeError.{EncodeError}
use Rattle.laws.specs.Numbers.{refused_as}
use Rattle.std.specs.Prelude.{Result, Err}
use Rattle.sound_record.proofs.Numbers.{numbered-same}
use Rattle.event_record.proofs.Told.{handed-apart}
use Prim.Native.Nat.{ℕ}
use mathlib.Core.List.{List}
use lib.ListN.{drop}
use lib.Seq.{paste}
use denote.Ref.{Bor, at_last}
use contract.Lifetimes.{Lfts}
use denote.Triple.Clauses.{Lasts, at_exit}
use borrow.Fn.Kinds.{Dens, res_t, ended_of}
use Rattle.crc.specs.Crc.{crc_of}
use Rattle.address.specs.declared.GatewayID.{GatewayID}
use Rattle.network.specs.declared.DSN.{DSN}
use Rattle.network.specs.declared.NodeAddress.{NodeAddress}
use Rattle.network.specs.declared.received_packets.ReceivedPackets.{ReceivedPackets}
use Rattle.slot_counter.specs.declared.SlotCounter.{SlotCounter}
use Rattle.slot_counter.specs.declared.SlotEpoch.{SlotEpoch}
use Rattle.transport.specs.declared.PacketNumber.{PacketNumber}
use Rattle.receive_frames.specs.Receive.{Asked, Received}
use Rattle.command_frames.specs.Command.{Requested, Answered}
use Rattle.plain_frames.specs.Plain.{Counted}
use Rattle.transport_receiver.specs.Lent.{Stepped, WasReset}
use Rattle.link_receive.specs.declared.Stepped as by_byte
use Rattle.link_receive.specs.declared.Tallies.{Tallies}
use Rattle.link_feed.specs.declared.Fed.{Fed}
use Rattle.reading.specs.Grammar.{present}
use Rattle.console.specs.declared.text.Output.{Output}
use Rattle.promises.proofs.Ledgers.{ledgered-once}
use Rattle.crc.proofs.crc.Kinds as crc-crc-kinds
use Rattle.crc.proofs.crc.Reads as crc-crc-reads
use Rattle.escaping.proofs.escaped_length.Kinds as escaping-escaped_length-kinds
use Rattle.escaping.proofs.escaped_length.Reads as escaping-escaped_length-reads
use Rattle.escaping.proofs.escape.Kinds as escaping-escape-kinds
use Rattle.escaping.proofs.escape.Reads as escaping-escape-reads
use Rattle.escaping.proofs.unescaped_byte.Kinds as escaping-unescaped_byte-kinds
use Rattle.escaping.proofs.unescaped_byte.Reads as escaping-unescaped_byte-reads
use Rattle.address.proofs.GatewayIDTryFromU16.try_from.Kinds as address-GatewayID-try_from-kinds
use Rattle.address.proofs.GatewayIDTryFromU16.try_from.Reads as address-GatewayID-try_from-reads
use Rattle.address.proofs.AddressFromU16.from.Kinds as address-Address-from-kinds
use Rattle.address.proofs.AddressFromU16.from.Reads as address-Address-from-reads
use Rattle.address.proofs.U16TryFromAddress.try_from.Kinds as address-u16-try_from-kinds
use Rattle.address.proofs.U16TryFromAddress.try_from.Reads as address-u16-try_from-reads
use Rattle.address.proofs.Address.gateway.Kinds as address-Address-gateway-kinds
use Rattle.address.proofs.Address.gateway.Reads as address-Address-gateway-reads
use Rattle.address.proofs.Address.is_from.Kinds as address-Address-is_from-kinds
use Rattle.address.proofs.Address.is_from.Reads as address-Address-is_from-reads
use Rattle.address.proofs.Address.from_be_bytes.Kinds as address-Address-from_be_bytes-kinds
use Rattle.address.proofs.Address.from_be_bytes.Reads as address-Address-from_be_bytes-reads
use Rattle.address.proofs.Address.to_be_bytes.Kinds as address-Address-to_be_bytes-kinds
use Rattle.address.proofs.Address.to_be_bytes.Reads as address-Address-to_be_bytes-reads
use Rattle.link.proofs.EncodeErrorFromInvalidGatewayID.from.Kinds as link-EncodeError-from_id-kinds
use Rattle.link.proofs.EncodeErrorFromInvalidGatewayID.from.Reads as link-EncodeError-from_id-reads
use Rattle.link.proofs.EncodeErrorFromEscapeError.from.Kinds as link-EncodeError-from_escape-kinds
use Rattle.link.proofs.EncodeErrorFromEscapeError.from.Reads as link-EncodeError-from_escape-reads
use Rattle.link.proofs.encode.Kinds as link-encode-kinds
use Rattle.link.proofs.encode.Reads as link-encode-reads
use Rattle.link_receive.proofs.open_frames.Kinds as link_receive-open_frames-kinds
use Rattle.link_receive.proofs.open_frames.Reads as link_receive-open_frames-reads
use Rattle.link_receive.proofs.moves.turn.Kinds as link_receive-moves-turn-kinds
use Rattle.link_receive.proofs.moves.turn.Reads as link_receive-moves-turn-reads
use Rattle.link_receive.proofs.moves.parse_frame.Kinds as link_receive-moves-parse_frame-kinds
use Rattle.link_receive.proofs.moves.parse_frame.Reads as link_receive-moves-parse_frame-reads
use Rattle.link_receive.proofs.numbered.state_at.Kinds as link_receive-numbered-state_at-kinds
use Rattle.link_receive.proofs.numbered.state_at.Reads as link_receive-numbered-state_at-reads
use Rattle.link_receive.proofs.numbered.state_number.Kinds as link_receive-numbered-state_number-kinds
use Rattle.link_receive.proofs.numbered.state_number.Reads as link_receive-numbered-state_number-reads
use Rattle.link_receive.proofs.numbered.receiver_at.Kinds as link_receive-numbered-receiver_at-kinds
use Rattle.link_receive.proofs.numbered.receiver_at.Reads as link_receive-numbered-receiver_at-reads
use Rattle.link_receive.proofs.numbered.numbers_of.Kinds as link_receive-numbered-numbers_of-kinds
use Rattle.link_receive.proofs.numbered.numbers_of.Reads as link_receive-numbered-numbers_of-reads
use Rattle.link_feed.proofs.lending.feed_in.Kinds as link_feed-lending-feed_in-kinds
use Rattle.link_feed.proofs.lending.feed_in.Reads as link_feed-lending-feed_in-reads
use Rattle.link_feed.proofs.lending.feed_from.Kinds as link_feed-lending-feed_from-kinds
use Rattle.link_feed.proofs.lending.feed_from.Reads as link_feed-lending-feed_from-reads
use Rattle.link_receive.proofs.Receiver.new.Kinds as link_receive-Receiver-new-kinds
use Rattle.link_receive.proofs.Receiver.new.Reads as link_receive-Receiver-new-reads
use Rattle.link_receive.proofs.Receiver.push_u8.Kinds as link_receive-Receiver-push_u8-kinds
use Rattle.link_receive.proofs.Receiver.push_u8.Reads as link_receive-Receiver-push_u8-reads
use Rattle.link_receive.proofs.Receiver.reset_counters.Kinds as link_receive-Receiver-reset_counters-kinds
use Rattle.link_receive.proofs.Receiver.reset_counters.Reads as link_receive-Receiver-reset_counters-reads
use Rattle.link_feed.proofs.feed.Kinds as link_feed-feed-kinds
use Rattle.link_feed.proofs.feed.Reads as link_feed-feed-reads
use Rattle.link_feed.proofs.extend_from_slice.Kinds as link_feed-extend_from_slice-kinds
use Rattle.link_feed.proofs.extend_from_slice.Reads as link_feed-extend_from_slice-reads
use Rattle.lent_tallies.proofs.push_u8.Kinds as lent_tallies-push_u8-kinds
use Rattle.lent_tallies.proofs.push_u8.Reads as lent_tallies-push_u8-reads
use Rattle.lent_tallies.proofs.feed.Kinds as lent_tallies-feed-kinds
use Rattle.lent_tallies.proofs.feed.Reads as lent_tallies-feed-reads
use Rattle.books.proofs.told.Kinds as books-told-kinds
use Rattle.books.proofs.told.Reads as books-told-reads
use Rattle.books.proofs.absorb.Kinds as books-absorb-kinds
use Rattle.books.proofs.absorb.Reads as books-absorb-reads
use Rattle.books.proofs.give.Kinds as books-give-kinds
use Rattle.books.proofs.give.Reads as books-give-reads
use Rattle.books.proofs.ledger_of.Kinds as books-ledger_of-kinds
use Rattle.books.proofs.ledger_of.Reads as books-ledger_of-reads
use Rattle.utf8.proofs.is_utf8.Kinds as utf8-is_utf8-kinds
use Rattle.utf8.proofs.is_utf8.Reads as utf8-is_utf8-reads
use Rattle.utf8.proofs.is_text.Kinds as utf8-is_text-kinds
use Rattle.utf8.proofs.is_text.Reads as utf8-is_text-reads
use Rattle.network.proofs.DSNAddU8.add.Kinds as network-DSN-add-kinds
use Rattle.network.proofs.DSNAddU8.add.Reads as network-DSN-add-reads
use Rattle.network.proofs.NodeID.new.Kinds as network-NodeID-new-kinds
use Rattle.network.proofs.NodeID.new.Reads as network-NodeID-new-reads
use Rattle.network.proofs.NodeID.get.Kinds as network-NodeID-get-kinds
use Rattle.network.proofs.NodeID.get.Reads as network-NodeID-get-reads
use Rattle.network.proofs.NodeID.successor.Kinds as network-NodeID-successor-kinds
use Rattle.network.proofs.NodeID.successor.Reads as network-NodeID-successor-reads
use Rattle.network.proofs.OptionNodeIDFromNodeAddress.from.Kinds as network-NodeAddress-node-kinds
use Rattle.network.proofs.OptionNodeIDFromNodeAddress.from.Reads as network-NodeAddress-node-reads
use Rattle.network.proofs.NodeAddressFromOptionNodeID.from.Kinds as network-NodeAddress-from_node-kinds
use Rattle.network.proofs.NodeAddressFromOptionNodeID.from.Reads as network-NodeAddress-from_node-reads
use Rattle.network.proofs.NodeAddressFromNodeID.from.Kinds as network-NodeAddress-from_id-kinds
use Rattle.network.proofs.NodeAddressFromNodeID.from.Reads as network-NodeAddress-from_id-reads
use Rattle.network.proofs.ReceivedPacketHeader.read.Kinds as network-ReceivedPacketHeader-read-kinds
use Rattle.network.proofs.ReceivedPacketHeader.read.Reads as network-ReceivedPacketHeader-read-reads
use Rattle.network.proofs.packet_at.Kinds as network-packet_at-kinds
use Rattle.network.proofs.packet_at.Reads as network-packet_at-reads
use Rattle.network.proofs.counts.Kinds as network-counts-kinds
use Rattle.network.proofs.counts.Reads as network-counts-reads
use Rattle.network.proofs.received_packets.ReceivedPackets.new.Kinds as network-ReceivedPackets-new-kinds
use Rattle.network.proofs.received_packets.ReceivedPackets.new.Reads as network-ReceivedPackets-new-reads
use Rattle.network.proofs.received_packets.ReceivedPacketsIterator.next.Kinds as network-ReceivedPackets-next-kinds
use Rattle.network.proofs.received_packets.ReceivedPacketsIterator.next.Reads as network-ReceivedPackets-next-reads
use Rattle.slot_counter.proofs.SlotNumberTryFromU16.try_from.Kinds as slot_counter-SlotNumber-try_from-kinds
use Rattle.slot_counter.proofs.SlotNumberTryFromU16.try_from.Reads as slot_counter-SlotNumber-try_from-reads
use Rattle.slot_counter.proofs.SlotNumber.get.Kinds as slot_counter-SlotNumber-get-kinds
use Rattle.slot_counter.proofs.SlotNumber.get.Reads as slot_counter-SlotNumber-get-reads
use Rattle.slot_counter.proofs.U16FromSlotNumber.from.Kinds as slot_counter-u16-from-kinds
use Rattle.slot_counter.proofs.U16FromSlotNumber.from.Reads as slot_counter-u16-from-reads
use Rattle.slot_counter.proofs.SlotEpoch.at.Kinds as slot_counter-SlotEpoch-at-kinds
use Rattle.slot_counter.proofs.SlotEpoch.at.Reads as slot_counter-SlotEpoch-at-reads
use Rattle.slot_counter.proofs.SlotEpoch.index.Kinds as slot_counter-SlotEpoch-index-kinds
use Rattle.slot_counter.proofs.SlotEpoch.index.Reads as slot_counter-SlotEpoch-index-reads
use Rattle.slot_counter.proofs.SlotEpochAddU8.add.Kinds as slot_counter-SlotEpoch-add-kinds
use Rattle.slot_counter.proofs.SlotEpochAddU8.add.Reads as slot_counter-SlotEpoch-add-reads
use Rattle.slot_counter.proofs.SlotEpochAddAssignU8.add_assign.Kinds as slot_counter-SlotEpoch-add_assign-kinds
use Rattle.slot_counter.proofs.SlotEpochAddAssignU8.add_assign.Reads as slot_counter-SlotEpoch-add_assign-reads
use Rattle.slot_counter.proofs.SlotCounter.new.Kinds as slot_counter-SlotCounter-new-kinds
use Rattle.slot_counter.proofs.SlotCounter.new.Reads as slot_counter-SlotCounter-new-reads
use Rattle.slot_counter.proofs.SlotCounter.from_be_bytes.Kinds as slot_counter-SlotCounter-from_be_bytes-kinds
use Rattle.slot_counter.proofs.SlotCounter.from_be_bytes.Reads as slot_counter-SlotCounter-from_be_bytes-reads
use Rattle.slot_counter.proofs.SlotCounter.epoch.Kinds as slot_counter-SlotCounter-epoch-kinds
use Rattle.slot_counter.proofs.SlotCounter.epoch.Reads as slot_counter-SlotCounter-epoch-reads
use Rattle.slot_counter.proofs.SlotCounter.slot_number.Kinds as slot_counter-SlotCounter-slot_number-kinds
use Rattle.slot_counter.proofs.SlotCounter.slot_number.Reads as slot_counter-SlotCounter-slot_number-reads
use Rattle.slot_counter.proofs.SlotCounter.slots_since.Kinds as slot_counter-SlotCounter-slots_since-kinds
use Rattle.slot_counter.proofs.SlotCounter.slots_since.Reads as slot_counter-SlotCounter-slots_since-reads
use Rattle.transport.proofs.accepted.Kinds as transport-accepted-kinds
use Rattle.transport.proofs.accepted.Reads as transport-accepted-reads
use Rattle.transport.proofs.needed.Kinds as transport-needed-kinds
use Rattle.transport.proofs.needed.Reads as transport-needed-reads
use Rattle.transport.proofs.interpret_packet_number_lo.Kinds as transport-interpret_packet_number_lo-kinds
use Rattle.transport.proofs.interpret_packet_number_lo.Reads as transport-interpret_packet_number_lo-reads
use Rattle.layouts.proofs.CommandRequest.fields.Kinds as layouts-CommandRequest-fields-kinds
use Rattle.layouts.proofs.CommandRequest.fields.Reads as layouts-CommandRequest-fields-reads
use Rattle.layouts.proofs.CommandRequest.read.Kinds as layouts-CommandRequest-read-kinds
use Rattle.layouts.proofs.CommandRequest.read.Reads as layouts-CommandRequest-read-reads
use Rattle.layouts.proofs.CommandResponse.fields.Kinds as layouts-CommandResponse-fields-kinds
use Rattle.layouts.proofs.CommandResponse.fields.Reads as layouts-CommandResponse-fields-reads
use Rattle.layouts.proofs.CommandResponse.read.Kinds as layouts-CommandResponse-read-kinds
use Rattle.layouts.proofs.CommandResponse.read.Reads as layouts-CommandResponse-read-reads
use Rattle.layouts.proofs.ReceiveRequest.fields.Kinds as layouts-ReceiveRequest-fields-kinds
use Rattle.layouts.proofs.ReceiveRequest.fields.Reads as layouts-ReceiveRequest-fields-reads
use Rattle.layouts.proofs.ReceiveRequest.read.Kinds as layouts-ReceiveRequest-read-kinds
use Rattle.layouts.proofs.ReceiveRequest.read.Reads as layouts-ReceiveRequest-read-reads
use Rattle.layouts.proofs.IdentifyResponse.fields.Kinds as layouts-IdentifyResponse-fields-kinds
use Rattle.layouts.proofs.IdentifyResponse.fields.Reads as layouts-IdentifyResponse-fields-reads
use Rattle.layouts.proofs.IdentifyResponse.read.Kinds as layouts-IdentifyResponse-read-kinds
use Rattle.layouts.proofs.IdentifyResponse.read.Reads as layouts-IdentifyResponse-read-reads
use Rattle.layouts.proofs.IdentifyResponse.gateway_id.Kinds as layouts-IdentifyResponse-gateway_id-kinds
use Rattle.layouts.proofs.IdentifyResponse.gateway_id.Reads as layouts-IdentifyResponse-gateway_id-reads
use Rattle.layouts.proofs.EnumerationStartRequest.fields.Kinds as layouts-EnumerationStartRequest-fields-kinds
use Rattle.layouts.proofs.EnumerationStartRequest.fields.Reads as layouts-EnumerationStartRequest-fields-reads
use Rattle.layouts.proofs.EnumerationStartRequest.read.Kinds as layouts-EnumerationStartRequest-read-kinds
use Rattle.layouts.proofs.EnumerationStartRequest.read.Reads as layouts-EnumerationStartRequest-read-reads
use Rattle.layouts.proofs.EnumerationStartRequest.enumeration_gateway_id.Kinds as layouts-EnumerationStartRequest-enumeration_gateway_id-kinds
use Rattle.layouts.proofs.EnumerationStartRequest.enumeration_gateway_id.Reads as layouts-EnumerationStartRequest-enumeration_gateway_id-reads
use Rattle.transport.proofs.ReceiveResponse.read.Kinds as transport-ReceiveResponse-read-kinds
use Rattle.transport.proofs.ReceiveResponse.read.Reads as transport-ReceiveResponse-read-reads
use Rattle.tables.proofs.find.Kinds as tables-find-kinds
use Rattle.tables.proofs.find.Reads as tables-find-reads
use Rattle.tables.proofs.seat.Kinds as tables-seat-kinds
use Rattle.tables.proofs.seat.Reads as tables-seat-reads
use Rattle.tables.proofs.over.Kinds as tables-over-kinds
use Rattle.tables.proofs.over.Reads as tables-over-reads
use Rattle.answers.proofs.entries.gateway_key.Kinds as answers-entries-gateway_key-kinds
use Rattle.answers.proofs.entries.gateway_key.Reads as answers-entries-gateway_key-reads
use Rattle.answers.proofs.entries.command_key.Kinds as answers-entries-command_key-kinds
use Rattle.answers.proofs.entries.command_key.Reads as answers-entries-command_key-reads
use Rattle.answers.proofs.entries.add.Kinds as answers-entries-add-kinds
use Rattle.answers.proofs.entries.add.Reads as answers-entries-add-reads
use Rattle.answers.proofs.entries.raise.Kinds as answers-entries-raise-kinds
use Rattle.answers.proofs.entries.raise.Reads as answers-entries-raise-reads
use Rattle.answers.proofs.entries.add_at.Kinds as answers-entries-add_at-kinds
use Rattle.answers.proofs.entries.add_at.Reads as answers-entries-add_at-reads
use Rattle.answers.proofs.entries.raise_at.Kinds as answers-entries-raise_at-kinds
use Rattle.answers.proofs.entries.raise_at.Reads as answers-entries-raise_at-reads
use Rattle.answers.proofs.counters.Counter.place.Kinds as answers-counters-Counter-place-kinds
use Rattle.answers.proofs.counters.Counter.place.Reads as answers-counters-Counter-place-reads
use Rattle.answers.proofs.Refusal.number.Kinds as answers-Refusal-number-kinds
use Rattle.answers.proofs.Refusal.number.Reads as answers-Refusal-number-reads
use Rattle.answers.proofs.Refusal.needed.Kinds as answers-Refusal-needed-kinds
use Rattle.answers.proofs.Refusal.needed.Reads as answers-Refusal-needed-reads
use Rattle.answers.proofs.barred.Kinds as answers-barred-kinds
use Rattle.answers.proofs.barred.Reads as answers-barred-reads
use Rattle.receive_frames.proofs.receive_request.Kinds as receive_frames-receive_request-kinds
use Rattle.receive_frames.proofs.receive_request.Reads as receive_frames-receive_request-reads
use Rattle.receive_frames.proofs.receive_response.Kinds as receive_frames-receive_response-kinds
use Rattle.receive_frames.proofs.receive_response.Reads as receive_frames-receive_response-reads
use Rattle.command_frames.proofs.command_request.Kinds as command_frames-command_request-kinds
use Rattle.command_frames.proofs.command_request.Reads as command_frames-command_request-reads
use Rattle.command_frames.proofs.command_response.Kinds as command_frames-command_response-kinds
use Rattle.command_frames.proofs.command_response.Reads as command_frames-command_response-reads
use Rattle.plain_frames.proofs.untabled.Kinds as plain_frames-untabled-kinds
use Rattle.plain_frames.proofs.untabled.Reads as plain_frames-untabled-reads
use Rattle.transport_receiver.proofs.Receiver.new.Kinds as transport_receiver-Receiver-new-kinds
use Rattle.transport_receiver.proofs.Receiver.new.Reads as transport_receiver-Receiver-new-reads
use Rattle.transport_receiver.proofs.Receiver.step.Kinds as transport_receiver-Receiver-step-kinds
use Rattle.transport_receiver.proofs.Receiver.step.Reads as transport_receiver-Receiver-step-reads
use Rattle.transport_receiver.proofs.Receiver.reset_counters.Kinds as transport_receiver-Receiver-reset_counters-kinds
use Rattle.transport_receiver.proofs.Receiver.reset_counters.Reads as transport_receiver-Receiver-reset_counters-reads
use Rattle.transport_receiver.proofs.step_in.Kinds as transport_receiver-step_in-kinds
use Rattle.transport_receiver.proofs.step_in.Reads as transport_receiver-step_in-reads
use Rattle.transport_receiver.proofs.reset_in.Kinds as transport_receiver-reset_in-kinds
use Rattle.transport_receiver.proofs.reset_in.Reads as transport_receiver-reset_in-reads
use Rattle.sound_record.proofs.KindTryFromU8.try_from.Kinds as sound_record-Kind-try_from-kinds
use Rattle.sound_record.proofs.KindTryFromU8.try_from.Reads as sound_record-Kind-try_from-reads
use Rattle.sound_record.proofs.U8FromKind.from.Kinds as sound_record-u8-from-kinds
use Rattle.sound_record.proofs.U8FromKind.from.Reads as sound_record-u8-from-reads
use Rattle.sound_record.proofs.Kind.allows.Kinds as sound_record-Kind-allows-kinds
use Rattle.sound_record.proofs.Kind.allows.Reads as sound_record-Kind-allows-reads
use Rattle.sound_record.proofs.sound_body.Kinds as sound_record-sound_body-kinds
use Rattle.sound_record.proofs.sound_body.Reads as sound_record-sound_body-reads
use Rattle.sound_record.proofs.sound.Kinds as sound_record-sound-kinds
use Rattle.sound_record.proofs.sound.Reads as sound_record-sound-reads
use Rattle.sound_record.proofs.sound_at.Kinds as sound_record-sound_at-kinds
use Rattle.sound_record.proofs.sound_at.Reads as sound_record-sound_at-reads
use Rattle.event_record.proofs.enumeration_started.Kinds as event_record-enumeration_started-kinds
use Rattle.event_record.proofs.enumeration_started.Reads as event_record-enumeration_started-reads
use Rattle.event_record.proofs.identity.Kinds as event_record-identity-kinds
use Rattle.event_record.proofs.identity.Reads as event_record-identity-reads
use Rattle.event_record.proofs.version.Kinds as event_record-version-kinds
use Rattle.event_record.proofs.version.Reads as event_record-version-reads
use Rattle.event_record.proofs.enumeration_ended.Kinds as event_record-enumeration_ended-kinds
use Rattle.event_record.proofs.enumeration_ended.Reads as event_record-enumeration_ended-reads
use Rattle.event_record.proofs.slot_captured.Kinds as event_record-slot_captured-kinds
use Rattle.event_record.proofs.slot_captured.Reads as event_record-slot_captured-reads
use Rattle.event_record.proofs.slot_counter.Kinds as event_record-slot_counter-kinds
use Rattle.event_record.proofs.slot_counter.Reads as event_record-slot_counter-reads
use Rattle.event_record.proofs.packet.Kinds as event_record-packet-kinds
use Rattle.event_record.proofs.packet.Reads as event_record-packet-reads
use Rattle.event_record.proofs.command.Kinds as event_record-command-kinds
use Rattle.event_record.proofs.command.Reads as event_record-command-reads
use Rattle.event_log.proofs.write.Kinds as event_log-write-kinds
use Rattle.event_log.proofs.write.Reads as event_log-write-reads
use Rattle.words.proofs.half.Kinds as words-half-kinds
use Rattle.words.proofs.half.Reads as words-half-reads
use Rattle.words.proofs.word.Kinds as words-word-kinds
use Rattle.words.proofs.word.Reads as words-word-reads
use Rattle.words.proofs.put_word.Kinds as words-put_word-kinds
use Rattle.words.proofs.put_word.Reads as words-put_word-reads
use Rattle.words.proofs.byte_at.Kinds as words-byte_at-kinds
use Rattle.words.proofs.byte_at.Reads as words-byte_at-reads
use Rattle.words.proofs.be16.Kinds as words-be16-kinds
use Rattle.words.proofs.be16.Reads as words-be16-reads
use Rattle.words.proofs.high.Kinds as words-high-kinds
use Rattle.words.proofs.high.Reads as words-high-reads
use Rattle.words.proofs.low.Kinds as words-low-kinds
use Rattle.words.proofs.low.Reads as words-low-reads
use Rattle.words.proofs.copy_in.Kinds as words-copy_in-kinds
use Rattle.words.proofs.copy_in.Reads as words-copy_in-reads
use Rattle.byte_runs.proofs.is.Kinds as byte_runs-is-kinds
use Rattle.byte_runs.proofs.is.Reads as byte_runs-is-reads
use Rattle.byte_runs.proofs.run.Kinds as byte_runs-run-kinds
use Rattle.byte_runs.proofs.run.Reads as byte_runs-run-reads
use Rattle.byte_runs.proofs.copy_run.Kinds as byte_runs-copy_run-kinds
use Rattle.byte_runs.proofs.copy_run.Reads as byte_runs-copy_run-reads
use Rattle.byte_runs.proofs.noises.Kinds as byte_runs-noises-kinds
use Rattle.byte_runs.proofs.noises.Reads as byte_runs-noises-reads
use Rattle.link_receive.proofs.payload.Kinds as link_receive-payload-kinds
use Rattle.link_receive.proofs.payload.Reads as link_receive-payload-reads
use Rattle.transport_receiver.proofs.request_payload.Kinds as transport_receiver-request_payload-kinds
use Rattle.transport_receiver.proofs.request_payload.Reads as transport_receiver-request_payload-reads
use Rattle.console.proofs.FailureFromError.from.Kinds as console-Failure-from-kinds
use Rattle.console.proofs.FailureFromError.from.Reads as console-Failure-from-reads
use Rattle.console.proofs.text.put.Kinds as console-text-put-kinds
use Rattle.console.proofs.text.put.Reads as console-text-put-reads
use Rattle.console.proofs.text.put_all.Kinds as console-text-put_all-kinds
use Rattle.console.proofs.text.put_all.Reads as console-text-put_all-reads
use Rattle.console.proofs.text.put_hex.Kinds as console-text-put_hex-kinds
use Rattle.console.proofs.text.put_hex.Reads as console-text-put_hex-reads
use Rattle.console.proofs.text.Output.put.Kinds as console-text-Output-put-kinds
use Rattle.console.proofs.text.Output.put.Reads as console-text-Output-put-reads
use Rattle.console.proofs.text.Output.put_all.Kinds as console-text-Output-put_all-kinds
use Rattle.console.proofs.text.Output.put_all.Reads as console-text-Output-put_all-reads
use Rattle.console.proofs.text.Output.put_hex.Kinds as console-text-Output-put_hex-kinds
use Rattle.console.proofs.text.Output.put_hex.Reads as console-text-Output-put_hex-reads

-- a kind and its number
abbrev dsn : ℕ → DSN
dsn n = record { 0 = n }

abbrev gateway_id : ℕ → GatewayID
gateway_id n = record { 0 = n }

abbrev node_address : ℕ → NodeAddress
node_address n = record { 0 = n }

abbrev slot_counter : ℕ → SlotCounter
slot_counter n = record { 0 = n }

abbrev packet_number : ℕ → PacketNumber
packet_number n = record { 0 = n }

abbrev walker : Bor (List ℕ) → ℕ → ReceivedPackets
walker s n = record { area = s; at = n }

-- two answers true under one condition are one
both : {U : Type 0} (x y : Bool) → (x ≡ true) ↔ U → (y ≡ true) ↔ U → x ≡ y
both true true p q = refl
both false false p q = refl
both true false p q = sym (q.1 (p.0 refl))
both false true p q = p.1 (q.0 refl)

pub crc-crc : Determined 1 crc-crc-kinds.ps crc-crc-kinds.r crc-crc-reads.Learnt
crc-crc κs a x y u v p q = (p ∙ sym q, refl)

pub escaping-escaped_length : Determined 1 escaping-escaped_length-kinds.ps escaping-escaped_length-kinds.r escaping-escaped_length-reads.Learnt
escaping-escaped_length κs a x y u v p q = (handed_length-same x y (p ∙ sym q), refl)

pub escaping-escape : Determined 2 escaping-escape-kinds.ps escaping-escape-kinds.r escaping-escape-reads.Learnt
escaping-escape κs a x y u v p q = (handed_written-same x y (p.0 ∙ sym q.0), cc)

pub escaping-unescaped_byte : Determined 0 escaping-unescaped_byte-kinds.ps escaping-unescaped_byte-kinds.r escaping-unescaped_byte-reads.Learnt
escaping-unescaped_byte κs a x y u v p q = (handed_byte-same x y (p ∙ sym q), refl)

pub address-GatewayID-try_from : Determined 0 address-GatewayID-try_from-kinds.ps address-GatewayID-try_from-kinds.r address-GatewayID-try_from-reads.Learnt
address-GatewayID-try_from κs a x y u v p q = (handed_id-same x y (p ∙ sym q), refl)

pub address-Address-from : Determined 0 address-Address-from-kinds.ps address-Address-from-kinds.r address-Address-from-reads.Learnt
address-Address-from κs a x y u v p q = (p ∙ sym q, refl)

pub address-u16-try_from : Determined 0 address-u16-try_from-kinds.ps address-u16-try_from-kinds.r address-u16-try_from-reads.Learnt
address-u16-try_from κs a x y u v p q = (handed_number-same x y (p ∙ sym q), refl)

pub address-Address-gateway : Determined 0 address-Address-gateway-kinds.ps address-Address-gateway-kinds.r address-Address-gateway-reads.Learnt
address-Address-gateway κs a x y u v p q = (ap gateway_id (p ∙ sym q), refl)

pub address-Address-is_from : Determined 0 address-Address-is_from-kinds.ps address-Address-is_from-kinds.r address-Address-is_from-reads.Learnt
address-Address-is_from κs a x y u v p q = (p ∙ sym q, refl)

pub address-Address-from_be_bytes : Determined 0 address-Address-from_be_bytes-kinds.ps address-Address-from_be_bytes-kinds.r address-Address-from_be_bytes-reads.Learnt
address-Address-from_be_bytes κs a x y u v p q = (p ∙ sym q, refl)

pub address-Address-to_be_bytes : Determined 0 address-Address-to_be_bytes-kinds.ps address-Address-to_be_bytes-kinds.r address-Address-to_be_bytes-reads.Learnt
address-Address-to_be_bytes κs a x y u v p q = (handed_bytes-same x y (p ∙ sym q), refl)

-- an error of `encode` is known by its row
encode-error : (x y : EncodeError) → refusal_of x ≡ refusal_of y → x ≡ y
encode-error x y e =
    let z : ◌≡◌ {A = Result ℕ EncodeError} (Err x) (Err y) = handed-same (Err x) (Err y) (ap refused_as e) in
    cc

pub link-EncodeError-from_id : Determined 0 link-EncodeError-from_id-kinds.ps link-EncodeError-from_id-kinds.r link-EncodeError-from_id-reads.Learnt
link-EncodeError-from_id κs a x y u v p q = (encode-error x y (p ∙ sym q), refl)

pub link-EncodeError-from_escape : Determined 0 link-EncodeError-from_escape-kinds.ps link-EncodeError-from_escape-kinds.r link-EncodeError-from_escape-reads.Learnt
link-EncodeError-from_escape κs a x y u v p q = (encode-error x y (p ∙ sym q), refl)

pub link-encode : Determined 2 link-encode-kinds.ps link-encode-kinds.r link-encode-reads.Learnt
link-encode κs a x y u v p q = (handed-same x y (p.0 ∙ sym q.0), cc)

pub link_receive-open_frames : Determined 0 link_receive-open_frames-kinds.ps link_receive-open_frames-kinds.r link_receive-open_frames-reads.Learnt
link_receive-open_frames κs a x y u v p q = (p ∙ sym q, refl)

pub link_receive-moves-turn : Determined 0 link_receive-moves-turn-kinds.ps link_receive-moves-turn-kinds.r link_receive-moves-turn-reads.Learnt
link_receive-moves-turn κs a x y u v p q = (p ∙ sym q, refl)

pub link_receive-moves-parse_frame : Determined 1 link_receive-moves-parse_frame-kinds.ps link_receive-moves-parse_frame-kinds.r link_receive-moves-parse_frame-reads.Learnt
link_receive-moves-parse_frame κs a x y u v p q = (p ∙ sym q, refl)

pub link_receive-numbered-state_at : Determined 0 link_receive-numbered-state_at-kinds.ps link_receive-numbered-state_at-kinds.r link_receive-numbered-state_at-reads.Learnt
link_receive-numbered-state_at κs a x y u v p q = (p ∙ sym q, refl)

pub link_receive-numbered-state_number : Determined 0 link_receive-numbered-state_number-kinds.ps link_receive-numbered-state_number-kinds.r link_receive-numbered-state_number-reads.Learnt
link_receive-numbered-state_number κs a x y u v p q = (p ∙ sym q, refl)

pub link_receive-numbered-receiver_at : Determined 0 link_receive-numbered-receiver_at-kinds.ps link_receive-numbered-receiver_at-kinds.r link_receive-numbered-receiver_at-reads.Learnt
link_receive-numbered-receiver_at κs a x y u v p q = (p ∙ sym q, refl)

pub link_receive-numbered-numbers_of : Determined 0 link_receive-numbered-numbers_of-kinds.ps link_receive-numbered-numbers_of-kinds.r link_receive-numbered-numbers_of-reads.Learnt
link_receive-numbered-numbers_of κs a x y u v p q = (p ∙ sym q, refl)

pub link_feed-lending-feed_in : Determined 3 link_feed-lending-feed_in-kinds.ps link_feed-lending-feed_in-kinds.r link_feed-lending-feed_in-reads.Learnt
link_feed-lending-feed_in κs a x y u v p q = (p.0 ∙ sym q.0, cc)

pub link_feed-lending-feed_from : Determined 3 link_feed-lending-feed_from-kinds.ps link_feed-lending-feed_from-kinds.r link_feed-lending-feed_from-reads.Learnt
link_feed-lending-feed_from κs a x y u v p q = (p.0 ∙ sym q.0, cc)

pub link_receive-Receiver-new : Determined 0 link_receive-Receiver-new-kinds.ps link_receive-Receiver-new-kinds.r link_receive-Receiver-new-reads.Learnt
link_receive-Receiver-new κs a x y u v p q = (p ∙ sym q, refl)

pub link_receive-Receiver-push_u8 : Determined 0 link_receive-Receiver-push_u8-kinds.ps link_receive-Receiver-push_u8-kinds.r link_receive-Receiver-push_u8-reads.Learnt
link_receive-Receiver-push_u8 κs a x y u v p q = (p ∙ sym q, refl)

pub link_receive-Receiver-reset_counters : Determined 0 link_receive-Receiver-reset_counters-kinds.ps link_receive-Receiver-reset_counters-kinds.r link_receive-Receiver-reset_counters-reads.Learnt
link_receive-Receiver-reset_counters κs a x y u v p q = (p ∙ sym q, refl)

pub link_feed-feed : Determined 1 link_feed-feed-kinds.ps link_feed-feed-kinds.r link_feed-feed-reads.Learnt
link_feed-feed κs a x y u v p q = (p ∙ sym q, refl)

pub link_feed-extend_from_slice : Determined 1 link_feed-extend_from_slice-kinds.ps link_feed-extend_from_slice-kinds.r link_feed-extend_from_slice-reads.Learnt
link_feed-extend_from_slice κs a x y u v p q = (p ∙ sym q, refl)

pub lent_tallies-push_u8 : Determined 1 lent_tallies-push_u8-kinds.ps lent_tallies-push_u8-kinds.r lent_tallies-push_u8-reads.Learnt
lent_tallies-push_u8 κs a x y u v p q =
    let s : x ≡ y = p.exactly ∙ sym q.exactly in
    (s, ap (λ (t : Tallies). (at_last a.0 t, (a.1.0, (a.1.1.0, tt)))) (p.lent ∙ ap (λ (z : by_byte.Stepped). z.next.tallies) s ∙ sym q.lent))

pub lent_tallies-feed : Determined 2 lent_tallies-feed-kinds.ps lent_tallies-feed-kinds.r lent_tallies-feed-reads.Learnt
lent_tallies-feed κs a x y u v p q =
    let s : x ≡ y = p.exactly ∙ sym q.exactly in
    (s, ap (λ (t : Tallies). (at_last a.0 t, (a.1.0, (a.1.1.0, tt)))) (p.lent ∙ ap (λ (z : Fed). z.next.tallies) s ∙ sym q.lent))

pub books-told : Determined 0 books-told-kinds.ps books-told-kinds.r books-told-reads.Learnt
books-told κs a x y u v p q = (p.exactly ∙ sym q.exactly, refl)

pub books-absorb : Determined 1 books-absorb-kinds.ps books-absorb-kinds.r books-absorb-reads.Learnt
books-absorb κs a x y u v p q = (p.exactly ∙ sym q.exactly, refl)

pub books-give : Determined 1 books-give-kinds.ps books-give-kinds.r books-give-reads.Learnt
books-give κs a x y u v p q = (p.exactly ∙ sym q.exactly, refl)

pub books-ledger_of : Determined 1 books-ledger_of-kinds.ps books-ledger_of-kinds.r books-ledger_of-reads.Learnt
books-ledger_of κs a x y u v p q = (ledgered-once crc_of present a.0.now x y p q, refl)

pub utf8-is_utf8 : Determined 1 utf8-is_utf8-kinds.ps utf8-is_utf8-kinds.r utf8-is_utf8-reads.Learnt
utf8-is_utf8 κs a x y u v p q = (both x y p q, refl)

pub utf8-is_text : Determined 1 utf8-is_text-kinds.ps utf8-is_text-kinds.r utf8-is_text-reads.Learnt
utf8-is_text κs a x y u v p q = (both x y p q, refl)

pub network-DSN-add : Determined 0 network-DSN-add-kinds.ps network-DSN-add-kinds.r network-DSN-add-reads.Learnt
network-DSN-add κs a x y u v p q = (ap dsn (p ∙ sym q), refl)

pub network-NodeID-new : Determined 0 network-NodeID-new-kinds.ps network-NodeID-new-kinds.r network-NodeID-new-reads.Learnt
network-NodeID-new κs a x y u v p q = (p ∙ sym q, refl)

pub network-NodeID-get : Determined 0 network-NodeID-get-kinds.ps network-NodeID-get-kinds.r network-NodeID-get-reads.Learnt
network-NodeID-get κs a x y u v p q = (p ∙ sym q, refl)

pub network-NodeID-successor : Determined 0 network-NodeID-successor-kinds.ps network-NodeID-successor-kinds.r network-NodeID-successor-reads.Learnt
network-NodeID-successor κs a x y u v p q = (p ∙ sym q, refl)

pub network-NodeAddress-node : Determined 0 network-NodeAddress-node-kinds.ps network-NodeAddress-node-kinds.r network-NodeAddress-node-reads.Learnt
network-NodeAddress-node κs a x y u v p q = (p ∙ sym q, refl)

pub network-NodeAddress-from_node : Determined 0 network-NodeAddress-from_node-kinds.ps network-NodeAddress-from_node-kinds.r network-NodeAddress-from_node-reads.Learnt
network-NodeAddress-from_node κs a x y u v p q = (ap node_address (p ∙ sym q), refl)

pub network-NodeAddress-from_id : Determined 0 network-NodeAddress-from_id-kinds.ps network-NodeAddress-from_id-kinds.r network-NodeAddress-from_id-reads.Learnt
network-NodeAddress-from_id κs a x y u v p q = (ap node_address (p ∙ sym q), refl)

pub network-ReceivedPacketHeader-read : Determined 1 network-ReceivedPacketHeader-read-kinds.ps network-ReceivedPacketHeader-read-kinds.r network-ReceivedPacketHeader-read-reads.Learnt
network-ReceivedPacketHeader-read κs a x y u v p q = (p ∙ sym q, refl)

pub network-packet_at : Determined 1 network-packet_at-kinds.ps network-packet_at-kinds.r network-packet_at-reads.Learnt
network-packet_at κs a x y u v p q = (p ∙ sym q, refl)

pub network-counts : Determined 1 network-counts-kinds.ps network-counts-kinds.r network-counts-reads.Learnt
network-counts κs a x y u v p q = (p ∙ sym q, refl)

pub network-ReceivedPackets-new : Determined 1 network-ReceivedPackets-new-kinds.ps network-ReceivedPackets-new-kinds.r network-ReceivedPackets-new-reads.Learnt
network-ReceivedPackets-new κs a x y u v p q = (ap₂ walker (p.0 ∙ sym q.0) (p.1 ∙ sym q.1), refl)

pub network-ReceivedPackets-next : Determined 2 network-ReceivedPackets-next-kinds.ps network-ReceivedPackets-next-kinds.r network-ReceivedPackets-next-reads.Learnt
network-ReceivedPackets-next κs a x y u v p q = (p.0.tells ∙ sym q.0.tells, ap (λ (w : ReceivedPackets). (at_last a.0 w, tt)) (p.0.moves ∙ sym q.0.moves))

pub slot_counter-SlotNumber-try_from : Determined 0 slot_counter-SlotNumber-try_from-kinds.ps slot_counter-SlotNumber-try_from-kinds.r slot_counter-SlotNumber-try_from-reads.Learnt
slot_counter-SlotNumber-try_from κs a x y u v p q = (p ∙ sym q, refl)

pub slot_counter-SlotNumber-get : Determined 0 slot_counter-SlotNumber-get-kinds.ps slot_counter-SlotNumber-get-kinds.r slot_counter-SlotNumber-get-reads.Learnt
slot_counter-SlotNumber-get κs a x y u v p q = (p ∙ sym q, refl)

pub slot_counter-u16-from : Determined 0 slot_counter-u16-from-kinds.ps slot_counter-u16-from-kinds.r slot_counter-u16-from-reads.Learnt
slot_counter-u16-from κs a x y u v p q = (p ∙ sym q, refl)

pub slot_counter-SlotEpoch-at : Determined 0 slot_counter-SlotEpoch-at-kinds.ps slot_counter-SlotEpoch-at-kinds.r slot_counter-SlotEpoch-at-reads.Learnt
slot_counter-SlotEpoch-at κs a x y u v p q = (p ∙ sym q, refl)

pub slot_counter-SlotEpoch-index : Determined 0 slot_counter-SlotEpoch-index-kinds.ps slot_counter-SlotEpoch-index-kinds.r slot_counter-SlotEpoch-index-reads.Learnt
slot_counter-SlotEpoch-index κs a x y u v p q = (p ∙ sym q, refl)

pub slot_counter-SlotEpoch-add : Determined 0 slot_counter-SlotEpoch-add-kinds.ps slot_counter-SlotEpoch-add-kinds.r slot_counter-SlotEpoch-add-reads.Learnt
slot_counter-SlotEpoch-add κs a x y u v p q = (p ∙ sym q, refl)

pub slot_counter-SlotEpoch-add_assign : Determined 1 slot_counter-SlotEpoch-add_assign-kinds.ps slot_counter-SlotEpoch-add_assign-kinds.r slot_counter-SlotEpoch-add_assign-reads.Learnt
slot_counter-SlotEpoch-add_assign κs a x y u v p q = (refl, ap (λ (e : SlotEpoch). (at_last a.0 e, (a.1.0, tt))) (p ∙ sym q))

pub slot_counter-SlotCounter-new : Determined 0 slot_counter-SlotCounter-new-kinds.ps slot_counter-SlotCounter-new-kinds.r slot_counter-SlotCounter-new-reads.Learnt
slot_counter-SlotCounter-new κs a x y u v p q = (ap slot_counter (p ∙ sym q), refl)

pub slot_counter-SlotCounter-from_be_bytes : Determined 0 slot_counter-SlotCounter-from_be_bytes-kinds.ps slot_counter-SlotCounter-from_be_bytes-kinds.r slot_counter-SlotCounter-from_be_bytes-reads.Learnt
slot_counter-SlotCounter-from_be_bytes κs a x y u v p q = (ap slot_counter (p ∙ sym q), refl)

pub slot_counter-SlotCounter-epoch : Determined 0 slot_counter-SlotCounter-epoch-kinds.ps slot_counter-SlotCounter-epoch-kinds.r slot_counter-SlotCounter-epoch-reads.Learnt
slot_counter-SlotCounter-epoch κs a x y u v p q = (p ∙ sym q, refl)

pub slot_counter-SlotCounter-slot_number : Determined 0 slot_counter-SlotCounter-slot_number-kinds.ps slot_counter-SlotCounter-slot_number-kinds.r slot_counter-SlotCounter-slot_number-reads.Learnt
slot_counter-SlotCounter-slot_number κs a x y u v p q = (p ∙ sym q, refl)

pub slot_counter-SlotCounter-slots_since : Determined 0 slot_counter-SlotCounter-slots_since-kinds.ps slot_counter-SlotCounter-slots_since-kinds.r slot_counter-SlotCounter-slots_since-reads.Learnt
slot_counter-SlotCounter-slots_since κs a x y u v p q = (p ∙ sym q, refl)

pub transport-accepted : Determined 0 transport-accepted-kinds.ps transport-accepted-kinds.r transport-accepted-reads.Learnt
transport-accepted κs a x y u v p q = (p ∙ sym q, refl)

pub transport-needed : Determined 0 transport-needed-kinds.ps transport-needed-kinds.r transport-needed-reads.Learnt
transport-needed κs a x y u v p q = (p ∙ sym q, refl)

pub transport-interpret_packet_number_lo : Determined 0 transport-interpret_packet_number_lo-kinds.ps transport-interpret_packet_number_lo-kinds.r transport-interpret_packet_number_lo-reads.Learnt
transport-interpret_packet_number_lo κs a x y u v p q = (ap packet_number (p ∙ sym q), refl)

pub layouts-CommandRequest-fields : Determined 1 layouts-CommandRequest-fields-kinds.ps layouts-CommandRequest-fields-kinds.r layouts-CommandRequest-fields-reads.Learnt
layouts-CommandRequest-fields κs a x y u v p q = (p ∙ sym q, refl)

pub layouts-CommandRequest-read : Determined 1 layouts-CommandRequest-read-kinds.ps layouts-CommandRequest-read-kinds.r layouts-CommandRequest-read-reads.Learnt
layouts-CommandRequest-read κs a x y u v p q = (p ∙ sym q, refl)

pub layouts-CommandResponse-fields : Determined 1 layouts-CommandResponse-fields-kinds.ps layouts-CommandResponse-fields-kinds.r layouts-CommandResponse-fields-reads.Learnt
layouts-CommandResponse-fields κs a x y u v p q = (p ∙ sym q, refl)

pub layouts-CommandResponse-read : Determined 1 layouts-CommandResponse-read-kinds.ps layouts-CommandResponse-read-kinds.r layouts-CommandResponse-read-reads.Learnt
layouts-CommandResponse-read κs a x y u v p q = (p ∙ sym q, refl)

pub layouts-ReceiveRequest-fields : Determined 1 layouts-ReceiveRequest-fields-kinds.ps layouts-ReceiveRequest-fields-kinds.r layouts-ReceiveRequest-fields-reads.Learnt
layouts-ReceiveRequest-fields κs a x y u v p q = (p ∙ sym q, refl)

pub layouts-ReceiveRequest-read : Determined 1 layouts-ReceiveRequest-read-kinds.ps layouts-ReceiveRequest-read-kinds.r layouts-ReceiveRequest-read-reads.Learnt
layouts-ReceiveRequest-read κs a x y u v p q = (p ∙ sym q, refl)

pub layouts-IdentifyResponse-fields : Determined 1 layouts-IdentifyResponse-fields-kinds.ps layouts-IdentifyResponse-fields-kinds.r layouts-IdentifyResponse-fields-reads.Learnt
layouts-IdentifyResponse-fields κs a x y u v p q = (p ∙ sym q, refl)

pub layouts-IdentifyResponse-read : Determined 1 layouts-IdentifyResponse-read-kinds.ps layouts-IdentifyResponse-read-kinds.r layouts-IdentifyResponse-read-reads.Learnt
layouts-IdentifyResponse-read κs a x y u v p q = (p ∙ sym q, refl)

pub layouts-IdentifyResponse-gateway_id : Determined 0 layouts-IdentifyResponse-gateway_id-kinds.ps layouts-IdentifyResponse-gateway_id-kinds.r layouts-IdentifyResponse-gateway_id-reads.Learnt
layouts-IdentifyResponse-gateway_id κs a x y u v p q = (p ∙ sym q, refl)

pub layouts-EnumerationStartRequest-fields : Determined 1 layouts-EnumerationStartRequest-fields-kinds.ps layouts-EnumerationStartRequest-fields-kinds.r layouts-EnumerationStartRequest-fields-reads.Learnt
layouts-EnumerationStartRequest-fields κs a x y u v p q = (p ∙ sym q, refl)

pub layouts-EnumerationStartRequest-read : Determined 1 layouts-EnumerationStartRequest-read-kinds.ps layouts-EnumerationStartRequest-read-kinds.r layouts-EnumerationStartRequest-read-reads.Learnt
layouts-EnumerationStartRequest-read κs a x y u v p q = (p ∙ sym q, refl)

pub layouts-EnumerationStartRequest-enumeration_gateway_id : Determined 0 layouts-EnumerationStartRequest-enumeration_gateway_id-kinds.ps layouts-EnumerationStartRequest-enumeration_gateway_id-kinds.r layouts-EnumerationStartRequest-enumeration_gateway_id-reads.Learnt
layouts-EnumerationStartRequest-enumeration_gateway_id κs a x y u v p q = (p ∙ sym q, refl)

pub transport-ReceiveResponse-read : Determined 1 transport-ReceiveResponse-read-kinds.ps transport-ReceiveResponse-read-kinds.r transport-ReceiveResponse-read-reads.Learnt
transport-ReceiveResponse-read κs a x y u v p q = (p ∙ sym q, refl)

pub tables-find : Determined 1 tables-find-kinds.ps tables-find-kinds.r tables-find-reads.Learnt
tables-find κs a x y u v p q = (p ∙ sym q, refl)

pub tables-seat : Determined 1 tables-seat-kinds.ps tables-seat-kinds.r tables-seat-reads.Learnt
tables-seat κs a x y u v p q = (p ∙ sym q, refl)

pub tables-over : Determined 2 tables-over-kinds.ps tables-over-kinds.r tables-over-reads.Learnt
tables-over κs a x y u v p q = (p ∙ sym q, refl)

pub answers-entries-gateway_key : Determined 0 answers-entries-gateway_key-kinds.ps answers-entries-gateway_key-kinds.r answers-entries-gateway_key-reads.Learnt
answers-entries-gateway_key κs a x y u v p q = (p ∙ sym q, refl)

pub answers-entries-command_key : Determined 0 answers-entries-command_key-kinds.ps answers-entries-command_key-kinds.r answers-entries-command_key-reads.Learnt
answers-entries-command_key κs a x y u v p q = (p ∙ sym q, refl)

pub answers-entries-add : Determined 1 answers-entries-add-kinds.ps answers-entries-add-kinds.r answers-entries-add-reads.Learnt
answers-entries-add κs a x y u v p q = (refl, ap (λ (z : List ℕ). (at_last a.0 z, (a.1.0, (a.1.1.0, tt)))) (p ∙ sym q))

pub answers-entries-raise : Determined 1 answers-entries-raise-kinds.ps answers-entries-raise-kinds.r answers-entries-raise-reads.Learnt
answers-entries-raise κs a x y u v p q = (refl, ap (λ (z : List ℕ). (at_last a.0 z, (a.1.0, tt))) (p ∙ sym q))

pub answers-entries-add_at : Determined 1 answers-entries-add_at-kinds.ps answers-entries-add_at-kinds.r answers-entries-add_at-reads.Learnt
answers-entries-add_at κs a x y u v p q = (refl, ap (λ (z : List ℕ). (at_last a.0 z, (a.1.0, (a.1.1.0, tt)))) (p ∙ sym q))

pub answers-entries-raise_at : Determined 1 answers-entries-raise_at-kinds.ps answers-entries-raise_at-kinds.r answers-entries-raise_at-reads.Learnt
answers-entries-raise_at κs a x y u v p q = (refl, ap (λ (z : List ℕ). (at_last a.0 z, (a.1.0, tt))) (p ∙ sym q))

pub answers-counters-Counter-place : Determined 0 answers-counters-Counter-place-kinds.ps answers-counters-Counter-place-kinds.r answers-counters-Counter-place-reads.Learnt
answers-counters-Counter-place κs a x y u v p q = (p ∙ sym q, refl)

pub answers-Refusal-number : Determined 0 answers-Refusal-number-kinds.ps answers-Refusal-number-kinds.r answers-Refusal-number-reads.Learnt
answers-Refusal-number κs a x y u v p q = (p ∙ sym q, refl)

pub answers-Refusal-needed : Determined 0 answers-Refusal-needed-kinds.ps answers-Refusal-needed-kinds.r answers-Refusal-needed-reads.Learnt
answers-Refusal-needed κs a x y u v p q = (p ∙ sym q, refl)

pub answers-barred : Determined 1 answers-barred-kinds.ps answers-barred-kinds.r answers-barred-reads.Learnt
answers-barred κs a x y u v p q = (p.0 ∙ sym q.0, refl)

pub receive_frames-receive_request : Determined 4 receive_frames-receive_request-kinds.ps receive_frames-receive_request-kinds.r receive_frames-receive_request-reads.Learnt
receive_frames-receive_request κs a x y u v p q = (ap (λ (s : Asked). s.answer) (p ∙ sym q), ap (λ (s : Asked). (at_last a.0 s.nkeys, (at_last a.1.0 s.numbers, (at_last a.1.1.0 s.counters, (a.1.1.1.0, (a.1.1.1.1.0, tt)))))) (p ∙ sym q))

pub receive_frames-receive_response : Determined 4 receive_frames-receive_response-kinds.ps receive_frames-receive_response-kinds.r receive_frames-receive_response-reads.Learnt
receive_frames-receive_response κs a x y u v p q = (ap (λ (s : Received). s.answer) (p ∙ sym q), ap (λ (s : Received). (a.0, (at_last a.1.0 s.numbers, (at_last a.1.1.0 s.counters, (a.1.1.1.0, (a.1.1.1.1.0, tt)))))) (p ∙ sym q))

pub command_frames-command_request : Determined 8 command_frames-command_request-kinds.ps command_frames-command_request-kinds.r command_frames-command_request-reads.Learnt
command_frames-command_request κs a x y u v p q = (ap (λ (s : Requested). s.answer) (p ∙ sym q), ap (λ (s : Requested). (at_last a.0 s.noted.skeys, (at_last a.1.0 s.noted.sequences, (at_last a.1.1.0 s.seated.ckeys, (at_last a.1.1.1.0 s.seated.ctypes, (at_last a.1.1.1.1.0 s.seated.clengths, (at_last a.1.1.1.1.1.0 s.seated.cpayloads, (at_last a.1.1.1.1.1.1.0 s.noted.counters, (a.1.1.1.1.1.1.1.0, (a.1.1.1.1.1.1.1.1.0, tt)))))))))) (p ∙ sym q))

pub command_frames-command_response : Determined 5 command_frames-command_response-kinds.ps command_frames-command_response-kinds.r command_frames-command_response-reads.Learnt
command_frames-command_response κs a x y u v p q = (ap (λ (s : Answered). s.answer) (p ∙ sym q), ap (λ (s : Answered). (at_last a.0 s.ckeys, (a.1.0, (a.1.1.0, (at_last a.1.1.1.0 s.counters, (a.1.1.1.1.0, (a.1.1.1.1.1.0, tt))))))) (p ∙ sym q))

pub plain_frames-untabled : Determined 2 plain_frames-untabled-kinds.ps plain_frames-untabled-kinds.r plain_frames-untabled-reads.Learnt
plain_frames-untabled κs a x y u v p q = (ap (λ (s : Counted). s.answer) (p ∙ sym q), ap (λ (s : Counted). (at_last a.0 s.counters, (a.1.0, (a.1.1.0, (a.1.1.1.0, tt))))) (p ∙ sym q))

pub transport_receiver-Receiver-new : Determined 0 transport_receiver-Receiver-new-kinds.ps transport_receiver-Receiver-new-kinds.r transport_receiver-Receiver-new-reads.Learnt
transport_receiver-Receiver-new κs a x y u v p q = (p ∙ sym q, refl)

pub transport_receiver-Receiver-step : Determined 2 transport_receiver-Receiver-step-kinds.ps transport_receiver-Receiver-step-kinds.r transport_receiver-Receiver-step-reads.Learnt
transport_receiver-Receiver-step κs a x y u v p q = (ap (λ (s : Stepped). s.answer) (p.0 ∙ sym q.0), ap (λ (s : Stepped). (at_last a.0 s.receiver, (a.1.0, (a.1.1.0, (a.1.1.1.0, tt))))) (p.0 ∙ sym q.0))

pub transport_receiver-Receiver-reset_counters : Determined 1 transport_receiver-Receiver-reset_counters-kinds.ps transport_receiver-Receiver-reset_counters-kinds.r transport_receiver-Receiver-reset_counters-reads.Learnt
transport_receiver-Receiver-reset_counters κs a x y u v p q = (ap (λ (s : WasReset). s.answer) (p.0 ∙ sym q.0), ap (λ (s : WasReset). (at_last a.0 s.receiver, tt)) (p.0 ∙ sym q.0))

pub transport_receiver-step_in : Determined 10 transport_receiver-step_in-kinds.ps transport_receiver-step_in-kinds.r transport_receiver-step_in-reads.Learnt
transport_receiver-step_in κs a x y u v p q = (ap (λ (s : Stepped). s.answer) (p.0 ∙ sym q.0), ap (λ (s : Stepped). (at_last a.0 s.receiver.numbers.keys, (at_last a.1.0 s.receiver.numbers.values, (at_last a.1.1.0 s.receiver.sequences.keys, (at_last a.1.1.1.0 s.receiver.sequences.values, (at_last a.1.1.1.1.0 s.receiver.commands.keys, (at_last a.1.1.1.1.1.0 s.receiver.commands.types, (at_last a.1.1.1.1.1.1.0 s.receiver.commands.lengths, (at_last a.1.1.1.1.1.1.1.0 s.receiver.commands.payloads, (at_last a.1.1.1.1.1.1.1.1.0 s.receiver.counters, (a.1.1.1.1.1.1.1.1.1.0, (a.1.1.1.1.1.1.1.1.1.1.0, (a.1.1.1.1.1.1.1.1.1.1.1.0, tt))))))))))))) (p.0 ∙ sym q.0))

pub transport_receiver-reset_in : Determined 3 transport_receiver-reset_in-kinds.ps transport_receiver-reset_in-kinds.r transport_receiver-reset_in-reads.Learnt
transport_receiver-reset_in κs a x y u v p q = (p.0 ∙ sym q.0, ap (λ (n : List ℕ). (a.0, (a.1.0, (at_last a.1.1.0 n, tt)))) (p.1 ∙ sym q.1))

pub sound_record-Kind-try_from : Determined 0 sound_record-Kind-try_from-kinds.ps sound_record-Kind-try_from-kinds.r sound_record-Kind-try_from-reads.Learnt
sound_record-Kind-try_from κs a x y u v p q = (numbered-same a.0 x y p q, refl)

pub sound_record-u8-from : Determined 0 sound_record-u8-from-kinds.ps sound_record-u8-from-kinds.r sound_record-u8-from-reads.Learnt
sound_record-u8-from κs a x y u v p q = (p ∙ sym q, refl)

pub sound_record-Kind-allows : Determined 1 sound_record-Kind-allows-kinds.ps sound_record-Kind-allows-kinds.r sound_record-Kind-allows-reads.Learnt
sound_record-Kind-allows κs a x y u v p q = (p ∙ sym q, refl)

pub sound_record-sound_body : Determined 1 sound_record-sound_body-kinds.ps sound_record-sound_body-kinds.r sound_record-sound_body-reads.Learnt
sound_record-sound_body κs a x y u v p q = (p ∙ sym q, refl)

pub sound_record-sound : Determined 1 sound_record-sound-kinds.ps sound_record-sound-kinds.r sound_record-sound-reads.Learnt
sound_record-sound κs a x y u v p q = (p ∙ sym q, refl)

pub sound_record-sound_at : Determined 1 sound_record-sound_at-kinds.ps sound_record-sound_at-kinds.r sound_record-sound_at-reads.Learnt
sound_record-sound_at κs a x y u v p q = (p ∙ sym q, refl)

pub event_record-enumeration_started : Determined 1 event_record-enumeration_started-kinds.ps event_record-enumeration_started-kinds.r event_record-enumeration_started-reads.Learnt
event_record-enumeration_started κs a x y u v p q = (handed-apart x y (p.0 ∙ sym q.0), cc)

pub event_record-identity : Determined 2 event_record-identity-kinds.ps event_record-identity-kinds.r event_record-identity-reads.Learnt
event_record-identity κs a x y u v p q = (handed-apart x y (p.0 ∙ sym q.0), cc)

pub event_record-version : Determined 2 event_record-version-kinds.ps event_record-version-kinds.r event_record-version-reads.Learnt
event_record-version κs a x y u v p q = (handed-apart x y (p.0 ∙ sym q.0), cc)

pub event_record-enumeration_ended : Determined 1 event_record-enumeration_ended-kinds.ps event_record-enumeration_ended-kinds.r event_record-enumeration_ended-reads.Learnt
event_record-enumeration_ended κs a x y u v p q = (handed-apart x y (p.0 ∙ sym q.0), cc)

pub event_record-slot_captured : Determined 1 event_record-slot_captured-kinds.ps event_record-slot_captured-kinds.r event_record-slot_captured-reads.Learnt
event_record-slot_captured κs a x y u v p q = (handed-apart x y (p.0 ∙ sym q.0), cc)

pub event_record-slot_counter : Determined 1 event_record-slot_counter-kinds.ps event_record-slot_counter-kinds.r event_record-slot_counter-reads.Learnt
event_record-slot_counter κs a x y u v p q = (handed-apart x y (p.0 ∙ sym q.0), cc)

pub event_record-packet : Determined 2 event_record-packet-kinds.ps event_record-packet-kinds.r event_record-packet-reads.Learnt
event_record-packet κs a x y u v p q = (handed-apart x y (p.0 ∙ sym q.0), cc)

pub event_record-command : Determined 3 event_record-command-kinds.ps event_record-command-kinds.r event_record-command-reads.Learnt
event_record-command κs a x y u v p q = (handed-apart x y (p.0 ∙ sym q.0), cc)

pub event_log-write : Determined 3 event_log-write-kinds.ps event_log-write-kinds.r event_log-write-reads.Learnt
event_log-write κs a x y u v p q = (handed-apart x y (p.0 ∙ sym q.0), ap (λ (z : List ℕ). (at_last a.0 z, (a.1.0, (a.1.1.0, (a.1.1.1.0, (a.1.1.1.1.0, tt)))))) (p.1 ∙ sym q.1))

pub words-half : Determined 1 words-half-kinds.ps words-half-kinds.r words-half-reads.Learnt
words-half κs a x y u v p q = (p.0 ∙ sym q.0, refl)

pub words-word : Determined 1 words-word-kinds.ps words-word-kinds.r words-word-reads.Learnt
words-word κs a x y u v p q = (p ∙ sym q, refl)

pub words-put_word : Determined 1 words-put_word-kinds.ps words-put_word-kinds.r words-put_word-reads.Learnt
words-put_word κs a x y u v p q = (refl, ap (λ (z : List ℕ). (at_last a.0 z, (a.1.0, tt))) (p ∙ sym q))

pub words-byte_at : Determined 1 words-byte_at-kinds.ps words-byte_at-kinds.r words-byte_at-reads.Learnt
words-byte_at κs a x y u v p q = (p ∙ sym q, refl)

pub words-be16 : Determined 0 words-be16-kinds.ps words-be16-kinds.r words-be16-reads.Learnt
words-be16 κs a x y u v p q = (p ∙ sym q, refl)

pub words-high : Determined 0 words-high-kinds.ps words-high-kinds.r words-high-reads.Learnt
words-high κs a x y u v p q = (p ∙ sym q, refl)

pub words-low : Determined 0 words-low-kinds.ps words-low-kinds.r words-low-reads.Learnt
words-low κs a x y u v p q = (p ∙ sym q, refl)

pub words-copy_in : Determined 2 words-copy_in-kinds.ps words-copy_in-kinds.r words-copy_in-reads.Learnt
words-copy_in κs a x y u v p q = (refl, ap (λ (z : List ℕ). (at_last a.0 z, (a.1.0, (a.1.1.0, tt)))) (p ∙ sym q))

pub byte_runs-is : Determined 0 byte_runs-is-kinds.ps byte_runs-is-kinds.r byte_runs-is-reads.Learnt
byte_runs-is κs a x y u v p q = (p ∙ sym q, refl)

pub byte_runs-run : Determined 1 byte_runs-run-kinds.ps byte_runs-run-kinds.r byte_runs-run-reads.Learnt
byte_runs-run κs a x y u v p q = (p ∙ sym q, refl)

pub byte_runs-noises : Determined 1 byte_runs-noises-kinds.ps byte_runs-noises-kinds.r byte_runs-noises-reads.Learnt
byte_runs-noises κs a x y u v p q = (p ∙ sym q, refl)

pub byte_runs-copy_run : Determined 2 byte_runs-copy_run-kinds.ps byte_runs-copy_run-kinds.r byte_runs-copy_run-reads.Learnt
byte_runs-copy_run κs a x y u v p q = (p.0 ∙ sym q.0, ap (λ (z : List ℕ). (a.0, (at_last a.1.0 z, (a.1.1.0, (a.1.1.1.0, (a.1.1.1.1.0, tt)))))) (p.1 ∙ ap (λ (n : ℕ). paste a.1.0.now a.1.1.0 (drop a.1.1.1.1.0 a.1.1.1.0.now) n) (p.0 ∙ sym q.0) ∙ sym q.1))

pub console-Failure-from : Determined 0 console-Failure-from-kinds.ps console-Failure-from-kinds.r console-Failure-from-reads.Learnt
console-Failure-from κs a x y u v p q = (p ∙ sym q, refl)

pub console-text-put : Determined 1 console-text-put-kinds.ps console-text-put-kinds.r console-text-put-reads.Learnt
console-text-put κs a x y u v p q = (ap (λ (o : Output). o.at) (p ∙ sym q), ap (λ (o : Output). (at_last a.0 o.bytes, (a.1.0, (a.1.1.0, tt)))) (p ∙ sym q))

pub console-text-put_all : Determined 2 console-text-put_all-kinds.ps console-text-put_all-kinds.r console-text-put_all-reads.Learnt
console-text-put_all κs a x y u v p q = (ap (λ (o : Output). o.at) (p ∙ sym q), ap (λ (o : Output). (at_last a.0 o.bytes, (a.1.0, (a.1.1.0, tt)))) (p ∙ sym q))

pub console-text-put_hex : Determined 2 console-text-put_hex-kinds.ps console-text-put_hex-kinds.r console-text-put_hex-reads.Learnt
console-text-put_hex κs a x y u v p q = (ap (λ (o : Output). o.at) (p ∙ sym q), ap (λ (o : Output). (at_last a.0 o.bytes, (a.1.0, (a.1.1.0, tt)))) (p ∙ sym q))

pub console-text-Output-put : Determined 1 console-text-Output-put-kinds.ps console-text-Output-put-kinds.r console-text-Output-put-reads.Learnt
console-text-Output-put κs a x y u v p q = (refl, ap (λ (o : Output). (at_last a.0 o, (a.1.0, tt))) (p ∙ sym q))

pub console-text-Output-put_all : Determined 2 console-text-Output-put_all-kinds.ps console-text-Output-put_all-kinds.r console-text-Output-put_all-reads.Learnt
console-text-Output-put_all κs a x y u v p q = (refl, ap (λ (o : Output). (at_last a.0 o, (a.1.0, tt))) (p ∙ sym q))

pub console-text-Output-put_hex : Determined 2 console-text-Output-put_hex-kinds.ps console-text-Output-put_hex-kinds.r console-text-Output-put_hex-reads.Learnt
console-text-Output-put_hex κs a x y u v p q = (refl, ap (λ (o : Output). (at_last a.0 o, (a.1.0, tt))) (p ∙ sym q))

-- a part of what is lent is handed back: its bytes are determined
pub link_receive-payload : (κs : Lfts 1) (a : Dens κs link_receive-payload-kinds.ps) (x y : (res_t link_receive-payload-kinds.r κs).Denot) (u v : Lasts (ended_of 1 link_receive-payload-kinds.ps link_receive-payload-kinds.r) κs a)
    → link_receive-payload-reads.Learnt κs a x (at_exit (ended_of 1 link_receive-payload-kinds.ps link_receive-payload-kinds.r) κs a u)
    → link_receive-payload-reads.Learnt κs a y (at_exit (ended_of 1 link_receive-payload-kinds.ps link_receive-payload-kinds.r) κs a v)
    → x.now ≡ y.now
link_receive-payload κs a x y u v p q = p ∙ sym q

-- a part of what is lent is handed back: its bytes are determined
pub transport_receiver-request_payload : (κs : Lfts 1) (a : Dens κs transport_receiver-request_payload-kinds.ps) (x y : (res_t transport_receiver-request_payload-kinds.r κs).Denot) (u v : Lasts (ended_of 1 transport_receiver-request_payload-kinds.ps transport_receiver-request_payload-kinds.r) κs a)
    → transport_receiver-request_payload-reads.Learnt κs a x (at_exit (ended_of 1 transport_receiver-request_payload-kinds.ps transport_receiver-request_payload-kinds.r) κs a u)
    → transport_receiver-request_payload-reads.Learnt κs a y (at_exit (ended_of 1 transport_receiver-request_payload-kinds.ps transport_receiver-request_payload-kinds.r) κs a v)
    → x.now ≡ y.now
transport_receiver-request_payload κs a x y u v p q = p ∙ sym q
