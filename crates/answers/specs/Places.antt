-- The place of each counter in the array. Assumes nothing.
use Rattle.std.specs.Prelude.{ℕ}
use Rattle.answers.specs.Counters
use Rattle.answers.specs.declared.counters.Counter.{Counter}
use Rattle.answers.specs.declared.counters.Counter.TheVariants as counter

-- transport/receiver.rs, `Counters`: a counter stands at the place of its field
abbrev pub place_of : Counter → ℕ
place_of counter.UnhandledFrameType = Counters.unhandled_frame_type
place_of counter.InvalidReceiveRequest = Counters.invalid_receive_request
place_of counter.ReceiveRequests = Counters.receive_requests
place_of counter.InvalidReceiveResponses = Counters.invalid_receive_responses
place_of counter.ReceiveResponseFromUnknownGateway = Counters.receive_response_from_unknown_gateway
place_of counter.ReceiveResponses = Counters.receive_responses
place_of counter.ReceivePackets = Counters.receive_packets
place_of counter.ReceivePacketTooShort = Counters.receive_packet_too_short
place_of counter.InvalidCommandRequests = Counters.invalid_command_requests
place_of counter.RetransmittedCommandRequests = Counters.retransmitted_command_requests
place_of counter.CommandRequests = Counters.command_requests
place_of counter.InvalidCommandResponses = Counters.invalid_command_responses
place_of counter.RetransmittedCommandResponses = Counters.retransmitted_command_responses
place_of counter.CommandResponses = Counters.command_responses
place_of counter.PingRequests = Counters.ping_requests
place_of counter.PingResponses = Counters.ping_responses
place_of counter.EnumerationStartRequests = Counters.enumeration_start_requests
place_of counter.InvalidEnumerationStartRequest = Counters.invalid_enumeration_start_request
place_of counter.EnumerationStartResponses = Counters.enumeration_start_responses
place_of counter.EnumerationRequests = Counters.enumeration_requests
place_of counter.EnumerationResponses = Counters.enumeration_responses
place_of counter.InvalidEnumerationResponses = Counters.invalid_enumeration_responses
place_of counter.VersionRequests = Counters.version_requests
place_of counter.VersionResponses = Counters.version_responses
place_of counter.InvalidVersionResponses = Counters.invalid_version_responses
place_of counter.EnumerationEndRequests = Counters.enumeration_end_requests
place_of counter.EnumerationEndResponses = Counters.enumeration_end_responses
place_of counter.InvalidEnumerationEndResponses = Counters.invalid_enumeration_end_responses
place_of counter.AssignGatewayIdRequests = Counters.assign_gateway_id_requests
place_of counter.AssignGatewayIdResponses = Counters.assign_gateway_id_responses
place_of counter.IdentifyRequests = Counters.identify_requests
place_of counter.IdentifyResponses = Counters.identify_responses
place_of counter.InvalidIdentifyResponses = Counters.invalid_identify_responses
