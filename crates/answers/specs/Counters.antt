-- The 33 counters, by the source's names and in its order (`Counters` of transport/receiver.rs): the place of each. Assumes nothing.
use Rattle.std.specs.Prelude.{cond, ℕ, ◌+◌, ◌%◌, ◌^◌, List, nat_lt, slice_index, slice_set}
use Rattle.laws.specs.Wrap.{raised}
use Rattle.network.specs.Split.{tally_of}

-- transport/receiver.rs, `Counters`: its 33 fields in their order; each has here the number of its place in the array
abbrev pub unhandled_frame_type : ℕ
unhandled_frame_type = 0

abbrev pub invalid_receive_request : ℕ
invalid_receive_request = 1

abbrev pub receive_requests : ℕ
receive_requests = 2

abbrev pub invalid_receive_responses : ℕ
invalid_receive_responses = 3

abbrev pub receive_response_from_unknown_gateway : ℕ
receive_response_from_unknown_gateway = 4

abbrev pub receive_responses : ℕ
receive_responses = 5

abbrev pub receive_packets : ℕ
receive_packets = 6

abbrev pub receive_packet_too_short : ℕ
receive_packet_too_short = 7

abbrev pub invalid_command_requests : ℕ
invalid_command_requests = 8

abbrev pub retransmitted_command_requests : ℕ
retransmitted_command_requests = 9

abbrev pub command_requests : ℕ
command_requests = 10

abbrev pub invalid_command_responses : ℕ
invalid_command_responses = 11

abbrev pub retransmitted_command_responses : ℕ
retransmitted_command_responses = 12

abbrev pub command_responses : ℕ
command_responses = 13

abbrev pub ping_requests : ℕ
ping_requests = 14

abbrev pub ping_responses : ℕ
ping_responses = 15

abbrev pub enumeration_start_requests : ℕ
enumeration_start_requests = 16

abbrev pub invalid_enumeration_start_request : ℕ
invalid_enumeration_start_request = 17

abbrev pub enumeration_start_responses : ℕ
enumeration_start_responses = 18

abbrev pub enumeration_requests : ℕ
enumeration_requests = 19

abbrev pub enumeration_responses : ℕ
enumeration_responses = 20

abbrev pub invalid_enumeration_responses : ℕ
invalid_enumeration_responses = 21

abbrev pub version_requests : ℕ
version_requests = 22

abbrev pub version_responses : ℕ
version_responses = 23

abbrev pub invalid_version_responses : ℕ
invalid_version_responses = 24

abbrev pub enumeration_end_requests : ℕ
enumeration_end_requests = 25

abbrev pub enumeration_end_responses : ℕ
enumeration_end_responses = 26

abbrev pub invalid_enumeration_end_responses : ℕ
invalid_enumeration_end_responses = 27

abbrev pub assign_gateway_id_requests : ℕ
assign_gateway_id_requests = 28

abbrev pub assign_gateway_id_responses : ℕ
assign_gateway_id_responses = 29

abbrev pub identify_requests : ℕ
identify_requests = 30

abbrev pub identify_responses : ℕ
identify_responses = 31

abbrev pub invalid_identify_responses : ℕ
invalid_identify_responses = 32

-- how many there are
abbrev pub counter_count : ℕ
counter_count = 33

-- 01, "Transport": transport counters wrap at 2^64
abbrev pub add : ℕ → ℕ → List ℕ → List ℕ
add n i counters = slice_set counters i ((slice_index counters i + n) % 2 ^ 64)

-- one more of a counter, by the same rule
abbrev pub raise : ℕ → List ℕ → List ℕ
raise i counters = slice_set counters i (raised (slice_index counters i))

-- the counter at a place, if there is one there
abbrev pub add_at : ℕ → ℕ → List ℕ → List ℕ
add_at n i counters = cond (nat_lt i counter_count) (add n i counters) counters

-- and one more of it, by the same rule
abbrev pub raise_at : ℕ → List ℕ → List ℕ
raise_at i counters = cond (nat_lt i counter_count) (raise i counters) counters

-- both packet counters are raised by the transport step itself, for the whole area, walked or not
abbrev pub count_packets : List ℕ → List ℕ → List ℕ
count_packets area counters =
    add (cond (tally_of area).short 1 0) receive_packet_too_short (add (tally_of area).packets receive_packets counters)
