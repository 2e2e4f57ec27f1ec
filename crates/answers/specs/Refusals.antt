-- What a step answers, and 01's number of each refusal. Assumes nothing.
use Rattle.std.specs.Prelude.{ℕ, Result, Option, Some, None}
use Rattle.laws.specs.Numbers.{number_of, over_limit, invalid_id, wrong_direction, wrong_length, wrong_status, too_short, unknown_gateway, numbers_full, sequences_full, commands_full, names_from, no_text, no_request, unhandled_type, payload_too_long}
use Rattle.answers.specs.declared.Accepted.{Accepted}
use Rattle.answers.specs.declared.Refusal.{Refusal}
use Rattle.answers.specs.declared.Refusal.TheVariants as refusal

-- what an accepted frame says, or why it is refused
abbrev pub Answer : Type 0
Answer = Result Accepted Refusal

-- 01, "Numbers handed back": the fifteen refusals of a step by their numbers ..
abbrev pub refusal_number : Refusal → ℕ
refusal_number refusal.OverLimit = number_of over_limit
refusal_number refusal.InvalidGatewayID = number_of invalid_id
refusal_number refusal.WrongDirection = number_of wrong_direction
refusal_number refusal.WrongLength = number_of wrong_length
refusal_number refusal.UnknownStatusType = number_of wrong_status
refusal_number (refusal.TooShort needed) = number_of too_short
refusal_number refusal.UnknownGateway = number_of unknown_gateway
refusal_number refusal.NumbersFull = number_of numbers_full
refusal_number refusal.SequencesFull = number_of sequences_full
refusal_number refusal.CommandsFull = number_of commands_full
refusal_number refusal.NamesFrom = number_of names_from
refusal_number refusal.InvalidVersion = number_of no_text
refusal_number refusal.NoRequest = number_of no_request
refusal_number refusal.UnhandledType = number_of unhandled_type
refusal_number refusal.PayloadTooLong = number_of payload_too_long

-- .. 23 with the length needed
abbrev pub length_needed : Refusal → Option ℕ
length_needed refusal.OverLimit = None
length_needed refusal.InvalidGatewayID = None
length_needed refusal.WrongDirection = None
length_needed refusal.WrongLength = None
length_needed refusal.UnknownStatusType = None
length_needed (refusal.TooShort needed) = Some needed
length_needed refusal.UnknownGateway = None
length_needed refusal.NumbersFull = None
length_needed refusal.SequencesFull = None
length_needed refusal.CommandsFull = None
length_needed refusal.NamesFrom = None
length_needed refusal.InvalidVersion = None
length_needed refusal.NoRequest = None
length_needed refusal.UnhandledType = None
length_needed refusal.PayloadTooLong = None
