-- What a step asks of the tables. Assumes nothing.
use Rattle.std.specs.Prelude.{◌≡◌}
use Rattle.tables.specs.Places.{has_room, value_at}
use Rattle.transport_receiver.specs.State.{Tables, Frame}
use Rattle.transport_receiver.specs.Step.{is_over_limit, gateway_key_of, key_of, answer_key_of}

-- two states' tables look the same to a frame: what its keys' look-ups give, whether there is room for its entries, and 12
pub record LookSame (f : Frame) (t u : Tables) : Type 0 where
  pub over : is_over_limit t.commands ≡ is_over_limit u.commands
  pub number : value_at t.numbers (gateway_key_of f) ≡ value_at u.numbers (gateway_key_of f)
  pub sequence : value_at t.sequences (gateway_key_of f) ≡ value_at u.sequences (gateway_key_of f)
  pub waiting : value_at t.commands (answer_key_of f) ≡ value_at u.commands (answer_key_of f)
  pub number_room : has_room t.numbers (gateway_key_of f) ≡ has_room u.numbers (gateway_key_of f)
  pub sequence_room : has_room t.sequences (gateway_key_of f) ≡ has_room u.sequences (gateway_key_of f)
  pub command_room : has_room t.commands (key_of f) ≡ has_room u.commands (key_of f)
