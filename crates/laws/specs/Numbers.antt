-- 01's table of refusals, the number of each, and which of a function's refusals is given. Assumes nothing.
use Rattle.std.specs.Prelude.{◌≡◌, ℕ, Bool, cond, List, [], ◌∷◌, Result, Ok, Err}
use Rattle.laws.specs.Handed.{Handed, refused, value}

-- 01, "Numbers handed back": the rows of the table in its order, each under its words
pub data Refusal : Type 0 where
  -- 10: encode: payload over 250; escape and its length: input over 65,536
  too_long : Refusal
  -- 11: encode, escape: room below the exact length
  no_room : Refusal
  -- 12: state with a length or count over its limit
  over_limit : Refusal
  -- 13: gateway ID above 7fff, made or given
  invalid_id : Refusal
  -- 14: unescape: byte above 06
  no_unit : Refusal
  -- 20: wrong direction, or enumeration start not To 0
  wrong_direction : Refusal
  -- 21: wrong or short fixed length
  wrong_length : Refusal
  -- 22: status word lacks part of 0x00e0
  wrong_status : Refusal
  -- 23: receive response short; gives the length needed (5 if under 2 bytes)
  too_short : Refusal
  -- 24: receive response, gateway has no packet number
  unknown_gateway : Refusal
  -- 25: receive request, new gateway, 32 held
  numbers_full : Refusal
  -- 26: command request, new gateway, 32 sequences held
  sequences_full : Refusal
  -- 27: command request, new key, 64 waiting
  commands_full : Refusal
  -- 28: enumeration start names a From address
  names_from : Refusal
  -- 29: version text empty or not UTF-8
  no_text : Refusal
  -- 30: command response with no request waiting
  no_request : Refusal
  -- 31: unhandled type
  unhandled_type : Refusal
  -- 32: payload over 250 given to transport
  payload_too_long : Refusal
  -- 40: event record: room below its whole length
  no_room_for_record : Refusal
  -- 41: event whose record would not be sound
  unsound_record : Refusal

-- 01, "Numbers handed back": the number of each row
abbrev pub number_of : Refusal → ℕ
number_of too_long = 10
number_of no_room = 11
number_of over_limit = 12
number_of invalid_id = 13
number_of no_unit = 14
number_of wrong_direction = 20
number_of wrong_length = 21
number_of wrong_status = 22
number_of too_short = 23
number_of unknown_gateway = 24
number_of numbers_full = 25
number_of sequences_full = 26
number_of commands_full = 27
number_of names_from = 28
number_of no_text = 29
number_of no_request = 30
number_of unhandled_type = 31
number_of payload_too_long = 32
number_of no_room_for_record = 40
number_of unsound_record = 41

-- a refusal, handed back by its number
abbrev pub refused_as : {A : Type 0} → Refusal → Handed A
refused_as r = refused (number_of r)

-- what a function's answer hands back: the value of an Ok, or the number of the row that its error stands for
abbrev pub handed_by : {A E : Type 0} → (E → Refusal) → Result A E → Handed A
handed_by f (Ok a) = value a
handed_by f (Err e) = refused_as (f e)

-- an error that another becomes keeps the row that it stands for
abbrev pub KeepsNumber : {D E : Type 0} → (D → Refusal) → (E → Refusal) → D → E → Type 0
KeepsNumber f g d e = g e ≡ f d

-- a refusal that a function may give, and whether its row holds
pub record Row : Type 0 where
  pub refusal : Refusal
  pub holds : Bool

-- such a row, by its two parts
abbrev pub row : Refusal → Bool → Row
row r h = record { refusal = r; holds = h }

-- 01, "Numbers handed back": each is given exactly when its row holds and no earlier one does: the first row of a function's list that
-- holds refuses; where none holds, its answer is handed back
abbrev pub judged : {A : Type 0} → List Row → Handed A → Handed A
judged [] answer = answer
judged (r ∷ rows) answer = cond r.holds (refused_as r.refusal) (judged rows answer)
