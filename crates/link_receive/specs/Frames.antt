-- What the receiver hands out: 01's number for a refusal, and the frame of an answer. Assumes nothing.
use Rattle.std.specs.Prelude.{ℕ, cond, List, [], ◌∷◌, take, drop, Option, Some, None, Result, Ok, Err}
use Rattle.laws.specs.Handed.{Handed, value, is_refusal}
use Rattle.laws.specs.Numbers.{Refusal, number_of, refused_as, over_limit}
use Rattle.address.specs.declared.Address.{Address}
use Rattle.link.specs.Wire as wire
use Rattle.link_receive.specs.declared.Head.{Head}
use Rattle.link_receive.specs.declared.OverLimit.{OverLimit}

-- nothing, or a frame: its address, the number of its type, the length of its payload
pub data Given : Type 0 where
  nothing : Given
  frame : Address → ℕ → ℕ → Given

-- the code's `Answer`: nothing, a frame's head, or the error
abbrev pub Answered : Type 0
Answered = Result (Option Head) OverLimit

-- 01, "Numbers handed back", 12: state with a length over its limit
abbrev pub handed : Answered → Handed Given
handed (Ok None) = value nothing
handed (Ok (Some h)) = value (frame h.address h.frame_type.0 h.len)
handed (Err e) = refused_as over_limit

-- the error, if it has the number of a refusal, in the place of what is handed back else
abbrev pub refused_by : {A : Type 0} → Refusal → A → Result A OverLimit
refused_by r a = cond (is_refusal (number_of r) (handed (Err (record {})))) (Err (record {})) (Ok a)

-- the payload in a body: what follows address and type
abbrev pub payload_of : ℕ → List ℕ → List ℕ
payload_of n body = take n (drop 4 body)

-- the frames that an answer hands out beside a body: none, or one
abbrev pub handed_out : Answered → List ℕ → List wire.Frame
handed_out (Ok None) body = []
handed_out (Ok (Some h)) body = record { address = h.address; frame_type = h.frame_type.0; payload = payload_of h.len body } ∷ []
handed_out (Err e) body = []
