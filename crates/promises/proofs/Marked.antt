-- Every marked case holds. Assumes nothing.
use Prim.Native.Nat.{ℕ, suc, ◌<◌}
use mathlib.Core.List.{List, [], ◌∷◌, ◌++◌, map}
use native.Mathlib.Omega.{arith}
use lib.Dec.{T}
use lib.ListN.{length, get_or}
use Rattle.crc.specs.Crc.{crc_of}
use Rattle.reading.specs.Grammar.{All}
use Rattle.reading.specs.Grammar as g
use Rattle.reading.specs.Marked as streams
use Rattle.reading.proofs.Marked.{marked-cases}
use Rattle.transport.specs.Marked as payloads
use Rattle.transport.proofs.Marked.{marked-right}
use Rattle.promises.specs.Marked.{Case, of_stream, of_payload, marked, Every, none, also}

streams-then : (xs : List streams.Row) (cs : List Case) → All (streams.Holds crc_of) xs → Every cs → Every (map of_stream xs ++ cs)
streams-then [] cs a e = e
streams-then (x ∷ xs) cs (g.also h a) e = also h (streams-then xs cs a e)

payloads-hold : (d : payloads.Row) (xs : List payloads.Row) → ((k : ℕ) → k < length xs → T (payloads.claimed (get_or xs k d))) → Every (map of_payload xs)
payloads-hold d [] h = none
payloads-hold d (x ∷ xs) h = also (h 0 (omega arith)) (payloads-hold d xs (λ k l. h (suc k) (omega arith)))

-- the one claim
pub marked-hold : Every marked
marked-hold = streams-then streams.marked (map of_payload payloads.marked) (marked-cases crc_of) (payloads-hold (payloads.low 0 0 0) payloads.marked marked-right)
