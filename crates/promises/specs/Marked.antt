-- 01's marked cases, in one table with one claim: streams, packet numbers and status words. Assumes nothing.
use Rattle.std.specs.Prelude.{List, [], ◌∷◌, ◌++◌, map, T}
use Rattle.crc.specs.Crc.{crc_of}
use Rattle.reading.specs.Marked as streams
use Rattle.transport.specs.Marked as payloads

-- a row of one of the two tables
pub data Case : Type 0 where
  of_stream : streams.Row → Case
  of_payload : payloads.Row → Case

-- what a row claims: that its bytes have one reading, which says what the row says; that its number or status word comes to what the row says
abbrev pub Claim : Case → Type 0
Claim (of_stream x) = streams.Holds crc_of x
Claim (of_payload x) = T (payloads.claimed x)

-- 01, "Marked cases": proved in one table with one claim
abbrev pub marked : List Case
marked = map of_stream streams.marked ++ map of_payload payloads.marked

-- the one claim: that of each case
pub data Every : List Case → Type 0 where
  none : Every []
  also : {c : Case} {cs : List Case} → Claim c → Every cs → Every (c ∷ cs)
