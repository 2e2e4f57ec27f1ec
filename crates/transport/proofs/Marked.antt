-- 01's marked cases hold, by one computation over the whole table. Assumes nothing.
use Rattle.std.proofs.Common.{ℕ, ◌<◌, T, length, get_or}
use Rattle.laws.proofs.Table.{entry}
use Rattle.transport.specs.Status.{needed_of}
use Rattle.transport.specs.Number.{interpret_of}
use Rattle.transport.specs.Marked.{Row, low, marked, claimed}

-- every row of the table is right: crates/promises joins these rows to those of streams
pub marked-right : (k : ℕ) → k < length marked → T (claimed (get_or marked k (low 0 0 0)))
unfolding claimed interpret_of needed_of
marked-right = entry (λ (k : ℕ) (x : Row). claimed x) (low 0 0 0) marked tt
