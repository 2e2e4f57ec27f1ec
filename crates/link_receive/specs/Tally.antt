-- The eight tallies: one of them is raised at a time, and wraps. Assumes nothing.
use Rattle.std.specs.Prelude.{ℕ, cond, List, [], ◌∷◌}
use Rattle.laws.specs.Wrap.{raised}
use Rattle.reading.specs.Counters.{Counter, same}
use Rattle.reading.specs.Counters as k
use Rattle.link_receive.specs.declared.Tallies.{Tallies}
use Rattle.link_receive.specs.declared.Tally.{Tally}
use Rattle.link_receive.specs.declared.Tally.TheVariants as tally

-- which count a tally keeps
abbrev pub counter_of : Tally → Counter
counter_of tally.Openings = k.openings
counter_of tally.Frames = k.frames
counter_of tally.Runts = k.runts
counter_of tally.Checksums = k.checksums
counter_of tally.Giants = k.giants
counter_of tally.Escaped = k.escaped
counter_of tally.Broken = k.broken
counter_of tally.Noise = k.noise

-- the tally that keeps a counter
abbrev pub tally_of : Counter → Tallies → ℕ
tally_of k.openings t = t.openings
tally_of k.frames t = t.frames
tally_of k.runts t = t.runts
tally_of k.checksums t = t.checksums
tally_of k.giants t = t.giants
tally_of k.escaped t = t.escaped
tally_of k.broken t = t.broken
tally_of k.noise t = t.noise

-- the tallies, each made of its counter
abbrev pub tallies_of : (Counter → ℕ) → Tallies
tallies_of f =
    record {
      openings = f k.openings;
      frames = f k.frames;
      runts = f k.runts;
      checksums = f k.checksums;
      giants = f k.giants;
      escaped = f k.escaped;
      broken = f k.broken;
      noise = f k.noise;
    }

-- 01, "The reading of a stream": tallies wrap at 2^64
abbrev pub raise : Counter → Tallies → Tallies
raise j t = tallies_of (λ i. cond (same j i) (raised (tally_of i t)) (tally_of i t))

-- 01, "The reading of a stream": a reset sets all eight to 0
abbrev pub zeros : Tallies
zeros = tallies_of (λ i. 0)

-- the eight in the ledger's order
abbrev pub eight_of : Tallies → List ℕ
eight_of t = t.openings ∷ t.frames ∷ t.runts ∷ t.checksums ∷ t.giants ∷ t.escaped ∷ t.broken ∷ t.noise ∷ []
