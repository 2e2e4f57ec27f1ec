-- A log, a house form: sound records, one behind the other.
-- Which records are sound is a test: `sound_at v` for a log of one version, `sound_in vs` for a mixture of several. Assumes nothing.
use Rattle.std.specs.Prelude.{ℕ, ◌+◌, ◌≡◌, Bool, true, ◌&&◌, List, [], ◌∷◌, ◌++◌, length, take, drop, Some}
use Rattle.sound_record.specs.Record.{stands_at}

-- the bytes of records, one behind the other
abbrev pub joined : List (List ℕ) → List ℕ
joined [] = []
joined (r ∷ rs) = r ++ joined rs

-- each of the records is sound
abbrev pub all_sound : (List ℕ → Bool) → List (List ℕ) → Bool
all_sound sound [] = true
all_sound sound (r ∷ rs) = sound r && all_sound sound rs

-- a log is a list of sound records
pub record Log (sound : List ℕ → Bool) (log : List ℕ) : Type 0 where
  pub records : List (List ℕ)
  pub each : all_sound sound records ≡ true
  pub bytes : joined records ≡ log

-- a reader of version v finds a record at a place of a log, and it is this one
pub record Here (v : ℕ) (log : List ℕ) (at : ℕ) (r : List ℕ) : Type 0 where
  pub stands : stands_at v log at ≡ Some (at + length r)
  pub bytes : take (length r) (drop at log) ≡ r

-- from a place on it finds these records and no more
abbrev pub Finds : ℕ → List ℕ → ℕ → List (List ℕ) → Type 0
Finds v log at [] = at ≡ length log
Finds v log at (r ∷ rs) = Here v log at r × Finds v log (at + length r) rs
