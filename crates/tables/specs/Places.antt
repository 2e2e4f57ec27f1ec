-- A table in 01's words: a list of places, each free or holding a key and a value. Assumes nothing.
use Rattle.std.specs.Prelude.{◌≡◌, ℕ, zero, suc, Bool, true, false, cond, ◌||◌, List, [], ◌∷◌, length, get_or, set, eqb, ltb}
use Rattle.std.proofs.Math.Option.{Option, none, some}

-- 01, "Transport": a place freed by a response is used again: a place of a table is free, or holds a key and a value
pub data Place (A : Type 0) : Type 0 where
  free : Place A
  held : ℕ → A → Place A

module _ {A : Type 0} where
  -- whether a place holds a key
  abbrev pub holds : ℕ → Place A → Bool
  holds k free = false
  holds k (held j v) = eqb j k

  -- whether a place is free
  abbrev pub is_free : Place A → Bool
  is_free free = true
  is_free (held k v) = false

  -- the first place that passes a test, or the number of places
  unfoldable pub first_with : (Place A → Bool) → List (Place A) → ℕ
  first_with test [] = 0
  first_with test (p ∷ ps) = cond (test p) 0 (suc (first_with test ps))

  -- 01, "The reading of a stream": of a key held twice the first place counts
  abbrev pub holder : List (Place A) → ℕ → ℕ
  holder ps k = first_with (holds k) ps

  -- whether some place holds a key
  abbrev pub is_held : List (Place A) → ℕ → Bool
  is_held ps k = ltb (holder ps k) (length ps)

  -- the first free place
  abbrev pub vacancy : List (Place A) → ℕ
  vacancy ps = first_with is_free ps

  -- 01, "Numbers handed back", 25 to 27: an entry finds no place if its key is new and every place is held
  abbrev pub has_room : List (Place A) → ℕ → Bool
  has_room ps k = is_held ps k || ltb (vacancy ps) (length ps)

  -- where an entry goes: the place of its key, else the first free one
  abbrev pub seat : List (Place A) → ℕ → ℕ
  seat ps k = cond (is_held ps k) (holder ps k) (vacancy ps)

  -- 01, "Transport": kept under gateway and sequence, replacing an older one there: an entry stored under its key
  abbrev pub stored : List (Place A) → ℕ → A → List (Place A)
  stored ps k v = set ps (seat ps k) (held k v)

  -- 01, "Transport": a response takes its request out: its place is free
  abbrev pub removed : List (Place A) → ℕ → List (Place A)
  removed ps k = set ps (holder ps k) free

  -- what a place holds
  abbrev pub value_in : Place A → Option A
  value_in free = none
  value_in (held k v) = some v

  -- what is held under a key
  abbrev pub value_at : List (Place A) → ℕ → Option A
  value_at ps k = value_in (get_or ps (holder ps k) free)

  -- no key is held at two places
  abbrev pub Distinct : List (Place A) → Type 0
  Distinct ps = (i j k : ℕ) → holds k (get_or ps i free) ≡ true → holds k (get_or ps j free) ≡ true → i ≡ j

  -- a finite map as the source has it (`BTreeMap`), by what a look-up gives: after an insert ..
  abbrev pub inserted : (ℕ → Option A) → ℕ → A → ℕ → Option A
  inserted m k v j = cond (eqb j k) (some v) (m j)

  -- .. and after a remove
  abbrev pub deleted : (ℕ → Option A) → ℕ → ℕ → Option A
  deleted m k j = cond (eqb j k) none (m j)

  -- what a key and a value say of a place
  abbrev pub place_of : ℕ → A → Place A
  place_of zero v = free
  place_of (suc k) v = held k v

  -- what arrays mean: place i has the i-th key and, if held, the i-th value. What stands at a free place says nothing.
  unfoldable pub places_from : (ℕ → A) → ℕ → List ℕ → List (Place A)
  places_from values i [] = []
  places_from values i (k ∷ ks) = place_of k (values i) ∷ places_from values (suc i) ks

  -- the table that keys and values mean, from the first place on
  abbrev pub places_of : List ℕ → (ℕ → A) → List (Place A)
  places_of keys values = places_from values 0 keys
