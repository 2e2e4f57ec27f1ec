-- A log is read back record by record: what is written of sound records are those records, one behind the other, up to the log's end.
-- Assumes nothing.
use mathlib.Core.Path.{◌≡◌, refl, ◌∙◌, ap}
use mathlib.Core.Option.{some}
use Prim.Native.Nat.{ℕ, zero, suc, ◌+◌, ◌<◌}
use mathlib.Core.Bool.{true, false, not}
use mathlib.Core.List.{List, [], ◌∷◌, ◌++◌}
use native.Mathlib.Nat.{le_of_suc-le-suc}
use native.Mathlib.Omega.{arith}
use lib.ListN.{length, get_or}
use borrow.Author.Tests.{not-false}
use Rattle.sound_record.specs.Record.{written, sound_at}
use Rattle.sound_record.specs.Log.{joined, all_sound, Here, Finds}
use Rattle.event_record.specs.Event.{gateway_in, says_of}
use Rattle.sound_record.proofs.Soundness.{both}
use Rattle.sound_record.proofs.Log.{joined-append, all_sound-append, log-finds}
use Rattle.event_record.proofs.Told.{gateway-record, says-record}
use Rattle.event_log.specs.Records.{Entry, entry_bytes, listed, bytes_of, any_unsound}

-- at a place of a log stands the record of an entry, and it says that entry
pub record Stands (log : List ℕ) (at : ℕ) (x : Entry) : Type 0 where
  pub here : Here written log at (entry_bytes written x)
  pub gateway : gateway_in (entry_bytes written x) ≡ x.gateway
  pub says : says_of written (entry_bytes written x) ≡ some x.says

-- from a place on the log holds these entries and no more
abbrev pub Holds : List ℕ → ℕ → List Entry → Type 0
Holds log at [] = at ≡ length log
Holds log at (x ∷ xs) = Stands log at x × Holds log (at + length (entry_bytes written x)) xs

-- the records that a reader finds say their entries
found-holds : (log : List ℕ) (at : ℕ) (xs : List Entry) → Finds written log at (listed written xs) → Holds log at xs
found-holds log at [] f = f
found-holds log at (x ∷ xs) f = (
  record {
    here = f.0;
    gateway = gateway-record written x.gateway x.says;
    says = says-record written x.gateway x.says;
  },
  found-holds log (at + length (entry_bytes written x)) xs f.1,
)

all_sound-true : (xs : List Entry) → any_unsound xs ≡ false → all_sound (sound_at written) (listed written xs) ≡ true
all_sound-true xs s = not-false (all_sound (sound_at written) (listed written xs)) s

-- the bytes of records of which none is unsound
pub log-holds : (xs : List Entry) → any_unsound xs ≡ false → Holds (bytes_of written xs) 0 xs
log-holds xs s = found-holds (bytes_of written xs) 0 xs (log-finds written (listed written xs) (all_sound-true xs s))

-- each of them is sound
pub each-sound : (xs : List Entry) → any_unsound xs ≡ false → (i : ℕ) (d : Entry) → i < length xs → sound_at written (entry_bytes written (get_or xs i d)) ≡ true
each-sound [] s i d l = absurd (omega arith)
each-sound (x ∷ xs) s zero d l = (both (sound_at written (entry_bytes written x)) (all_sound (sound_at written) (listed written xs)) (all_sound-true (x ∷ xs) s)).0
each-sound (x ∷ xs) s (suc i) d l =
    each-sound xs (ap not (both (sound_at written (entry_bytes written x)) (all_sound (sound_at written) (listed written xs)) (all_sound-true (x ∷ xs) s)).1) i d (le_of_suc-le-suc l)

-- a log written in two goes is one log
listed-append : (v : ℕ) (xs ys : List Entry) → listed v (xs ++ ys) ≡ listed v xs ++ listed v ys
listed-append v [] ys = refl
listed-append v (x ∷ xs) ys = ap (λ (l : List (List ℕ)). entry_bytes v x ∷ l) (listed-append v xs ys)

pub bytes_of-append : (v : ℕ) (xs ys : List Entry) → bytes_of v (xs ++ ys) ≡ bytes_of v xs ++ bytes_of v ys
bytes_of-append v xs ys = ap joined (listed-append v xs ys) ∙ joined-append (listed v xs) (listed v ys)

pub none-unsound-append : (xs ys : List Entry) → any_unsound xs ≡ false → any_unsound ys ≡ false → any_unsound (xs ++ ys) ≡ false
none-unsound-append xs ys s t =
    ap (λ (l : List (List ℕ)). not (all_sound (sound_at written) l)) (listed-append written xs ys)
    ∙ ap not (all_sound-append (sound_at written) (listed written xs) (listed written ys) (all_sound-true xs s) (all_sound-true ys t))
