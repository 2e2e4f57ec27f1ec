-- Different refusals have different numbers: a number of 01's table says which refusal it is. Assumes nothing.
use mathlib.Core.Path.{◌≡◌, refl, sym, ap, ◌∙◌}
use Prim.Native.Nat.{ℕ}
use mathlib.Core.Bool.{cond}
use mathlib.Core.List.{List, [], ◌∷◌}
use lib.Dec.{eqb}
use Rattle.std.specs.Prelude.{Result, Ok, Err, IsErrAnd}
use Rattle.std.proofs.lemmas.Result.{err_from_is_err_and}
use Rattle.laws.specs.Numbers.{handed_by, KeepsNumber, refused_as, Refusal, number_of, too_long, no_room, over_limit, invalid_id, no_unit, wrong_direction, wrong_length, wrong_status, too_short, unknown_gateway, numbers_full, sequences_full, commands_full, names_from, no_text, no_request, unhandled_type, payload_too_long, no_room_for_record, unsound_record}

-- all rows of the table
abbrev table : List Refusal
table =
    too_long ∷ no_room ∷ over_limit ∷ invalid_id ∷ no_unit
    ∷ wrong_direction ∷ wrong_length ∷ wrong_status ∷ too_short ∷ unknown_gateway ∷ numbers_full ∷ sequences_full ∷ commands_full
    ∷ names_from ∷ no_text ∷ no_request ∷ unhandled_type ∷ payload_too_long
    ∷ no_room_for_record ∷ unsound_record ∷ []

-- the first of some rows that has the number n; the last resort is `too_long`
abbrev row_at : ℕ → List Refusal → Refusal
row_at n [] = too_long
row_at n (r ∷ rs) = cond (eqb (number_of r) n) r (row_at n rs)

row_at-number_of : (r : Refusal) → row_at (number_of r) table ≡ r
row_at-number_of too_long = refl
row_at-number_of no_room = refl
row_at-number_of over_limit = refl
row_at-number_of invalid_id = refl
row_at-number_of no_unit = refl
row_at-number_of wrong_direction = refl
row_at-number_of wrong_length = refl
row_at-number_of wrong_status = refl
row_at-number_of too_short = refl
row_at-number_of unknown_gateway = refl
row_at-number_of numbers_full = refl
row_at-number_of sequences_full = refl
row_at-number_of commands_full = refl
row_at-number_of names_from = refl
row_at-number_of no_text = refl
row_at-number_of no_request = refl
row_at-number_of unhandled_type = refl
row_at-number_of payload_too_long = refl
row_at-number_of no_room_for_record = refl
row_at-number_of unsound_record = refl

-- 01, "Numbers handed back": a number stands in one row
pub number_of-apart : (a b : Refusal) → number_of a ≡ number_of b → a ≡ b
number_of-apart a b e = sym (row_at-number_of a) ∙ ap (λ (n : ℕ). row_at n table) e ∙ row_at-number_of b

-- two answers that 01 cannot tell apart are one, where different errors stand for different rows: the crates' own answers cite this
pub handed_by-same : {A E : Type 0} (f : E → Refusal) → ((d e : E) → f d ≡ f e → d ≡ e) → (a b : Result A E) → handed_by f a ≡ handed_by f b → a ≡ b
handed_by-same f h (Ok x) (Ok y) e = cc
handed_by-same f h (Ok x) (Err d) e = cc
handed_by-same f h (Err d) (Ok y) e = cc
handed_by-same f h (Err c) (Err d) e =
    let n : number_of (f c) ≡ number_of (f d) = cc in
    ap Err (h c d (number_of-apart (f c) (f d) n))

-- what is handed back where `?` made the error of another that keeps its row: the functions that pass on a refusal cite this
pub handed_by-kept : {A D E : Type 0} (f : D → Refusal) (g : E → Refusal) (r : Result A E) (d : D) → IsErrAnd r (KeepsNumber f g d) → handed_by g r ≡ refused_as (f d)
handed_by-kept f g r d h = let p = err_from_is_err_and r h in rw p.1 (ap refused_as p.2)
