-- The marked cases hold, for any check: one test that antt computes over the rows. Assumes nothing.
use mathlib.Core.Path.{◌≡◌, refl}
use Prim.Native.Nat.{ℕ}
use mathlib.Core.List.{List, [], ◌∷◌, map}
use Rattle.escaping.specs.Escapes.{meaning}
use Rattle.reading.specs.Grammar as g
use Rattle.reading.specs.Grammar.{present, All}
use Rattle.reading.specs.Counts.{count, sound_bodies, left_from, verdict}
use Rattle.reading.specs.Accounts.{Account, account_of}
use Rattle.reading.specs.Marked.{Row, Holds, marked, corners}
use Rattle.reading.proofs.Reader.{pieces_of, pieces}
use Rattle.reading.proofs.Once.{the-reading}

-- what a row says
abbrev said : Row → Account
said x = x.account

first : (a b : Account) (xs ys : List Account) → a ∷ xs ≡ b ∷ ys → a ≡ b
first a b xs ys e = cc

others : (a b : Account) (xs ys : List Account) → a ∷ xs ≡ b ∷ ys → xs ≡ ys
others a b xs ys e = cc

module _ (check : List ℕ → ℕ) where
  -- what is found
  abbrev found : Row → Account
  found x = account_of check (pieces_of present x.bytes)

  holds : (x : Row) → found x ≡ said x → Holds check x
  holds x e = record { pieces = pieces_of present x.bytes; reading = the-reading present x.bytes; says = e }

  all_hold : (xs : List Row) → map found xs ≡ map said xs → All (Holds check) xs
  all_hold [] e = g.none
  all_hold (x ∷ xs) e = g.also (holds x (first _ _ (map found xs) (map said xs) e)) (all_hold xs (others _ _ (map found xs) (map said xs) e))

  pub marked-cases : All (Holds check) marked
  unfolding marked count sound_bodies left_from pieces meaning verdict
  marked-cases = all_hold marked refl

  pub corner-cases : All (Holds check) corners
  unfolding corners count sound_bodies left_from pieces meaning verdict
  corner-cases = all_hold corners refl
