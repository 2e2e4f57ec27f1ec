-- Every list of bytes tells one account, and no second. Assumes nothing.
use mathlib.Core.Path.{◌≡◌, refl, sym, ◌∙◌, ap}
use Prim.Native.Nat.{ℕ}
use mathlib.Core.List.{List}
use Rattle.reading.specs.Grammar.{Rules}
use Rattle.reading.specs.Accounts.{Account, account_of, Tells}
use Rattle.reading.proofs.Reader.{pieces_of}
use Rattle.reading.proofs.Once.{the-reading}

module _ (check : List ℕ → ℕ) (rules : Rules) where
  pub tells : (bs : List ℕ) → Tells check rules bs (account_of check (pieces_of rules bs))
  tells bs = record { pieces = pieces_of rules bs; reading = the-reading rules bs; says = refl }

  -- two accounts of the same bytes are equal: a contract that says `Tells` determines its answer
  pub tells-once : (bs : List ℕ) (a b : Account) → Tells check rules bs a → Tells check rules bs b → a ≡ b
  tells-once bs a b s t = sym s.says ∙ ap (account_of check) (t.reading.only s.pieces s.reading.is) ∙ t.says
