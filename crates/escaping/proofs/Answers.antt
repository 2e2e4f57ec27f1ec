-- Two answers that 01 cannot tell apart are one answer, so that each contract of this crate determines its own;
-- and the cases of `escape` that a caller with room meets. Assumes nothing.
use mathlib.Core.Path.{◌≡◌, refl}
use Prim.Native.Nat.{ℕ, ◌≤◌, ◌<◌}
use mathlib.Core.List.{List}
use lib.ListN.{length}
use native.Mathlib.Omega.{arith}
use lib.Dec.{ltb}
use borrow.Author.Tests.{lt-ltb, le-ltb, ltb-true, ltb-false}
use mathlib.Core.Bool.{Bool, true, false, cond}
use Rattle.laws.specs.Bytes.{laid_over}
use Rattle.std.specs.Prelude.{Result}
use Rattle.laws.specs.Handed.{refused, value}
use Rattle.laws.specs.Numbers.{too_long, no_unit}
use Rattle.laws.proofs.Numbers.{handed_by-same}
use Rattle.escaping.specs.Escapes.{escaped}
use Rattle.escaping.specs.Handed.{refusal_of, handed_byte, handed_length, handed_written, input_limit, escape_handed, escape_bytes}
use Rattle.escaping.specs.declared.InvalidEscapeSequence.{InvalidEscapeSequence}
use Rattle.escaping.specs.declared.TooLong.{TooLong}
use Rattle.escaping.specs.declared.EscapeError.{EscapeError}
use Rattle.escaping.specs.declared.EscapeError.TheVariants.{TooLong as TooLongToEscape, NoRoom}

pub handed_byte-same : (a b : Result ℕ InvalidEscapeSequence) → handed_byte a ≡ handed_byte b → a ≡ b
handed_byte-same = handed_by-same (λ _. no_unit) (λ d e p. refl)

pub handed_length-same : (a b : Result ℕ TooLong) → handed_length a ≡ handed_length b → a ≡ b
handed_length-same = handed_by-same (λ _. too_long) (λ d e p. refl)

apart : (d e : EscapeError) → refusal_of d ≡ refusal_of e → d ≡ e
apart TooLongToEscape TooLongToEscape p = refl
apart TooLongToEscape NoRoom p = cc
apart NoRoom TooLongToEscape p = cc
apart NoRoom NoRoom p = refl

pub handed_written-same : (a b : Result ℕ EscapeError) → handed_written a ≡ handed_written b → a ≡ b
handed_written-same = handed_by-same refusal_of apart

-- an input within the limit, and room for its escaped form: `encode` cites these
module _ (input : List ℕ) (within : length input ≤ input_limit) where
  pub escape_handed-fits : (room : ℕ) → length (escaped input) ≤ room → escape_handed input room ≡ value (length (escaped input))
  unfolding escape_handed
  escape_handed-fits room h = rw (le-ltb input_limit (length input) within, le-ltb room (length (escaped input)) h)

  pub escape_bytes-fits : (out : List ℕ) → length (escaped input) ≤ length out → escape_bytes input out ≡ laid_over (escaped input) out
  unfolding escape_bytes escape_handed
  escape_bytes-fits out h = rw (le-ltb input_limit (length input) within, le-ltb (length out) (length (escaped input)) h)

  pub escape_bytes-narrow : (out : List ℕ) → length out < length (escaped input) → escape_bytes input out ≡ out
  unfolding escape_bytes escape_handed
  escape_bytes-narrow out h = rw (le-ltb input_limit (length input) within, lt-ltb (length out) (length (escaped input)) h)

  -- what an answer tells of the room
  pub escape-accepted : (room n : ℕ) → escape_handed input room ≡ value n → (length (escaped input) ≤ room) × (n ≡ length (escaped input))
  unfolding escape_handed
  escape-accepted room n e = go (ltb room (length (escaped input))) refl (rw (le-ltb input_limit (length input) within) at e)
    where
      go : (t : Bool) → ltb room (length (escaped input)) ≡ t → cond t (refused 11) (value (length (escaped input))) ≡ value n
          → (length (escaped input) ≤ room) × (n ≡ length (escaped input))
      go true p q = absurd (let z : ◌≡◌ {A = ℕ} 0 1 = cc in omega arith)
      go false p q = (ltb-false room (length (escaped input)) p, cc)

  pub escape-refused : (room n : ℕ) → escape_handed input room ≡ refused n → (room < length (escaped input)) × (n ≡ 11)
  unfolding escape_handed
  escape-refused room n e = go (ltb room (length (escaped input))) refl (rw (le-ltb input_limit (length input) within) at e)
    where
      go : (t : Bool) → ltb room (length (escaped input)) ≡ t → cond t (refused 11) (value (length (escaped input))) ≡ refused n
          → (room < length (escaped input)) × (n ≡ 11)
      go true p q = (ltb-true room (length (escaped input)) p, cc)
      go false p q = absurd (let z : ◌≡◌ {A = ℕ} 0 1 = cc in omega arith)
