-- Laws of the kinds' numbers: no two kinds have one number, and they are those from 1 to 8. Assumes nothing.
use mathlib.Core.Path.{◌≡◌, refl, sym, ◌∙◌, ap}
use mathlib.Core.Bool.{cond}
use Prim.Native.Nat.{ℕ, ◌≤◌, ◌<◌}
use native.Mathlib.Omega.{arith}
use lib.Dec.{eqb}
use Rattle.std.specs.Prelude.{Result, Ok, Err}
use Rattle.sound_record.specs.declared.Kind.{Kind}
use Rattle.sound_record.specs.declared.Kind.TheVariants.{EnumerationStarted, Identity, VersionText, EnumerationEnded, SlotCaptured, SlotCounter, Packet, Command}
use Rattle.sound_record.specs.declared.UnknownKind.{UnknownKind}
use Rattle.sound_record.specs.Kinds.{number_of, Numbered}

pub numbers : (kind : Kind) → (0 < number_of kind) × (number_of kind ≤ 8)
numbers EnumerationStarted = (omega arith, omega arith)
numbers Identity = (omega arith, omega arith)
numbers VersionText = (omega arith, omega arith)
numbers EnumerationEnded = (omega arith, omega arith)
numbers SlotCaptured = (omega arith, omega arith)
numbers SlotCounter = (omega arith, omega arith)
numbers Packet = (omega arith, omega arith)
numbers Command = (omega arith, omega arith)

-- the kind of a number, the last of them where there is none
abbrev kind_at : ℕ → Kind
kind_at n =
    cond (eqb n 1) EnumerationStarted
    (cond (eqb n 2) Identity
    (cond (eqb n 3) VersionText
    (cond (eqb n 4) EnumerationEnded
    (cond (eqb n 5) SlotCaptured
    (cond (eqb n 6) SlotCounter
    (cond (eqb n 7) Packet
    Command))))))

kind_at-number : (kind : Kind) → kind_at (number_of kind) ≡ kind
kind_at-number EnumerationStarted = refl
kind_at-number Identity = refl
kind_at-number VersionText = refl
kind_at-number EnumerationEnded = refl
kind_at-number SlotCaptured = refl
kind_at-number SlotCounter = refl
kind_at-number Packet = refl
kind_at-number Command = refl

-- what a number names is one
pub numbered-same : (n : ℕ) (x y : Result Kind UnknownKind) → Numbered n x → Numbered n y → x ≡ y
numbered-same n (Ok j) (Ok k) p q = ap Ok (sym (kind_at-number j) ∙ ap kind_at (p ∙ sym q) ∙ kind_at-number k)
numbered-same n (Ok j) (Err f) p q = absurd (q j p)
numbered-same n (Err e) (Ok k) p q = absurd (p k q)
numbered-same n (Err e) (Err f) p q = refl
