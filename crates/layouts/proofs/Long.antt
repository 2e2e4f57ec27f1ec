-- The long address as the layout reads it. Assumes nothing.
use mathlib.Core.Path.{◌≡◌, refl}
use Prim.Native.Nat.{ℕ}
use mathlib.Core.List.{List, [], ◌∷◌}
use native.Mathlib.Omega.{arith}
use lib.ListN.{length}
use Rattle.layouts.specs.Layouts.{identify_response_length, identify_response_in, long_address}

-- of a payload of the layout's length, the first eight bytes are the layout's long address
pub long_address-read : (p : List ℕ) → length p ≡ identify_response_length → long_address p ≡ (identify_response_in p).pv_long_address.0
long_address-read (a ∷ b ∷ c ∷ d ∷ e ∷ f ∷ g ∷ h ∷ i) l = refl
long_address-read [] l = absurd (omega arith)
long_address-read (a ∷ []) l = absurd (omega arith)
long_address-read (a ∷ b ∷ []) l = absurd (omega arith)
long_address-read (a ∷ b ∷ c ∷ []) l = absurd (omega arith)
long_address-read (a ∷ b ∷ c ∷ d ∷ []) l = absurd (omega arith)
long_address-read (a ∷ b ∷ c ∷ d ∷ e ∷ []) l = absurd (omega arith)
long_address-read (a ∷ b ∷ c ∷ d ∷ e ∷ f ∷ []) l = absurd (omega arith)
long_address-read (a ∷ b ∷ c ∷ d ∷ e ∷ f ∷ g ∷ []) l = absurd (omega arith)
