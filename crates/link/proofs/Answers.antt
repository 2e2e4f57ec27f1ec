-- Two answers that 01 cannot tell apart are one answer, so that the contract of `encode` determines its own. Assumes nothing.
use mathlib.Core.Path.{◌≡◌, refl}
use Prim.Native.Nat.{ℕ}
use Rattle.std.specs.Prelude.{Result}
use Rattle.laws.proofs.Numbers.{handed_by-same}
use Rattle.link.specs.Handed.{refusal_of, handed}
use Rattle.link.specs.declared.EncodeError.{EncodeError}
use Rattle.link.specs.declared.EncodeError.TheVariants.{InvalidGatewayID, TooLong, NoRoom}

apart : (d e : EncodeError) → refusal_of d ≡ refusal_of e → d ≡ e
apart InvalidGatewayID InvalidGatewayID p = refl
apart InvalidGatewayID TooLong p = cc
apart InvalidGatewayID NoRoom p = cc
apart TooLong InvalidGatewayID p = cc
apart TooLong TooLong p = refl
apart TooLong NoRoom p = cc
apart NoRoom InvalidGatewayID p = cc
apart NoRoom TooLong p = cc
apart NoRoom NoRoom p = refl

pub handed-same : (a b : Result ℕ EncodeError) → handed a ≡ handed b → a ≡ b
handed-same = handed_by-same refusal_of apart
