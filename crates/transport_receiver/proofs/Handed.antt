-- The numbers of 01's table tell any two refusals of a step apart. Assumes nothing.
use mathlib.Core.Path.{◌≡◌, refl, sym, ◌∙◌, ap}
use Prim.Native.Nat.{ℕ}
use mathlib.Core.Bool.{true, cond}
use mathlib.Core.List.{List}
use lib.Dec.{eqb}
use Rattle.laws.proofs.Cases.{never}
use Rattle.transport_receiver.specs.State.{Frame}
use Rattle.transport_receiver.specs.Step.{is_refusal, Outcome, refused, refused_with, silent, event}
use Rattle.transport_receiver.specs.Handed.{handed}
use Rattle.std.specs.Prelude.{Ok, Err}
use Rattle.answers.specs.Refusals.{Answer}
use Rattle.answers.specs.declared.Accepted.TheVariants.{Counted}
use Rattle.answers.specs.declared.Accepted.TheVariants as accepted
use Rattle.answers.specs.declared.Refusal.{Refusal}
use Rattle.answers.specs.declared.Refusal.TheVariants.{OverLimit, InvalidGatewayID, WrongDirection, WrongLength, UnknownStatusType, TooShort, UnknownGateway, NumbersFull, SequencesFull, CommandsFull, NamesFrom, InvalidVersion, NoRequest, UnhandledType, PayloadTooLong}

-- the refusal that a number stands for
refusal_of : Outcome → Answer
refusal_of (refused n) =
    cond (eqb n 12) (Err OverLimit)
    (cond (eqb n 13) (Err InvalidGatewayID)
    (cond (eqb n 20) (Err WrongDirection)
    (cond (eqb n 21) (Err WrongLength)
    (cond (eqb n 22) (Err UnknownStatusType)
    (cond (eqb n 24) (Err UnknownGateway)
    (cond (eqb n 25) (Err NumbersFull)
    (cond (eqb n 26) (Err SequencesFull)
    (cond (eqb n 27) (Err CommandsFull)
    (cond (eqb n 28) (Err NamesFrom)
    (cond (eqb n 29) (Err InvalidVersion)
    (cond (eqb n 30) (Err NoRequest)
    (cond (eqb n 31) (Err UnhandledType)
    (cond (eqb n 32) (Err PayloadTooLong)
    (Ok Counted))))))))))))))
refusal_of (refused_with k n) = Err (TooShort n)
refusal_of silent = Ok Counted
refusal_of (event e) = Ok Counted

refusal_of-refused : (pool : List ℕ) (f : Frame) (r : Refusal) → refusal_of (handed pool f (Err r)) ≡ Err r
unfolding refusal_of
refusal_of-refused pool f OverLimit = refl
refusal_of-refused pool f InvalidGatewayID = refl
refusal_of-refused pool f WrongDirection = refl
refusal_of-refused pool f WrongLength = refl
refusal_of-refused pool f UnknownStatusType = refl
refusal_of-refused pool f UnknownGateway = refl
refusal_of-refused pool f NumbersFull = refl
refusal_of-refused pool f SequencesFull = refl
refusal_of-refused pool f CommandsFull = refl
refusal_of-refused pool f NamesFrom = refl
refusal_of-refused pool f InvalidVersion = refl
refusal_of-refused pool f NoRequest = refl
refusal_of-refused pool f UnhandledType = refl
refusal_of-refused pool f PayloadTooLong = refl
refusal_of-refused pool f (TooShort needed) = refl

refusal_of-handed : (pool : List ℕ) (f : Frame) (a : Answer) → is_refusal (handed pool f a) ≡ true → refusal_of (handed pool f a) ≡ a
refusal_of-handed pool f (Err r) e = refusal_of-refused pool f r
refusal_of-handed pool f (Ok accepted.Counted) e = never e
refusal_of-handed pool f (Ok accepted.CommandKept) e = never e
refusal_of-handed pool f (Ok (accepted.EnumerationStarted gateway)) e = never e
refusal_of-handed pool f (Ok accepted.IdentityObserved) e = never e
refusal_of-handed pool f (Ok accepted.VersionObserved) e = never e
refusal_of-handed pool f (Ok accepted.EnumerationEnded) e = never e
refusal_of-handed pool f (Ok accepted.SlotCounterCaptured) e = never e
refusal_of-handed pool f (Ok (accepted.SlotCounterObserved number slot repeat area)) e = never e
refusal_of-handed pool f (Ok (accepted.CommandExecuted place request length response)) e = never e

-- two answers to a frame that hand back the same refusal are the same
pub handed-apart : (pool : List ℕ) (f : Frame) (a b : Answer) → is_refusal (handed pool f a) ≡ true → handed pool f a ≡ handed pool f b → a ≡ b
handed-apart pool f a b n e =
    sym (refusal_of-handed pool f a n) ∙ ap refusal_of e ∙ refusal_of-handed pool f b (ap is_refusal (sym e) ∙ n)
