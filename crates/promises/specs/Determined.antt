-- When a contract determines its outcome. Assumes nothing.
use Rattle.std.specs.Prelude.{◌≡◌, List, ℕ}
use seplogic.Ra.Ura.{Ura}
use base.Logic.{sep}
use contract.Lifetimes.{Lfts}
use contract.Monad.{fact}
use denote.Triple.Clauses.{Ended, Clauses, Lasts, AtExit, at_exit}
use denote.Triple.Entry.{Args, Res}
use borrow.Fn.Kinds.{ParamKind, ResultKind, Out, Dens, res_t, ended_of}

-- 01, "What a contract has to say here": any two outcomes allowed by it are proved equal.
-- An outcome is the result and the parameters as the function leaves them, lent bytes included; L is what a caller learns from the contract.
abbrev pub Determined : (n : ℕ) (ps : List (ParamKind n)) (r : ResultKind n) → Out n ps r → Type 0
Determined n ps r L =
    (κs : Lfts n) (a : Dens κs ps) (x y : (res_t r κs).Denot) (u v : Lasts (ended_of n ps r) κs a)
    → L κs a x (at_exit (ended_of n ps r) κs a u)
    → L κs a y (at_exit (ended_of n ps r) κs a v)
    → (x ≡ y) × (at_exit (ended_of n ps r) κs a u ≡ at_exit (ended_of n ps r) κs a v)

-- The same where what a caller learns is written down by hand, ..
abbrev pub Says : Ended → Type 1
Says T = (κs : Lfts T.signature.lifetimes) → Args T.signature κs → Res T.signature κs → AtExit T κs → Type 0

-- .. any two outcomes that this allows are equal, ..
abbrev pub DeterminedBy : (T : Ended) → Says T → Type 0
DeterminedBy T L =
    (κs : Lfts T.signature.lifetimes) (a : Args T.signature κs) (x y : Res T.signature κs) (u v : Lasts T κs a)
    → L κs a x (at_exit T κs a u)
    → L κs a y (at_exit T κs a v)
    → (x ≡ y) × (at_exit T κs a u ≡ at_exit T κs a v)

-- .. and proved to be what the contract's clauses say
abbrev pub SaidBy : {M : Type 1} (𝓤 : Ura M) (T : Ended) → Clauses 𝓤 T → Says T → Type 2
SaidBy 𝓤 T c L =
    (κs : Lfts T.signature.lifetimes) (a : Args T.signature κs) (g : (c κs a).ghost) (x : Res T.signature κs) (e : AtExit T κs)
    → (c κs a).ensures g x e ≡ fact 𝓤 (L κs a x e)

-- .. or, of a contract of two clauses, what the two say
abbrev pub SaidByBoth : {M : Type 1} (𝓤 : Ura M) (T : Ended) → Clauses 𝓤 T → Says T → Says T → Type 2
SaidByBoth 𝓤 T c L K =
    (κs : Lfts T.signature.lifetimes) (a : Args T.signature κs) (g : (c κs a).ghost) (x : Res T.signature κs) (e : AtExit T κs)
    → (c κs a).ensures g x e ≡ sep 𝓤 (fact 𝓤 (L κs a x e)) (fact 𝓤 (K κs a x e))
