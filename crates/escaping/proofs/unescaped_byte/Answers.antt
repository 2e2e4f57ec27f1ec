-- `escaping::unescaped_byte` gives the seven bytes by their codes, and refuses what is no data after 7e. Assumes nothing.
use mathlib.Core.Path.{◌≡◌, sym}
use Prim.Native.Nat.{ℕ, ◌<◌}
use native.Mathlib.Omega.{arith}
use Rattle.escaping.specs.Escapes.{meaning}
use Rattle.escaping.specs.Handed.{unescape_handed}
use Rattle.escaping.proofs.Laws.{unescape_handed-above}
use Rattle.escaping.proofs.unescaped_byte.Goals as goal

-- none of the seven codes: in two steps, as `omega` takes six refutations at the most
above-3 : (b : ℕ) → (b ≡ 0 → ⊥) → (b ≡ 1 → ⊥) → (b ≡ 2 → ⊥) → (b ≡ 3 → ⊥) → 3 < b
above-3 b h i j k = omega arith

above-6 : (b : ℕ) → 3 < b → (b ≡ 4 → ⊥) → (b ≡ 5 → ⊥) → (b ≡ 6 → ⊥) → 6 < b
above-6 b l h i j = omega arith

pub returns-in-0 : goal.returns-in-0
unfolding unescape_handed meaning
returns-in-0 c = rw c.in-0.is

pub returns-in-1 : goal.returns-in-1
unfolding unescape_handed meaning
returns-in-1 c = rw c.in-1.is

pub returns-in-2 : goal.returns-in-2
unfolding unescape_handed meaning
returns-in-2 c = rw c.in-2.is

pub returns-in-3 : goal.returns-in-3
unfolding unescape_handed meaning
returns-in-3 c = rw c.in-3.is

pub returns-in-4 : goal.returns-in-4
unfolding unescape_handed meaning
returns-in-4 c = rw c.in-4.is

pub returns-in-5 : goal.returns-in-5
unfolding unescape_handed meaning
returns-in-5 c = rw c.in-5.is

pub returns-in-6 : goal.returns-in-6
unfolding unescape_handed meaning
returns-in-6 c = rw c.in-6.is

pub returns-in_default : goal.returns-in_default
returns-in_default c =
    let b = c.args.code in
    let n = c.in_default.in_default-own.rest in
    let low : 3 < b = above-3 b n.0.0.0.0.0.0.1 n.0.0.0.0.0.1 n.0.0.0.0.1 n.0.0.0.1 in
    sym (unescape_handed-above b (above-6 b low n.0.0.1 n.0.1 n.1))
