-- `byte_runs::blend` lays the bytes before the first mark: the word that is there keeps its other bytes. Assumes nothing.
use Prim.Native.Nat.{ℕ, ◌+◌, ◌-◌, ◌≤◌, ◌<◌}
use mathlib.Core.Path.{subst}
use native.Mathlib.Omega.{arith}
use borrow.Author.Rules.{rules}
use Rattle.laws.specs.Bytes.{Bytes}
use Rattle.byte_runs.specs.Runs.{lead}
use Rattle.byte_runs.specs.Marks.{marked}
use Rattle.byte_runs.proofs.Marks.{lead-lt, blend-back}
use Rattle.byte_runs.proofs.blend.Goals as goal

pub returns : goal.returns
returns c = λ p bs q e.
    let a = c.args in
    let below = c.below-m in
    let known : Bytes a.d.now = λ k. search rules in
    let some : 1 ≤ marked p bs = subst (λ (x : ℕ). 1 ≤ x) e (search rules) in
    let few : lead p bs < 8 = omega (arith, lead-lt p bs some, q.eight) in
    let m = below.ensures p bs e in
    let word = c.word-b in
    let x = c.first.ensures p bs q.eight e in
    let y = c.put_word in
    (x, blend-back a.d.now a.l p bs a.w below.result word.result (a.l + 8 - a.l) c.first.result y.new.d known (search rules) q few m (omega arith) word.ensures y.ensures x)
