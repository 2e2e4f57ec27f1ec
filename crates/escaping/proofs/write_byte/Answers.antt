-- `escaping::write_byte` writes 7e and the code of one of the seven, and any other byte as it is. Assumes nothing.
use mathlib.Core.Path.{◌≡◌, sym}
use Prim.Native.Nat.{ℕ, ◌+◌, ◌≤◌}
use mathlib.Core.List.{[], ◌∷◌}
use native.Mathlib.Omega.{arith}
use Rattle.std.specs.Prelude.{Some, None}
use lib.ListN.{length, length-set}
use borrow.Author.Rules.{rules}
use Rattle.escaping.specs.Escapes.{code_if, escaped_byte}
use Rattle.escaping.proofs.Laws.{code_if-some, code_if-none, escaped_byte-pair, escaped_byte-raw}
use Rattle.escaping.proofs.Writes.{paste-one, paste-two}
use Rattle.escaping.proofs.write_byte.Goals as goal

-- a byte with a code takes two bytes, and any other itself
pair-of : (b code : ℕ) → code_if b ≡ Some code → escaped_byte b ≡ 0x7e ∷ code ∷ []
pair-of b code e = let h = code_if-some b code e in rw h.1 at (escaped_byte-pair b h.0)

raw-of : (b : ℕ) → code_if b ≡ None → escaped_byte b ≡ b ∷ []
raw-of b e = escaped_byte-raw b (code_if-none b e)

pub bounds-out-k : goal.bounds-out-k
bounds-out-k c = let e = pair-of c.args.b c.in-Some.code (sym c.in-Some.ensures) in
    let room : c.args.k + 2 ≤ length c.args.out.now = rw e at c.requires in
    omega arith

pub bounds-out-k-in-Some : goal.bounds-out-k-in-Some
bounds-out-k-in-Some c = let e = pair-of c.args.b c.in-Some.code (sym c.in-Some.ensures) in
    let room : c.args.k + 2 ≤ length c.args.out.now = rw e at c.requires in
    simp length-set (omega arith)

pub returns-in-Some : goal.returns-in-Some
returns-in-Some c = let a = c.args in
    let e = pair-of a.b c.in-Some.code (sym c.in-Some.ensures) in
    let room : a.k + 2 ≤ length a.out.now = rw e at c.requires in
    rw e (search rules, paste-two a.out.now a.k 0x7e c.in-Some.code (omega arith))

pub bounds-out-k-in-None : goal.bounds-out-k-in-None
bounds-out-k-in-None c = let room : c.args.k + 1 ≤ length c.args.out.now = rw (raw-of c.args.b (sym c.in-None.ensures)) at c.requires in
    omega arith

pub returns-in-None : goal.returns-in-None
returns-in-None c = let a = c.args in
    let e = raw-of a.b (sym c.in-None.ensures) in
    let room : a.k + 1 ≤ length a.out.now = rw e at c.requires in
    rw e (search rules, paste-one a.out.now a.k a.b (omega arith))
