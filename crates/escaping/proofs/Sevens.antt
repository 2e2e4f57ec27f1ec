-- A byte is one of the seven that are escaped exactly if it does not stand for itself on the wire. Assumes nothing.
use mathlib.Core.Path.{◌≡◌, refl}
use mathlib.Core.Bool.{Bool, true, false, cond, not}
use Prim.Native.Nat.{ℕ, ◌<◌}
use native.Mathlib.Omega.{arith}
use Rattle.std.specs.Prelude.{is_some}
use Rattle.byte_runs.specs.Runs.{is_of}
use Rattle.byte_runs.specs.declared.Sort.TheVariants as sort
use Rattle.byte_runs.proofs.Bytewise.{below-is}
use Rattle.escaping.specs.Escapes.{code_of, code_if}

-- a test as a number, which tells which it was
abbrev bit_of : Bool → ℕ
bit_of t = cond t 1 0

same_test : (x y : Bool) → bit_of x ≡ bit_of y → x ≡ y
same_test true true e = refl
same_test false false e = refl
same_test true false e = absurd (omega (arith, e))
same_test false true e = absurd (omega (arith, e))

-- computed for each of the 256; `is_escaped` cites this
pub seven-is : (b : ℕ) → b < 256 → not (is_of sort.Plain b) ≡ is_some (code_if b)
unfolding is_of code_of
seven-is b h =
    same_test (not (is_of sort.Plain b)) (is_some (code_if b)) (below-is 256 (λ n. bit_of (not (is_of sort.Plain n))) (λ n. bit_of (is_some (code_if n))) tt b h)
