-- `byte_runs::fences` marks each byte whose lower seven bits are 23 to 25. Assumes nothing.
use mathlib.Core.Path.{refl, ◌∙◌}
use mathlib.Core.Bool.{not}
use Prim.Native.Nat.{ℕ}
use lib.Bits.{bit_and, bit_xor}
use Rattle.byte_runs.specs.Runs.{fenced}
use Rattle.byte_runs.specs.Marks.{mark, between_of}
use Rattle.byte_runs.proofs.Bytewise.{raised_by, is_word, is-between, is_same, below-is, gives-bytes}
use Rattle.byte_runs.proofs.fences.Goals as goal

-- what is done to a byte
abbrev told : ℕ → ℕ
told b = bit_and (bit_and (raised_by 0x5d b) (bit_xor (raised_by 0x5a b) 0xff)) 0x80

pub returns : goal.returns
returns c = λ bs q.
    let h = q.bytes in
    let e = q.eight in
    let w = c.args.w in
    c.between.ensures
    ∙ is_same bs h e (between_of w 0x5d5d5d5d5d5d5d5d 0x5a5a5a5a5a5a5a5a) told (mark (λ b. not (fenced b))) (below-is 256 told (mark (λ b. not (fenced b))) tt) (is-between bs h e w 0x5d5d5d5d5d5d5d5d 0x5a5a5a5a5a5a5a5a 0x5d 0x5a (gives-bytes (raised_by 0x5d) tt) (gives-bytes (raised_by 0x5a) tt) (gives-bytes (λ b. bit_xor (raised_by 0x5a b) 0xff) tt) (gives-bytes (λ b. bit_and (raised_by 0x5d b) (bit_xor (raised_by 0x5a b) 0xff)) tt) (is_word bs h e w q.word) refl refl)
