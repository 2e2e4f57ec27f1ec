-- `byte_runs::ends` marks each byte whose lower seven bits are 07 or 08 and whose highest bit is clear. Assumes nothing.
use mathlib.Core.Path.{refl, ap, ◌∙◌}
use Prim.Native.Nat.{ℕ}
use lib.Bits.{bit_and, bit_xor}
use Rattle.byte_runs.specs.Runs.{is_of}
use Rattle.byte_runs.specs.Marks.{mark, between_of}
use Rattle.byte_runs.specs.declared.Sort.TheVariants as sort
use Rattle.byte_runs.proofs.Bytewise.{raised_by, Is, is_word, is_all, is-xor, is-and, is-between, is_same, below-is, gives-bytes}
use Rattle.byte_runs.proofs.ends.Goals as goal

-- what is done to a byte
abbrev told : ℕ → ℕ
told b = bit_and (bit_and (raised_by 0x79 b) (bit_xor (raised_by 0x77 b) 0xff)) 0x80

pub returns : goal.returns
unfolding is_of
returns c = λ bs q.
    let h = q.bytes in
    let e = q.eight in
    let w = c.args.w in
    let z = between_of w 0x7979797979797979 0x7777777777777777 in
    let is-w = is_word bs h e w q.word in
    let is-z : Is bs h e told z = is-between bs h e w 0x7979797979797979 0x7777777777777777 0x79 0x77 (gives-bytes (raised_by 0x79) tt) (gives-bytes (raised_by 0x77) tt) (gives-bytes (λ b. bit_xor (raised_by 0x77 b) 0xff) tt) (gives-bytes (λ b. bit_and (raised_by 0x79 b) (bit_xor (raised_by 0x77 b) 0xff)) tt) is-w refl refl in
    let is-n : Is bs h e (λ b. bit_xor b 0xff) (bit_xor w 0xffffffffffffffff) = is-xor bs h e w 0xffffffffffffffff (λ b. b) (λ b. 0xff) (λ b g. g) (gives-bytes (λ b. 0xff) tt) is-w (is_all bs h e 0xffffffffffffffff 0xff refl) in
    ap (λ (x : ℕ). bit_and x (bit_xor w 0xffffffffffffffff)) c.between.ensures
    ∙ is_same bs h e (bit_and z (bit_xor w 0xffffffffffffffff)) (λ b. bit_and (told b) (bit_xor b 0xff)) (mark (is_of sort.Calm)) (below-is 256 (λ b. bit_and (told b) (bit_xor b 0xff)) (mark (is_of sort.Calm)) tt) (is-and bs h e z (bit_xor w 0xffffffffffffffff) told (λ b. bit_xor b 0xff) (gives-bytes told tt) (gives-bytes (λ b. bit_xor b 0xff) tt) is-z is-n)
