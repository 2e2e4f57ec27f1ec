-- `byte_runs::escapes` marks each byte that is 7e: of the byte without 7e's bits the highest bit of a sum tells whether any is left. Assumes nothing.
use mathlib.Core.Path.{refl}
use Prim.Native.Nat.{ℕ, ◌+◌}
use lib.Bits.{bit_and, bit_or, bit_xor}
use Rattle.byte_runs.specs.Runs.{is_of}
use Rattle.byte_runs.specs.Marks.{mark}
use Rattle.byte_runs.specs.declared.Sort.TheVariants as sort
use Rattle.byte_runs.proofs.Bytewise.{Is, is_word, is_all, is-xor, is-and, is-or, is_sum, is_same, below-is, gives-bytes}
use Rattle.byte_runs.proofs.escapes.Goals as goal

-- what is done to a byte, step by step
abbrev apart : ℕ → ℕ
apart b = bit_xor b 0x7e

abbrev carried : ℕ → ℕ
carried b = bit_and (apart b) 0x7f + 0x7f

abbrev told : ℕ → ℕ
told b = bit_or (bit_or (carried b) (apart b)) 0x7f

pub returns : goal.returns
unfolding is_of
returns c = λ bs q.
    let h = q.bytes in
    let e = q.eight in
    let w = c.args.w in
    let y = bit_xor w 0x7e7e7e7e7e7e7e7e in
    let t = bit_and y 0x7f7f7f7f7f7f7f7f + 0x7f7f7f7f7f7f7f7f in
    let low = is_all bs h e 0x7f7f7f7f7f7f7f7f 0x7f refl in
    let is_y : Is bs h e apart y = is-xor bs h e w 0x7e7e7e7e7e7e7e7e (λ b. b) (λ b. 0x7e) (λ b g. g) (gives-bytes (λ b. 0x7e) tt) (is_word bs h e w q.word) (is_all bs h e 0x7e7e7e7e7e7e7e7e 0x7e refl) in
    let is-t : Is bs h e carried t = is_sum bs h e (bit_and y 0x7f7f7f7f7f7f7f7f) 0x7f7f7f7f7f7f7f7f (λ b. bit_and (apart b) 0x7f) (λ b. 0x7f) (is-and bs h e y 0x7f7f7f7f7f7f7f7f apart (λ b. 0x7f) (gives-bytes apart tt) (gives-bytes (λ b. 0x7f) tt) is_y low) low in
    let is-o : Is bs h e told (bit_or (bit_or t y) 0x7f7f7f7f7f7f7f7f) = is-or bs h e (bit_or t y) 0x7f7f7f7f7f7f7f7f (λ b. bit_or (carried b) (apart b)) (λ b. 0x7f) (gives-bytes (λ b. bit_or (carried b) (apart b)) tt) (gives-bytes (λ b. 0x7f) tt) (is-or bs h e t y carried apart (gives-bytes carried tt) (gives-bytes apart tt) is-t is_y) low in
    is_same bs h e (bit_xor (bit_or (bit_or t y) 0x7f7f7f7f7f7f7f7f) 0xffffffffffffffff) (λ b. bit_xor (told b) 0xff) (mark (is_of sort.Raw)) (below-is 256 (λ b. bit_xor (told b) 0xff) (mark (is_of sort.Raw)) tt) (is-xor bs h e (bit_or (bit_or t y) 0x7f7f7f7f7f7f7f7f) 0xffffffffffffffff told (λ b. 0xff) (gives-bytes told tt) (gives-bytes (λ b. 0xff) tt) is-o (is_all bs h e 0xffffffffffffffff 0xff refl))
