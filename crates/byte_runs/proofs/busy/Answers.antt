-- `byte_runs::busy` marks each byte that is neither 00 nor ff: in these two each bit is as the one below it, and of where it is not the highest bit of a sum tells whether any is. Assumes nothing.
use mathlib.Core.Path.{refl}
use Prim.Native.Nat.{ℕ, ◌+◌}
use lib.Bits.{bit_and, bit_or, bit_xor}
use Rattle.byte_runs.specs.Runs.{is_of}
use Rattle.byte_runs.specs.Marks.{mark}
use Rattle.byte_runs.specs.declared.Sort.TheVariants as sort
use Rattle.byte_runs.proofs.Bytewise.{Is, is_word, is_all, is-xor, is-and, is-or, is_sum, is_same, below-is, gives-bytes}
use Rattle.byte_runs.proofs.busy.Goals as goal

-- what is done to a byte, step by step
abbrev next : ℕ → ℕ
next b = bit_and b 0x7f + bit_and b 0x7f

abbrev rest : ℕ → ℕ
rest b = bit_and (bit_xor (next b) b) 0xfe

abbrev told : ℕ → ℕ
told b = bit_or (bit_and (rest b) 0x7f + 0x7f) (rest b)

pub returns : goal.returns
unfolding is_of
returns c = λ bs q.
    let h = q.bytes in
    let e = q.eight in
    let w = c.args.w in
    let low = is_all bs h e 0x7f7f7f7f7f7f7f7f 0x7f refl in
    let top = is_all bs h e 0x8080808080808080 0x80 refl in
    let is-w = is_word bs h e w q.word in
    let x = bit_and w 0x7f7f7f7f7f7f7f7f in
    let t = x + x in
    let v = bit_and (bit_xor t w) 0xfefefefefefefefe in
    let s = bit_and v 0x7f7f7f7f7f7f7f7f + 0x7f7f7f7f7f7f7f7f in
    let is_x : Is bs h e (λ b. bit_and b 0x7f) x = is-and bs h e w 0x7f7f7f7f7f7f7f7f (λ b. b) (λ b. 0x7f) (λ b g. g) (gives-bytes (λ b. 0x7f) tt) is-w low in
    let is-t : Is bs h e next t = is_sum bs h e x x (λ b. bit_and b 0x7f) (λ b. bit_and b 0x7f) is_x is_x in
    let is_y : Is bs h e (λ b. bit_xor (next b) b) (bit_xor t w) = is-xor bs h e t w next (λ b. b) (gives-bytes next tt) (λ b g. g) is-t is-w in
    let is-v : Is bs h e rest v = is-and bs h e (bit_xor t w) 0xfefefefefefefefe (λ b. bit_xor (next b) b) (λ b. 0xfe) (gives-bytes (λ b. bit_xor (next b) b) tt) (gives-bytes (λ b. 0xfe) tt) is_y (is_all bs h e 0xfefefefefefefefe 0xfe refl) in
    let is-s : Is bs h e (λ b. bit_and (rest b) 0x7f + 0x7f) s = is_sum bs h e (bit_and v 0x7f7f7f7f7f7f7f7f) 0x7f7f7f7f7f7f7f7f (λ b. bit_and (rest b) 0x7f) (λ b. 0x7f) (is-and bs h e v 0x7f7f7f7f7f7f7f7f rest (λ b. 0x7f) (gives-bytes rest tt) (gives-bytes (λ b. 0x7f) tt) is-v low) low in
    let is-o : Is bs h e told (bit_or s v) = is-or bs h e s v (λ b. bit_and (rest b) 0x7f + 0x7f) rest (gives-bytes (λ b. bit_and (rest b) 0x7f + 0x7f) tt) (gives-bytes rest tt) is-s is-v in
    is_same bs h e (bit_and (bit_or s v) 0x8080808080808080) (λ b. bit_and (told b) 0x80) (mark (is_of sort.Idle)) (below-is 256 (λ b. bit_and (told b) 0x80) (mark (is_of sort.Idle)) tt) (is-and bs h e (bit_or s v) 0x8080808080808080 told (λ b. 0x80) (gives-bytes told tt) (gives-bytes (λ b. 0x80) tt) is-o top)
