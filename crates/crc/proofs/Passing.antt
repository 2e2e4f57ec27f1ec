-- A word of the check is passed on to the words after it: to two by the polynomial's eighth power, to four by its sixteenth. Assumes nothing.
use mathlib.Core.Path.{◌≡◌, refl, sym, ap, ap₂, ◌∙◌}
use mathlib.Core.List.{List, [], ◌∷◌}
use Prim.Native.Nat.{ℕ, ◌+◌, ◌*◌, ◌/◌, ◌%◌, ◌^◌, ◌<◌}
use native.Mathlib.Nat.{lt_of_le_of_lt, div-le_self}
use lib.Bits.{bit_xor, xor_self, xor_zero_l, xor_zero_r, xor_comm, xor_lt}
use Rattle.laws.proofs.Bits.{xor_assoc}
use Rattle.laws.proofs.Linear.{xor-swap, xor-undo, xor-cancel}
use Rattle.crc.specs.Crc.{crc_bits}
use Rattle.crc.specs.Words.{crc_words}
use Rattle.crc.proofs.Powers.{linear-crc_bits, crc_bits-add, crc_bits-left, power-8, power_16}
use Rattle.crc.proofs.Wide.{shl, shl_lt, by8, by8-by8, by8-lt}

-- lists of words: as many, zeros, and exclusive or word by word
abbrev Same : List ℕ → List ℕ → Type 0
Same [] [] = Unit
Same [] (v ∷ vs) = ⊥
Same (w ∷ ws) [] = ⊥
Same (w ∷ ws) (v ∷ vs) = Same ws vs

abbrev zeros : List ℕ → List ℕ
zeros [] = []
zeros (w ∷ ws) = 0 ∷ zeros ws

abbrev xor_words : List ℕ → List ℕ → List ℕ
xor_words [] vs = []
xor_words (w ∷ ws) [] = []
xor_words (w ∷ ws) (v ∷ vs) = bit_xor w v ∷ xor_words ws vs

same-zeros : (ws : List ℕ) → Same ws (zeros ws)
same-zeros [] = tt
same-zeros (w ∷ ws) = same-zeros ws

xor_words-zeros : (ws : List ℕ) → xor_words ws (zeros ws) ≡ ws
xor_words-zeros [] = refl
xor_words-zeros (w ∷ ws) = ap₂ (λ (v : ℕ) (vs : List ℕ). v ∷ vs) (xor_zero_r w) (xor_words-zeros ws)

crc_words-xor : (ws vs : List ℕ) → Same ws vs → (a b : ℕ) → crc_words (bit_xor a b) (xor_words ws vs) ≡ bit_xor (crc_words a ws) (crc_words b vs)
crc_words-xor [] [] m a b = refl
crc_words-xor [] (v ∷ vs) m a b = elim m [ ]
crc_words-xor (w ∷ ws) [] m a b = elim m [ ]
crc_words-xor (w ∷ ws) (v ∷ vs) m a b =
    ap (λ (c : ℕ). crc_words c (xor_words ws vs)) (ap (crc_bits 64) (xor-swap a b w v) ∙ linear-crc_bits 64 (bit_xor a w) (bit_xor b v))
    ∙ crc_words-xor ws vs m (crc_bits 64 (bit_xor a w)) (crc_bits 64 (bit_xor b v))

pass_on : (x : ℕ) (ws vs : List ℕ) → Same ws vs → crc_words (crc_bits 64 x) (zeros ws) ≡ crc_words 0 vs → crc_words 0 (x ∷ ws) ≡ crc_words 0 (xor_words ws vs)
pass_on x ws vs m e =
    ap₂ (λ (c : ℕ) (us : List ℕ). crc_words c us) (ap (crc_bits 64) (xor_zero_l x) ∙ sym (xor_zero_l (crc_bits 64 x))) (sym (xor_words-zeros ws))
    ∙ crc_words-xor ws (zeros ws) (same-zeros ws) 0 (crc_bits 64 x)
    ∙ ap (bit_xor (crc_words 0 ws)) e
    ∙ sym (crc_words-xor ws vs m 0 0)

-- two words, and two zeros, after a word that is taken on by n bits
two : (a b : ℕ) → crc_words 0 (a ∷ b ∷ []) ≡ bit_xor (crc_bits 128 a) (crc_bits 64 b)
two a b =
    ap (λ (y : ℕ). crc_bits 64 (bit_xor (crc_bits 64 y) b)) (xor_zero_l a)
    ∙ linear-crc_bits 64 (crc_bits 64 a) b
    ∙ ap (λ (y : ℕ). bit_xor y (crc_bits 64 b)) (sym (crc_bits-add 64 64 a))

two-more : (c a b : ℕ) → crc_words c (a ∷ b ∷ []) ≡ bit_xor (bit_xor (crc_bits 128 c) (crc_bits 128 a)) (crc_bits 64 b)
two-more c a b =
    linear-crc_bits 64 (crc_bits 64 (bit_xor c a)) b
    ∙ ap (λ (y : ℕ). bit_xor y (crc_bits 64 b)) (sym (crc_bits-add 64 64 (bit_xor c a)) ∙ linear-crc_bits 128 c a)

two-zeros : (n x : ℕ) → crc_words (crc_bits n x) (0 ∷ 0 ∷ []) ≡ crc_bits (n + 128) x
two-zeros n x =
    ap (crc_bits 64) (xor_zero_r (crc_bits 64 (bit_xor (crc_bits n x) 0)) ∙ ap (crc_bits 64) (xor_zero_r (crc_bits n x)))
    ∙ sym (crc_bits-add 64 64 (crc_bits n x))
    ∙ sym (crc_bits-add n 128 x)

-- by the eighth power: what goes to the next word, and to the one after it
abbrev near : ℕ → ℕ
near u = bit_xor (u / 2 ^ 32) (shl 24 u)

abbrev far : ℕ → ℕ
far u = bit_xor (u / 2 ^ 40) u

crc_bits-by8 : (u : ℕ) → u < 2 ^ 64 → crc_bits 192 (by8 u) ≡ crc_words 0 (near u ∷ far u ∷ [])
crc_bits-by8 u h =
    let r = crc_bits 128 (u / 2 ^ 32) in
    let t = crc_bits 104 u in
    let v = crc_bits 64 (u / 2 ^ 40) in
    let s = crc_bits 64 u in
    linear-crc_bits 192 u (shl 32 u)
    ∙ ap (bit_xor (crc_bits 192 u)) (crc_bits-left 32 32 128 u refl)
    ∙ sym (xor_assoc (crc_bits 192 u) (crc_bits 160 u) r)
    ∙ ap (λ (y : ℕ). bit_xor y r) (power-8 u h)
    ∙ xor_comm (bit_xor t s) r
    ∙ sym (xor_assoc r t s)
    ∙ sym (xor-cancel (bit_xor r t) v s)
    ∙ ap₂ bit_xor (xor_assoc r t v ∙ ap (bit_xor r) (sym (crc_bits-left 40 24 64 u refl)) ∙ sym (linear-crc_bits 128 (u / 2 ^ 32) (shl 24 u))) (sym (linear-crc_bits 64 (u / 2 ^ 40) u))
    ∙ sym (two (near u) (far u))

pass-eighth : (x : ℕ) → x < 2 ^ 64 → (v w : ℕ) → crc_words 0 (x ∷ v ∷ w ∷ []) ≡ crc_words 0 (bit_xor v (near (by8 x)) ∷ bit_xor w (far (by8 x)) ∷ [])
pass-eighth x h v w =
    pass_on x (v ∷ w ∷ []) (near (by8 x) ∷ far (by8 x) ∷ []) tt
    (two-zeros 64 x ∙ ap (crc_bits 192) (sym (by8-by8 x h)) ∙ crc_bits-by8 (by8 x) (by8-lt x h))

-- by the sixteenth power, a word itself, then 48 bits up and 16 down, then itself
move : (a b c : ℕ) → bit_xor a b ≡ c → a ≡ bit_xor b c
move a b c e = sym (xor-undo b a) ∙ xor_comm (bit_xor b a) b ∙ ap (bit_xor b) (xor_comm b a ∙ e)

crc_bits-by16 : (x : ℕ) → x < 2 ^ 64 → crc_bits 320 x ≡ crc_words 0 (x ∷ shl 48 x ∷ x / 2 ^ 16 ∷ x ∷ [])
crc_bits-by16 x h =
    let a = crc_bits 256 x in
    let m = crc_bits 144 x in
    let b = crc_bits 128 (x / 2 ^ 16) in
    let s = crc_bits 64 x in
    move (crc_bits 320 x) a (bit_xor m s) (power_16 x h)
    ∙ sym (xor_assoc a m s)
    ∙ ap (λ (y : ℕ). bit_xor y s) (sym (xor_assoc (bit_xor a m) b b ∙ ap (bit_xor (bit_xor a m)) (xor_self b) ∙ xor_zero_r (bit_xor a m)))
    ∙ ap (λ (y : ℕ). bit_xor (bit_xor y b) s) (xor_assoc a m b ∙ ap₂ bit_xor (crc_bits-add 128 128 x) (sym (crc_bits-left 16 48 128 x refl) ∙ crc_bits-add 64 128 (shl 48 x)) ∙ sym (linear-crc_bits 128 (crc_bits 128 x) (crc_bits 64 (shl 48 x))) ∙ ap (crc_bits 128) (sym (two x (shl 48 x))))
    ∙ sym (two-more (crc_words 0 (x ∷ shl 48 x ∷ [])) (x / 2 ^ 16) x)

-- the loop of `crc_many` cites this
pub pass-sixteenth : (x : ℕ) → x < 2 ^ 64 → (u v w z : ℕ) → crc_words 0 (x ∷ u ∷ v ∷ w ∷ z ∷ []) ≡ crc_words 0 (bit_xor u x ∷ bit_xor v (x * 2 ^ 48 % 2 ^ 64) ∷ bit_xor w (x / 2 ^ 16) ∷ bit_xor z x ∷ [])
pass-sixteenth x h u v w z =
    pass_on x (u ∷ v ∷ w ∷ z ∷ []) (x ∷ shl 48 x ∷ x / 2 ^ 16 ∷ x ∷ []) tt
    (ap (λ (y : ℕ). crc_words y (0 ∷ 0 ∷ [])) (two-zeros 64 x) ∙ two-zeros 192 x ∙ crc_bits-by16 x h)

near-lt : (u : ℕ) → u < 2 ^ 64 → near u < 2 ^ 64
near-lt u h = xor_lt 64 (u / 2 ^ 32) (shl 24 u) (lt_of_le_of_lt (div-le_self u (2 ^ 32)) h) (shl_lt 24 u)

-- four words as one, by the eighth power twice and a fold: `joined` cites this
pub crc_words-joined : (a b c d f : ℕ) → a < 2 ^ 64 → b < 2 ^ 64 → crc_bits 64 f ≡ crc_bits 128 (bit_xor (bit_xor c (far (by8 a))) (near (by8 (bit_xor b (near (by8 a)))))) → crc_bits 64 (bit_xor (bit_xor d (far (by8 (bit_xor b (near (by8 a)))))) f) ≡ crc_words 0 (a ∷ b ∷ c ∷ d ∷ [])
crc_words-joined a b c d f ha hb e =
    let v = bit_xor b (near (by8 a)) in
    let x = bit_xor (bit_xor c (far (by8 a))) (near (by8 v)) in
    let y = bit_xor d (far (by8 v)) in
    linear-crc_bits 64 y f
    ∙ ap (bit_xor (crc_bits 64 y)) e
    ∙ xor_comm (crc_bits 64 y) (crc_bits 128 x)
    ∙ sym (two x y)
    ∙ sym (pass-eighth v (xor_lt 64 b (near (by8 a)) hb (near-lt (by8 a) (by8-lt a ha))) (bit_xor c (far (by8 a))) d)
    ∙ ap (λ (k : ℕ). crc_words k (d ∷ [])) (sym (pass-eighth a ha b c))
