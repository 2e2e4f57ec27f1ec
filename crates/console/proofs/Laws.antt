-- Laws of text that is put into a buffer. Assumes nothing.
use Prim.Native.Nat.{ℕ, ◌+◌, ◌/◌, ◌%◌, ◌≤◌, ◌<◌}
use mathlib.Core.Path.{◌≡◌, refl, ap, sym, ◌∙◌}
use mathlib.Core.List.{List, [], ◌∷◌, ◌++◌}
use native.Mathlib.Numerals.{add-one}
use lib.ListN.{length, drop, get_or, drop_of_length-le}
use lib.Seq.{drop-cons}
use Rattle.io.specs.Digits.{hex_digit_ascii}
use Rattle.console.specs.declared.text.Output.{Output}
use Rattle.console.specs.Text.{put_byte, put_bytes, hex_of, hexes_of}

-- the bytes from a place on: the one at the place, then the others; `put_all` cites this
pub put_bytes-cons : (o : Output) (s : List ℕ) (i : ℕ) → i < length s → put_bytes o (drop i s) ≡ put_bytes (put_byte o (get_or s i 0)) (drop (i + 1) s)
unfolding put_bytes
put_bytes-cons o s i h = ap (λ (l : List ℕ). put_bytes o l) (drop-cons s i 0 h ∙ ap (λ (n : ℕ). get_or s i 0 ∷ drop n s) (sym (add-one i)))

-- at the end nothing is left to put
pub put_bytes-end : (o : Output) (s : List ℕ) (i : ℕ) → length s ≤ i → put_bytes o (drop i s) ≡ o
unfolding put_bytes
put_bytes-end o s i h = ap (λ (l : List ℕ). put_bytes o l) (drop_of_length-le s h)

-- some bytes and then others: `put_hex` cites this
pub put_bytes-append : (o : Output) (s u : List ℕ) → put_bytes o (s ++ u) ≡ put_bytes (put_bytes o s) u
unfolding put_bytes
put_bytes-append o [] u = refl
put_bytes-append o (b ∷ s) u = put_bytes-append (put_byte o b) s u

-- two digits, one after the other: `put_pair` cites this
pub put_bytes-pair : (o o1 o2 : Output) (d e b : ℕ) → d ≡ hex_digit_ascii (b / 16) → e ≡ hex_digit_ascii (b % 16) → o1 ≡ put_byte o d → o2 ≡ put_byte o1 e → o2 ≡ put_bytes o (hex_of b)
unfolding put_bytes
put_bytes-pair o o1 o2 d e b p q u v =
    v ∙ ap (λ (x : Output). put_byte x e) (u ∙ ap (λ (n : ℕ). put_byte o n) p) ∙ ap (λ (n : ℕ). put_byte (put_byte o (hex_digit_ascii (b / 16))) n) q

-- the same of bytes in hex
pub hexes_of-cons : (o : Output) (s : List ℕ) (i : ℕ) → i < length s → put_bytes o (hexes_of (drop i s)) ≡ put_bytes (put_bytes o (hex_of (get_or s i 0))) (hexes_of (drop (i + 1) s))
unfolding hexes_of
hexes_of-cons o s i h =
    ap (λ (l : List ℕ). put_bytes o (hexes_of l)) (drop-cons s i 0 h ∙ ap (λ (n : ℕ). get_or s i 0 ∷ drop n s) (sym (add-one i)))
    ∙ put_bytes-append o (hex_of (get_or s i 0)) (hexes_of (drop (i + 1) s))

pub hexes_of-end : (o : Output) (s : List ℕ) (i : ℕ) → length s ≤ i → put_bytes o (hexes_of (drop i s)) ≡ o
unfolding put_bytes hexes_of
hexes_of-end o s i h = ap (λ (l : List ℕ). put_bytes o (hexes_of l)) (drop_of_length-le s h)
