-- The check of bytes, as bits of the number that they make, and the laws that the functions of words cite. Assumes nothing.
use mathlib.Core.Path.{◌≡◌, refl, sym, ap, ap₂, ◌∙◌}
use mathlib.Core.List.{List, [], ◌∷◌}
use Prim.Native.Nat.{ℕ, zero, suc, ◌+◌, ◌-◌, ◌*◌, ◌/◌, ◌%◌, ◌^◌, ◌<◌, ◌≤◌}
use native.Mathlib.Nat.{zero-lt-suc, add-zero, zero-add, suc-add, add-suc, add_comm, add_assoc, mul_comm, mul_assoc, add-mul, suc-mul, mul-one, mod-eq_of_lt, div-eq_of_lt}
use native.Mathlib.Omega.{arith}
use lib.Pow.{pow-add, pow_mono, high}
use lib.Bits.{bit_xor, xor_comm, xor_zero_l, xor_zero_r, xor_shifted, xor_lt}
use lib.ListN.{length, get_or, take, drop, length-take, length-drop, take-append-drop}
use lib.Seq.{drop-cons, take-add, take_all, take-length}
use Rattle.std.specs.Simd.{first_chunks}
use Rattle.laws.specs.Bytes.{Bytes}
use Rattle.laws.proofs.Bits.{xor_assoc}
use Rattle.words.specs.Words.{le_of, number_of}
use Rattle.words.proofs.Laws.{number_is, chunk-from}
use Rattle.crc.specs.Crc.{crc_bits, crc_byte, crc_from}
use Rattle.crc.specs.Words.{le_at, crc_words}
use Rattle.crc.proofs.Laws.{crc_bits-above, crc_from-append}
use Rattle.crc.proofs.Powers.{linear-crc_bits, crc_bits-add, crc_bits-swap, crc_bits-shl, crc_bits-apart, shl-mod}
use Rattle.crc.proofs.Passing.{pass-sixteenth}

-- a byte below a number, as exclusive or and as a sum
xor-byte : (x l : ℕ) → x < 256 → bit_xor x (l * 2 ^ 8) ≡ x + 256 * l
xor-byte x l h = xor_comm x (l * 2 ^ 8) ∙ xor_shifted l 8 x h ∙ add_comm (l * 2 ^ 8) x ∙ ap (λ (k : ℕ). x + k) (mul_comm l (2 ^ 8))

-- n bytes from place i + k on are n * 8 bits of their number
pub crc_from-le_at : (b : List ℕ) → Bytes b → (i k n c : ℕ) → i + k + n ≤ length b → crc_from c (take n (drop (i + k) b)) ≡ crc_bits (n * 8) (bit_xor c (le_at b i k n))
unfolding crc_byte
crc_from-le_at b hb i k zero c h = sym (xor_zero_r c)
crc_from-le_at b hb i k (suc n) c h =
    let x = get_or b (i + k) 0 in
    let l = le_at b i (suc k) n in
    ap (λ (r : List ℕ). crc_from c (take (suc n) r)) (drop-cons b (i + k) 0 (omega arith))
    ∙ ap (λ (m : ℕ). crc_from (crc_byte c x) (take n (drop m b))) (sym (add-suc i k))
    ∙ crc_from-le_at b hb i (suc k) n (crc_byte c x) (omega (arith, add-suc i k))
    ∙ ap (crc_bits (n * 8)) (sym (crc_bits-above 8 (bit_xor c x) l) ∙ ap (crc_bits 8) (xor_assoc c x (l * 2 ^ 8) ∙ ap (bit_xor c) (xor-byte x l (hb (i + k)))))
    ∙ sym (crc_bits-add 8 (n * 8) (bit_xor c (x + 256 * l)))
    ∙ ap (λ (m : ℕ). crc_bits m (bit_xor c (x + 256 * l))) (add_comm 8 (n * 8) ∙ sym (suc-mul n 8))

-- eight bytes are one word
pub crc_from-word : (b : List ℕ) → Bytes b → (i c : ℕ) → i + 8 ≤ length b → crc_from c (take (i + 8) b) ≡ crc_words (crc_from c (take i b)) (le_at b i 0 8 ∷ [])
crc_from-word b hb i c h =
    ap (crc_from c) (take-add i 8 b)
    ∙ crc_from-append (take i b) (take 8 (drop i b)) c
    ∙ ap (λ (m : ℕ). crc_from (crc_from c (take i b)) (take 8 (drop m b))) (sym (add-zero i))
    ∙ crc_from-le_at b hb i 0 8 (crc_from c (take i b)) (omega arith)

-- the number of r bytes and m more
pow-byte : (n : ℕ) → 2 ^ (suc n * 8) ≡ 2 ^ (n * 8) * 256
pow-byte n = ap (λ (k : ℕ). 2 ^ k) (suc-mul n 8) ∙ pow-add 2 (n * 8) 8

regroup : (x a p m : ℕ) → x + 256 * (m * p + a) ≡ m * (p * 256) + (x + 256 * a)
regroup x a p m =
    ap (λ (k : ℕ). x + k) (mul_comm 256 (m * p + a) ∙ add-mul (m * p) a 256 ∙ ap₂ (λ (y z : ℕ). y + z) (mul_assoc m p 256) (mul_comm a 256))
    ∙ sym (add_assoc x (m * (p * 256)) (256 * a))
    ∙ ap (λ (k : ℕ). k + 256 * a) (add_comm x (m * (p * 256)))
    ∙ add_assoc (m * (p * 256)) x (256 * a)

pub le_at-add : (b : List ℕ) (i k r m : ℕ) → le_at b i k (r + m) ≡ le_at b i (k + r) m * 2 ^ (r * 8) + le_at b i k r
le_at-add b i k zero m =
    ap (le_at b i k) (zero-add m)
    ∙ sym (add-zero (le_at b i (k + 0) m * 1) ∙ mul-one (le_at b i (k + 0) m) ∙ ap (λ (j : ℕ). le_at b i j m) (add-zero k))
le_at-add b i k (suc r) m =
    let x = get_or b (i + k) 0 in
    let a = le_at b i (suc k) r in
    ap (le_at b i k) (suc-add r m)
    ∙ ap (λ (y : ℕ). x + 256 * y) (le_at-add b i (suc k) r m)
    ∙ regroup x a (2 ^ (r * 8)) (le_at b i (suc k + r) m)
    ∙ ap₂ (λ (p j : ℕ). le_at b i j m * p + (x + 256 * a)) (sym (pow-byte r)) (suc-add k r ∙ sym (add-suc k r))

pub le_at-lt : (b : List ℕ) → Bytes b → (i k n : ℕ) → le_at b i k n < 2 ^ (n * 8)
le_at-lt b hb i k zero = zero-lt-suc 0
le_at-lt b hb i k (suc n) = omega (arith, pow-byte n, hb (i + k), le_at-lt b hb i (suc k) n)

-- only the place counts, however it is written
pub le_at-start : (b : List ℕ) (i k j l n : ℕ) → i + k ≡ j + l → le_at b i k n ≡ le_at b j l n
le_at-start b i k j l zero e = refl
le_at-start b i k j l (suc n) e =
    ap₂ (λ (m y : ℕ). get_or b m 0 + 256 * y) e (le_at-start b i (suc k) j (suc l) n (add-suc i k ∙ ap suc e ∙ sym (add-suc j l)))

-- the upper r of m + r bytes
le_at-high : (b : List ℕ) → Bytes b → (i k m r : ℕ) → le_at b i k (m + r) / 2 ^ (m * 8) ≡ le_at b i (k + m) r
le_at-high b hb i k m r = ap (λ (y : ℕ). y / 2 ^ (m * 8)) (le_at-add b i k m r) ∙ high (le_at b i (k + m) r) (m * 8) (le_at-lt b hb i k m)

-- one word more, by `fold`
pub crc_bits-fold : (x f w : ℕ) → crc_bits 64 f ≡ crc_bits 128 x → crc_bits 64 (bit_xor w f) ≡ crc_words (crc_bits 64 x) (w ∷ [])
crc_bits-fold x f w e =
    linear-crc_bits 64 w f
    ∙ ap (bit_xor (crc_bits 64 w)) (e ∙ crc_bits-add 64 64 x)
    ∙ sym (linear-crc_bits 64 w (crc_bits 64 x))
    ∙ ap (crc_bits 64) (xor_comm w (crc_bits 64 x))

-- r bytes more, in the top of the last word: `tail` cites this
module _ (b : List ℕ) (hb : Bytes b) (r m i p x f w : ℕ) (e : r + m ≡ 8) (ei : i ≡ p + m) (en : i + r ≡ length b) (ew : w ≡ le_at b p 0 8) (ef : crc_bits 64 f ≡ crc_bits 128 (x * 2 ^ (m * 8) % 2 ^ 64)) where
  j : ℕ
  j = r * 8

  k : ℕ
  k = m * 8

  l : ℕ
  l = le_at b p m r

  bits : j + k ≡ 64
  unfolding j k
  bits = sym (add-mul r m 8) ∙ ap (λ (n : ℕ). n * 8) e

  last : crc_bits 64 (w / 2 ^ k * 2 ^ k % 2 ^ 64) ≡ crc_bits j l
  unfolding j k l
  last =
      crc_bits-shl (w / 2 ^ k) j k 64 bits
      ∙ ap (λ (y : ℕ). crc_bits j (y % 2 ^ j)) (ap (λ (y : ℕ). y / 2 ^ k) (ew ∙ ap (le_at b p 0) (sym e ∙ add_comm r m)) ∙ le_at-high b hb p 0 m r ∙ ap (λ (n : ℕ). le_at b p n r) (zero-add m))
      ∙ ap (crc_bits j) (mod-eq_of_lt (le_at-lt b hb p m r))

  rest : bit_xor (crc_bits 64 (x / 2 ^ j)) (crc_bits 64 f) ≡ crc_bits j (crc_bits 64 x)
  unfolding j k
  rest =
      ap (bit_xor (crc_bits 64 (x / 2 ^ j))) (ef ∙ crc_bits-add 64 64 (x * 2 ^ k % 2 ^ 64) ∙ ap (crc_bits 64) (crc_bits-shl x j k 64 bits))
      ∙ sym (linear-crc_bits 64 (x / 2 ^ j) (crc_bits j (x % 2 ^ j)))
      ∙ ap (crc_bits 64) (crc_bits-apart j x)
      ∙ crc_bits-swap 64 j x

  pub crc_from-tail : crc_bits 64 (bit_xor (bit_xor (w / 2 ^ (m * 8) * 2 ^ (m * 8) % 2 ^ 64) (x / 2 ^ (r * 8))) f) ≡ crc_from (crc_bits 64 x) (drop i b)
  unfolding j k l
  crc_from-tail =
      let y = w / 2 ^ k * 2 ^ k % 2 ^ 64 in
      linear-crc_bits 64 (bit_xor y (x / 2 ^ j)) f
      ∙ ap (λ (n : ℕ). bit_xor n (crc_bits 64 f)) (linear-crc_bits 64 y (x / 2 ^ j))
      ∙ xor_assoc (crc_bits 64 y) (crc_bits 64 (x / 2 ^ j)) (crc_bits 64 f)
      ∙ ap₂ bit_xor last rest
      ∙ xor_comm (crc_bits j l) (crc_bits j (crc_bits 64 x))
      ∙ sym (linear-crc_bits j (crc_bits 64 x) l)
      ∙ sym (crc_from-le_at b hb p m r (crc_bits 64 x) (omega arith))
      ∙ ap (λ (n : ℕ). crc_from (crc_bits 64 x) (take r (drop n b))) (sym ei)
      ∙ ap (crc_from (crc_bits 64 x)) (take_all r (drop i b) (omega (arith, length-drop i b)))

-- four to eight bytes, from the first four and the last four: `crc_few` cites this
module _ (b : List ℕ) (hb : Bytes b) (d m c v w : ℕ) (e : d + m ≡ 4) (en : 4 + d ≡ length b) (hc : c < 2 ^ 16) (ev : v ≡ le_at b 0 0 4) (ew : w ≡ le_at b d 0 4) where
  upper : ℕ
  upper = le_at b 0 4 d

  upper-half : w / 2 ^ (m * 8) ≡ upper
  unfolding upper
  upper-half =
      ap (λ (y : ℕ). y / 2 ^ (m * 8)) (ew ∙ ap (le_at b d 0) (sym e ∙ add_comm d m))
      ∙ le_at-high b hb d 0 m d
      ∙ le_at-start b d (0 + m) 0 4 d (omega arith)

  upper_lt : upper < 2 ^ 32
  unfolding upper
  upper_lt = omega (arith, le_at-lt b hb 0 4 d, pow_mono {i = d * 8} {j = 32} (omega arith))

  whole : bit_xor v (w / 2 ^ (m * 8) * 2 ^ 32 % 2 ^ 64) ≡ le_at b 0 0 (4 + d)
  unfolding upper
  whole =
      ap₂ (λ (x y : ℕ). bit_xor x (y * 2 ^ 32 % 2 ^ 64)) ev upper-half
      ∙ ap (bit_xor (le_at b 0 0 4)) (shl-mod upper 32 32 ∙ ap (λ (y : ℕ). y * 2 ^ 32) (mod-eq_of_lt upper_lt))
      ∙ xor_comm (le_at b 0 0 4) (upper * 2 ^ 32)
      ∙ xor_shifted upper 32 (le_at b 0 0 4) (le_at-lt b hb 0 0 4)
      ∙ sym (le_at-add b 0 0 4 d)

  bits-few : (4 + d) * 8 + m * 8 ≡ 64
  bits-few = omega arith

  pub crc_from-few : crc_bits 64 (bit_xor (bit_xor c v) (w / 2 ^ (m * 8) * 2 ^ 32 % 2 ^ 64) * 2 ^ (m * 8) % 2 ^ 64) ≡ crc_from c b
  crc_from-few =
      let n = 4 + d in
      let y = bit_xor c (le_at b 0 0 n) in
      let h : y < 2 ^ (n * 8) = xor_lt (n * 8) c (le_at b 0 0 n) (omega (arith, pow_mono {i = 16} {j = n * 8} (omega arith))) (le_at-lt b hb 0 0 n) in
      ap (λ (z : ℕ). crc_bits 64 (z * 2 ^ (m * 8) % 2 ^ 64)) (xor_assoc c v (w / 2 ^ (m * 8) * 2 ^ 32 % 2 ^ 64) ∙ ap (bit_xor c) whole)
      ∙ crc_bits-shl y (n * 8) (m * 8) 64 bits-few
      ∙ ap (crc_bits (n * 8)) (mod-eq_of_lt h)
      ∙ sym (crc_from-le_at b hb 0 0 n c (omega arith))
      ∙ ap (crc_from c) (ap (λ (z : ℕ). take z b) en ∙ take-length b)

-- just four bytes: `crc_four` cites this
pub crc_from-half : (b : List ℕ) → Bytes b → (c v : ℕ) → length b ≡ 4 → c < 2 ^ 16 → v ≡ le_at b 0 0 4 → v < 2 ^ 32 → crc_bits 64 (bit_xor c v * 2 ^ 32 % 2 ^ 64) ≡ crc_from c b
crc_from-half b hb c v n hc ev hv =
    let none : v / 2 ^ (4 * 8) * 2 ^ 32 % 2 ^ 64 ≡ 0 = ap (λ (y : ℕ). y * 2 ^ 32 % 2 ^ 64) (div-eq_of_lt hv) in
    ap (λ (y : ℕ). crc_bits 64 (y * 2 ^ 32 % 2 ^ 64)) (sym (xor_zero_r (bit_xor c v)) ∙ ap (bit_xor (bit_xor c v)) (sym none))
    ∙ crc_from-few b hb 0 4 c v v (omega arith) (sym n) hc ev ev

-- a turn of `crc_words`
pub crc_from-turn : (b : List ℕ) → Bytes b → (i c x f w : ℕ) → i + 8 ≤ length b → crc_bits 64 x ≡ crc_from c (take i b) → crc_bits 64 f ≡ crc_bits 128 x → w ≡ le_at b i 0 8 → crc_bits 64 (bit_xor w f) ≡ crc_from c (take (i + 8) b)
crc_from-turn b hb i c x f w h ex ef ew =
    crc_bits-fold x f w ef ∙ ap₂ (λ (y z : ℕ). crc_words y (z ∷ [])) ex ew ∙ sym (crc_from-word b hb i c h)

-- the first word, with the start in its low end
pub crc_from-begun : (b : List ℕ) → Bytes b → (c w : ℕ) → 8 ≤ length b → w ≡ le_at b 0 0 8 → crc_bits 64 (bit_xor c w) ≡ crc_from c (take 8 b)
crc_from-begun b hb c w h ew = ap (λ (y : ℕ). crc_bits 64 (bit_xor c y)) ew ∙ sym (crc_from-word b hb 0 c h)

-- what stands before a place and what follows it
pub crc_from-whole : (b : List ℕ) (i c y : ℕ) → y ≡ crc_from c (take i b) → crc_from y (drop i b) ≡ crc_from c b
crc_from-whole b i c y e =
    ap (λ (k : ℕ). crc_from k (drop i b)) e ∙ sym (crc_from-append (take i b) (drop i b) c) ∙ ap (crc_from c) (take-append-drop i b)

-- the first four words, and a turn of `crc_many`
pub crc_from-four : (b : List ℕ) → Bytes b → (c t u v w : ℕ) → 32 ≤ length b → t ≡ le_at b 0 0 8 → u ≡ le_at b 8 0 8 → v ≡ le_at b 16 0 8 → w ≡ le_at b 24 0 8 → crc_words 0 (bit_xor c t ∷ u ∷ v ∷ w ∷ []) ≡ crc_from c (take 32 b)
crc_from-four b hb c t u v w h et eu ev ew =
    ap (λ (y : ℕ). crc_words (crc_bits 64 y) (u ∷ v ∷ w ∷ [])) (xor_zero_l (bit_xor c t))
    ∙ ap₂ (λ (y z : ℕ). crc_words y (z ∷ v ∷ w ∷ [])) (crc_from-begun b hb c t (omega arith) et) eu
    ∙ ap₂ (λ (y z : ℕ). crc_words y (z ∷ w ∷ [])) (sym (crc_from-word b hb 8 c (omega arith))) ev
    ∙ ap₂ (λ (y z : ℕ). crc_words y (z ∷ [])) (sym (crc_from-word b hb 16 c (omega arith))) ew
    ∙ sym (crc_from-word b hb 24 c h)

pub crc_from-pass : (b : List ℕ) → Bytes b → (i c t x u v w z : ℕ) → i + 8 ≤ length b → x < 2 ^ 64 → x ≡ t → crc_words 0 (t ∷ u ∷ v ∷ w ∷ []) ≡ crc_from c (take i b) → z ≡ le_at b i 0 8 → crc_words 0 (bit_xor u x ∷ bit_xor v (x * 2 ^ 48 % 2 ^ 64) ∷ bit_xor w (x / 2 ^ 16) ∷ bit_xor z x ∷ []) ≡ crc_from c (take (i + 8) b)
crc_from-pass b hb i c t x u v w z h hx et e ez =
    sym (pass-sixteenth x hx u v w z)
    ∙ ap (λ (y : ℕ). crc_words 0 (y ∷ u ∷ v ∷ w ∷ z ∷ [])) et
    ∙ ap₂ (λ (y s : ℕ). crc_words y (s ∷ [])) e ez
    ∙ sym (crc_from-word b hb i c h)

-- the number of bytes at a place is theirs alone
le_of-at : (b : List ℕ) (i k n : ℕ) → i + k + n ≤ length b → le_of (take n (drop (i + k) b)) ≡ le_at b i k n
le_of-at b i k zero h = refl
le_of-at b i k (suc n) h =
    ap (λ (r : List ℕ). le_of (take (suc n) r)) (drop-cons b (i + k) 0 (omega arith))
    ∙ ap₂ (λ (j : ℕ) (y : ℕ). le_of (take n (drop j b)) * 256 + y) (sym (add-suc i k)) refl
    ∙ ap (λ (y : ℕ). y * 256 + get_or b (i + k) 0) (le_of-at b i (suc k) n (omega (arith, add-suc i k)))
    ∙ turn (le_at b i (suc k) n) (get_or b (i + k) 0)
  where
    turn : (y x : ℕ) → y * 256 + x ≡ x + 256 * y
    turn y x = omega arith

-- `half_at` and `word_at` cite this: just n bytes of a slice, however long the part is written
pub le_at-part : (b : List ℕ) (i n m r : ℕ) → i + n ≤ length b → m ≡ n → r ≡ number_of n (take m (drop i b)) → r ≡ le_at b i 0 n
le_at-part b i n m r h em er =
    er
    ∙ ap (λ (k : ℕ). number_of n (take k (drop i b))) em
    ∙ number_is n (take n (drop i b)) (simp (length-take, length-drop) (omega arith))
    ∙ ap (λ (k : ℕ). le_of (take n (drop k b))) (sym (add-zero i))
    ∙ le_of-at b i 0 n (omega arith)

-- the loops over chunks of eight cite this: the word of such a chunk
pub chunk-word : (b : List ℕ) (cs : List (List ℕ)) (k i w : ℕ) (d : List ℕ) → cs ≡ first_chunks 8 (length b / 8) b → length cs ≡ length b / 8 → i < length (take (length cs - k) (drop k cs))
    → w ≡ number_of 8 (get_or (take (length cs - k) (drop k cs)) i d) → ((k + i) * 8 + 8 ≤ length b) × (w ≡ le_at b ((k + i) * 8) 0 8)
chunk-word b cs k i w d e l h ew =
    let u : i < length cs - k = omega (arith, simp (length-take, length-drop) at h) in
    let g : (k + i) * 8 + 8 ≤ length b = omega arith in
    (g, le_at-part b ((k + i) * 8) 8 8 w g refl (ew ∙ ap (number_of 8) (chunk-from 8 (length b / 8) k i b d cs e l u)))

-- .. and the place behind the last of them
pub chunks-end : (cs : List (List ℕ)) (k i : ℕ) → k ≤ length cs → i ≤ length (take (length cs - k) (drop k cs)) → length (take (length cs - k) (drop k cs)) ≤ i → (k + i) * 8 ≡ 8 * length cs
chunks-end cs k i h p q = omega (arith, simp (length-take, length-drop) at p, simp (length-take, length-drop) at q)
