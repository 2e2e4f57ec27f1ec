-- What marks tell: which bytes pass, how many before the first that fails, and how those are laid. Assumes nothing.
use mathlib.Core.Path.{◌≡◌, refl, sym, ap, ap₂, ◌∙◌, subst}
use mathlib.Core.Bool.{Bool, true, false, cond, not}
use mathlib.Core.List.{List, [], ◌∷◌, ◌++◌, append_assoc}
use Prim.Native.Nat.{ℕ, zero, suc, ◌+◌, ◌-◌, ◌*◌, ◌/◌, ◌%◌, ◌^◌, ◌≤◌, ◌<◌}
use native.Mathlib.Nat.{not-suc-le-zero, zero-lt-suc, le_of_suc-le-suc, zero-add, suc-add, mul-one, mod-eq_of_lt}
use native.Mathlib.Omega.{arith}
use borrow.Rule.Slice.PartMut.{put_mid, mid_of}
use lib.Bits.{bit_and, bit_or, bit_xor, shifted_half, shifted_even, and_zero_r, and_mask, xor_zero_l, xor_zero_r, xor_self, and_block, xor_block, xor_lt, and_lt}
use lib.Count.{count_trailing_zeros, under}
use lib.ListN.{length, get_or, take, drop, replicate, length-take, length-drop, length-append}
use lib.Seq.{paste, take-take, take_all, drop-drop, length-take-le, get_or-take, get_or-drop}
use Rattle.laws.specs.Bytes.{Bytes}
use Rattle.laws.proofs.Bits.{xor_assoc}
use Rattle.laws.proofs.Bytes.{bytes_take, bytes_drop, bytes-append}
use Rattle.laws.proofs.Lay.{laid_over-take}
use Rattle.words.specs.Words.{le_of, digits, put_of, number_of}
use Rattle.std.proofs.lemmas.List.{drop-take}
use Rattle.std.specs.Simd.{first_chunks}
use Rattle.words.proofs.Laws.{chunk-at, digits_of, put_is, number_is}
use Rattle.byte_runs.specs.Runs.{fenced, is_of, lead, All, laid}
use Rattle.byte_runs.specs.declared.Sort.TheVariants as sort
use Rattle.byte_runs.specs.Marks.{mark, marked, Eight, Marks, Below, First, Blended}
use Rattle.byte_runs.proofs.Laws.{laid-paste, copy-all, copy-stops}
use Rattle.byte_runs.proofs.Bytewise.{is-or, is_same, below-is, gives-bytes}

-- the mark of a byte, by whether it passes
abbrev of : Bool → ℕ
of t = cond t 0 0x80

-- no mark at all: each byte passes
passes : (p : ℕ → Bool) (b : ℕ) (t : Bool) → p b ≡ t → of t ≡ 0 → p b ≡ true
passes p b true e z = e
passes p b false e z = absurd (omega arith)

pub none-marked : (p : ℕ → Bool) (bs : List ℕ) → marked p bs ≡ 0 → (k : ℕ) → k < length bs → p (get_or bs k 0) ≡ true
none-marked p [] e k h = absurd (not-suc-le-zero h)
none-marked p (b ∷ bs) e zero h = passes p b (p b) refl (omega arith)
none-marked p (b ∷ bs) e (suc k) h = none-marked p bs (omega arith) k (le_of_suc-le-suc h)

-- some mark: a byte fails
fails : (t : Bool) (m l n : ℕ) → 1 ≤ m * 256 + of t → (1 ≤ m → l < n) → cond t (suc l) 0 < suc n
fails true m l n h f = omega (arith, f (omega arith))
fails false m l n h f = zero-lt-suc n

pub lead-lt : (p : ℕ → Bool) (bs : List ℕ) → 1 ≤ marked p bs → lead p bs < length bs
unfolding lead
lead-lt p [] h = absurd (not-suc-le-zero h)
lead-lt p (b ∷ bs) h = fails (p b) (marked p bs) (lead p bs) (length bs) h (λ g. lead-lt p bs g)

-- a marked word and the one below it differ in the bytes up to the first mark
differs : (t : Bool) (m l : ℕ) → 1 ≤ m * 256 + of t → (1 ≤ m → bit_xor m (m - 1) ≡ le_of (replicate (suc l) 0xff)) → bit_xor (m * 256 + of t) (m * 256 + of t - 1) ≡ le_of (replicate (suc (cond t (suc l) 0)) 0xff)
differs true m l h f =
    let g : 1 ≤ m = omega arith in
    let e : m * 256 + 0 - 1 ≡ (m - 1) * 256 + 255 = omega arith in
    ap (bit_xor (m * 256 + 0)) e
    ∙ xor_block 8 m (m - 1) 0 255 (omega arith) (omega arith)
    ∙ ap (λ (n : ℕ). n * 256 + 255) (f g)
differs false m l h f =
    let e : m * 256 + 128 - 1 ≡ m * 256 + 127 = omega arith in
    ap (bit_xor (m * 256 + 128)) e
    ∙ xor_block 8 m m 128 127 (omega arith) (omega arith)
    ∙ ap (λ (n : ℕ). n * 256 + 255) (xor_self m)

first : (p : ℕ → Bool) (bs : List ℕ) → 1 ≤ marked p bs → bit_xor (marked p bs) (marked p bs - 1) ≡ le_of (replicate (suc (lead p bs)) 0xff)
unfolding lead
first p [] h = absurd (not-suc-le-zero h)
first p (b ∷ bs) h = differs (p b) (marked p bs) (lead p bs) h (λ g. first p bs g)

-- `below` cites this
pub below-first : (z : ℕ) → 1 ≤ z → Below z (bit_xor z (z - 1) / 256)
below-first z h p bs e =
    ap (λ (n : ℕ). n / 256) (ap (λ (x : ℕ). bit_xor x (x - 1)) e ∙ first p bs (subst (λ (x : ℕ). 1 ≤ x) e h)) ∙ up (le_of (replicate (lead p bs) 0xff))
  where
    up : (l : ℕ) → (l * 256 + 255) / 256 ≡ l
    up l = omega arith

-- the zeros below a number that is shifted, and below an odd one
trailing-shift : (j k a : ℕ) → count_trailing_zeros (j + k) (a * 2 ^ j) ≡ j + count_trailing_zeros k a
unfolding count_trailing_zeros
trailing-shift zero k a = ap₂ count_trailing_zeros (zero-add k) (mul-one a) ∙ sym (zero-add (count_trailing_zeros k a))
trailing-shift (suc j) k a =
    ap (λ (x : ℕ). count_trailing_zeros x (a * 2 ^ suc j)) (suc-add j k)
    ∙ ap₂ (λ (x y : ℕ). under x (count_trailing_zeros (j + k) y)) (shifted_even a j) (shifted_half a j)
    ∙ ap suc (trailing-shift j k a)
    ∙ sym (suc-add j (count_trailing_zeros k a))

trailing_odd : (k a : ℕ) → count_trailing_zeros (suc k) (a * 2 + 1) ≡ 0
unfolding count_trailing_zeros
trailing_odd k a = ap (λ (x : ℕ). under x (count_trailing_zeros k ((a * 2 + 1) / 2))) (odd a)
  where
    odd : (a : ℕ) → (a * 2 + 1) % 2 ≡ 1
    odd a = omega arith

-- .. and below the first mark: seven in its byte, and eight in each byte before
trailing-cons : (t : Bool) (m l k : ℕ) → 1 ≤ m * 256 + of t → (1 ≤ m → count_trailing_zeros k m ≡ 8 * l + 7) → count_trailing_zeros (8 + k) (m * 256 + of t) ≡ 8 * cond t (suc l) 0 + 7
trailing-cons true m l k h f =
    let e : count_trailing_zeros k m ≡ 8 * l + 7 = f (omega arith) in
    let q : m * 256 + 0 ≡ m * 2 ^ 8 = omega arith in
    ap (count_trailing_zeros (8 + k)) q ∙ trailing-shift 8 k m ∙ (let g : 8 + count_trailing_zeros k m ≡ 8 * suc l + 7 = omega arith in g)
trailing-cons false m l k h f =
    let q : m * 256 + 128 ≡ (m * 2 + 1) * 2 ^ 7 = omega arith in
    let w : 8 + k ≡ 7 + suc k = omega arith in
    ap₂ count_trailing_zeros w q ∙ trailing-shift 7 (suc k) (m * 2 + 1) ∙ ap (λ (x : ℕ). 7 + x) (trailing_odd k m)

trailing-marked : (p : ℕ → Bool) (bs : List ℕ) (k w : ℕ) → w ≡ 8 * length bs + k → 1 ≤ marked p bs → count_trailing_zeros w (marked p bs) ≡ 8 * lead p bs + 7
unfolding lead
trailing-marked p [] k w e h = absurd (not-suc-le-zero h)
trailing-marked p (b ∷ bs) k w e h =
    let n = 8 * length bs + k in
    let q : w ≡ 8 + n = omega arith in
    ap (λ (x : ℕ). count_trailing_zeros x (marked p (b ∷ bs))) q ∙ trailing-cons (p b) (marked p bs) (lead p bs) n h (λ g. trailing-marked p bs k n refl g)

-- `first` cites this
pub trailing-first : (z : ℕ) → 1 ≤ z → First z (count_trailing_zeros 64 z / 8)
trailing-first z h p bs n e =
    let q : count_trailing_zeros 64 z ≡ 8 * lead p bs + 7 = ap (count_trailing_zeros 64) e ∙ trailing-marked p bs 0 64 (omega arith) (subst (λ (x : ℕ). 1 ≤ x) e h) in
    omega arith

-- the low bytes of one word and the high ones of another
blended : (b e : ℕ) → b < 256 → e < 256 → bit_xor e (bit_and (bit_xor e b) 255) ≡ b
blended b e hb he =
    ap (bit_xor e) (and_mask (bit_xor e b) 8 ∙ mod-eq_of_lt (xor_lt 8 e b he hb)) ∙ sym (xor_assoc e e b) ∙ ap (λ (n : ℕ). bit_xor n b) (xor_self e) ∙ xor_zero_l b

pub blends : (k : ℕ) (bs ds : List ℕ) → Bytes bs → Bytes ds → k ≤ length bs → k ≤ length ds → bit_xor (le_of ds) (bit_and (bit_xor (le_of ds) (le_of bs)) (le_of (replicate k 0xff))) ≡ le_of (take k bs ++ drop k ds)
blends zero bs ds hb hd h g = ap (bit_xor (le_of ds)) (and_zero_r (bit_xor (le_of ds) (le_of bs))) ∙ xor_zero_r (le_of ds)
blends (suc k) [] ds hb hd h g = absurd (not-suc-le-zero h)
blends (suc k) (b ∷ bs) [] hb hd h g = absurd (not-suc-le-zero g)
blends (suc k) (b ∷ bs) (e ∷ ds) hb hd h g =
    let x = le_of ds in
    let y = le_of bs in
    let m = le_of (replicate k 0xff) in
    let he : e < 256 = hd 0 in
    let hx : bit_xor e b < 256 = xor_lt 8 e b he (hb 0) in
    ap (λ (n : ℕ). bit_xor (x * 256 + e) (bit_and n (m * 256 + 255))) (xor_block 8 x y e b he (hb 0))
    ∙ ap (bit_xor (x * 256 + e)) (and_block 8 (bit_xor x y) m (bit_xor e b) 255 hx (omega arith))
    ∙ xor_block 8 x (bit_and (bit_xor x y) m) e (bit_and (bit_xor e b) 255) he (and_lt 8 (bit_xor e b) 255 hx (omega arith))
    ∙ ap₂ (λ (n o : ℕ). n * 256 + o) (blends k bs ds (λ i. hb (suc i)) (λ i. hd (suc i)) (le_of_suc-le-suc h) (le_of_suc-le-suc g)) (blended b e (hb 0) he)

-- eight bytes of a slice, and their word
pub eight-at : (s : List ℕ) (a : ℕ) → Bytes s → a + 8 ≤ length s → Eight (take 8 (drop a s)) (number_of 8 (take 8 (drop a s)))
eight-at s a h g =
    let e : length (take 8 (drop a s)) ≡ 8 = simp (length-take, length-drop) (omega arith) in
    record { bytes = bytes_take 8 (drop a s) (bytes_drop a s h); eight = e; word = number_is 8 (take 8 (drop a s)) e }

-- eight bytes in the place of eight, of which the first k are new
laid-mid : (d : List ℕ) (l : ℕ) (bs : List ℕ) (k : ℕ) → l + 8 ≤ length d → k ≤ length bs → k ≤ 8 → put_mid l 8 d (take k bs ++ drop k (mid_of l 8 d)) ≡ paste d l bs k
laid-mid d l bs k h g u =
    let q : length (take k bs) ≡ k = length-take-le k bs g in
    let f : length (take k bs) ≤ length (take 8 (drop l d)) = simp (length-take, length-drop) (omega arith) in
    ap (λ (n : ℕ). take l d ++ ((take k bs ++ drop n (take 8 (drop l d))) ++ drop 8 (drop l d))) (sym q)
    ∙ ap (λ (r : List ℕ). take l d ++ r) (laid_over-take (take k bs) (drop l d) 8 f ∙ ap (λ (r : List ℕ). take k bs ++ r) (drop-drop (length (take k bs)) l d ∙ ap (λ (n : ℕ). drop (l + n) d) q))
    ∙ sym (append_assoc (take l d) (take k bs) (drop (l + k) d))

-- a word that has those bytes
put-mid : (d : List ℕ) (l : ℕ) (xs : List ℕ) (x : ℕ) → l + 8 ≤ length d → length xs ≡ 8 → Bytes xs → x ≡ le_of xs → put_mid l 8 d (put_of (mid_of l 8 d) x) ≡ put_mid l 8 d xs
put-mid d l xs x h e hb q =
    ap (put_mid l 8 d)
    (put_is (mid_of l 8 d) x (simp (length-take, length-drop) (omega arith)) ∙ ap (digits 8) q ∙ ap (λ (n : ℕ). digits n (le_of xs)) (sym e) ∙ digits_of xs hb)

-- `blend` cites this, and the part of the slice is as long as it is written
blend-laid :
    (d : List ℕ) (l : ℕ) (p : ℕ → Bool) (bs : List ℕ) (w m b : ℕ) → Bytes d → l + 8 ≤ length d → Eight bs w → lead p bs < 8 → m ≡ le_of (replicate (lead p bs) 0xff) → b ≡ number_of 8 (mid_of l 8 d) →
    put_mid l 8 d (put_of (mid_of l 8 d) (bit_xor b (bit_and (bit_xor b w) m))) ≡ paste d l bs (lead p bs)
blend-laid d l p bs w m b hd h q u em eb =
    let k = lead p bs in
    let ds = mid_of l 8 d in
    let eds : length ds ≡ 8 = simp (length-take, length-drop) (omega arith) in
    let hds : Bytes ds = bytes_take 8 (drop l d) (bytes_drop l d hd) in
    let kb : k ≤ length bs = omega (arith, q.eight) in
    let x : bit_xor b (bit_and (bit_xor b w) m) ≡ le_of (take k bs ++ drop k ds) = ap₂ (λ (n o : ℕ). bit_xor n (bit_and (bit_xor n o) m)) (eb ∙ number_is 8 ds eds) q.word ∙ ap (λ (n : ℕ). bit_xor (le_of ds) (bit_and (bit_xor (le_of ds) (le_of bs)) n)) em ∙ blends k bs ds q.bytes hds kb (omega arith) in
    let e : length (take k bs ++ drop k ds) ≡ 8 = simp (length-append, length-take, length-drop) (omega (arith, q.eight)) in
    put-mid d l (take k bs ++ drop k ds) (bit_xor b (bit_and (bit_xor b w) m)) h e (bytes-append (take k bs) (drop k ds) (bytes_take k bs q.bytes) (bytes_drop k ds hds)) x
    ∙ laid-mid d l bs k h kb (omega arith)

pub blend-back :
    (d : List ℕ) (l : ℕ) (p : ℕ → Bool) (bs : List ℕ) (w m b n r : ℕ) (last : List ℕ) → Bytes d → l + 8 ≤ length d → Eight bs w → lead p bs < 8 → m ≡ le_of (replicate (lead p bs) 0xff) → n ≡ 8 →
    b ≡ number_of 8 (mid_of l n d) → last ≡ put_of (mid_of l n d) (bit_xor b (bit_and (bit_xor b w) m)) → r ≡ lead p bs → put_mid l n d last ≡ paste d l bs r
blend-back d l p bs w m b n r last hd h q u em en eb el er =
    ap (put_mid l n d) el
    ∙ subst (λ (k : ℕ). b ≡ number_of 8 (mid_of l k d) → put_mid l k d (put_of (mid_of l k d) (bit_xor b (bit_and (bit_xor b w) m))) ≡ paste d l bs (lead p bs)) (sym en) (blend-laid d l p bs w m b hd h q u em) eb
    ∙ ap (paste d l bs) (sym er)

-- .. and a whole word
word-laid : (d : List ℕ) (l : ℕ) (bs : List ℕ) (w : ℕ) → l + 8 ≤ length d → Eight bs w → put_mid l 8 d (put_of (mid_of l 8 d) w) ≡ paste d l bs 8
word-laid d l bs w h q =
    put-mid d l bs w h q.eight q.bytes q.word
    ∙ ap (λ (r : List ℕ). take l d ++ (r ++ drop 8 (drop l d))) (sym (take_all 8 bs (omega (arith, q.eight))))
    ∙ ap (λ (r : List ℕ). take l d ++ (take 8 bs ++ r)) (drop-drop 8 l d)
    ∙ sym (append_assoc (take l d) (take 8 bs) (drop (l + 8) d))

-- bytes of eight at i of a slice, as bytes of the slice from i on
paste-laid : (d : List ℕ) (l : ℕ) (s : List ℕ) (i k : ℕ) → l + 8 ≤ length d → i + 8 ≤ length s → k ≤ 8 → paste d l (take 8 (drop i s)) k ≡ laid d l s i k
paste-laid d l s i k h g u =
    ap (λ (r : List ℕ). take l d ++ r ++ drop (l + k) d) (take-take k 8 (drop i s) u) ∙ sym (laid-paste d l s i k (omega arith) (omega arith))

-- what a part of a slice has from a place on
part-drop : (s : List ℕ) (i n j : ℕ) → j ≤ n → drop j (take n (drop i s)) ≡ take (n - j) (drop (i + j) s)
part-drop s i n j h =
    let q : n ≡ j + (n - j) = omega arith in
    ap (λ (m : ℕ). drop j (take m (drop i s))) q ∙ drop-take j (n - j) (drop i s) ∙ ap (take (n - j)) (drop-drop j i s)

-- the loops over chunks of eight cite these: where a chunk of a part of a slice stands, and its word; and what stands behind the last
module _ (s : List ℕ) (i n : ℕ) (cs : List (List ℕ)) (h : i + n ≤ length s) (e : cs ≡ first_chunks 8 (length (take n (drop i s)) / 8) (take n (drop i s))) (l : length cs ≡ length (take n (drop i s)) / 8) where
  long : length (take n (drop i s)) ≡ n
  long = simp (length-take, length-drop) (omega arith)

  pub chunks_inside : 8 * length cs ≤ n
  chunks_inside = omega (arith, long)

  pub chunk_inside : (k : ℕ) → k < length cs → i + 8 * k + 8 ≤ length s
  chunk_inside k u = omega (arith, chunks_inside)

  pub chunk-word : (k w : ℕ) (d : List ℕ) → k < length cs → w ≡ number_of 8 (get_or cs k d) → w ≡ number_of 8 (take 8 (drop (i + 8 * k) s))
  chunk-word k w d u ew =
      let part = take n (drop i s) in
      let c : k * 8 ≡ 8 * k = omega arith in
      ew
      ∙ ap (number_of 8)
      (ap (λ (ys : List (List ℕ)). get_or ys k d) e
      ∙ chunk-at 8 (length part / 8) k part d (omega arith)
      ∙ ap (λ (j : ℕ). take 8 (drop j part)) c
      ∙ ap (take 8) (part-drop s i n (8 * k) (omega (arith, chunks_inside)))
      ∙ take-take 8 (n - 8 * k) (drop (i + 8 * k) s) (omega (arith, chunks_inside)))

  pub chunks-rest : (tail : List ℕ) → tail ≡ drop (length (take n (drop i s)) / 8 * 8) (take n (drop i s)) → tail ≡ take (n - 8 * length cs) (drop (i + 8 * length cs) s)
  chunks-rest tail q =
      let c : length (take n (drop i s)) / 8 * 8 ≡ 8 * length cs = omega arith in
      q ∙ ap (λ (j : ℕ). drop j (take n (drop i s))) c ∙ part-drop s i n (8 * length cs) chunks_inside

  pub rest-long : (tail : List ℕ) → tail ≡ drop (length (take n (drop i s)) / 8 * 8) (take n (drop i s)) → 8 * length cs + length tail ≡ n
  rest-long tail q = omega (arith, chunks_inside, ap length (chunks-rest tail q), length-take {A = ℕ}, length-drop {A = ℕ})

  pub rest-at : (tail : List ℕ) → tail ≡ drop (length (take n (drop i s)) / 8 * 8) (take n (drop i s)) → (k : ℕ) → k < length tail → get_or tail k 0 ≡ get_or s (i + 8 * length cs + k) 0
  rest-at tail q k u =
      let v : k < n - 8 * length cs = omega (arith, rest-long tail q) in
      ap (λ (xs : List ℕ). get_or xs k 0) (chunks-rest tail q) ∙ rw (get_or-take, get_or-drop) refl

-- the loops of words cite these: eight bytes at a place of a slice, however long the part is written
module _ (s : List ℕ) (a n w : ℕ) (h : Bytes s) (g : a + 8 ≤ length s) (en : n ≡ 8) (ew : w ≡ number_of 8 (take n (drop a s))) where
  pub eight-of : Eight (take 8 (drop a s)) w
  eight-of = subst (λ (x : ℕ). Eight (take 8 (drop a s)) x) (sym (ew ∙ ap (λ (k : ℕ). number_of 8 (take k (drop a s))) en)) (eight-at s a h g)

  -- no mark: all eight pass
  pub all-eight : (p : ℕ → Bool) (z : ℕ) → Marks p w z → z ≡ 0 → All p s a 8
  all-eight p z f e k u = rw (get_or-take, get_or-drop) at (none-marked p (take 8 (drop a s)) (sym (f (take 8 (drop a s)) eight-of) ∙ e) k (simp (length-take, length-drop) (omega arith)))

  -- a mark: those before it
  pub some-eight : (p : ℕ → Bool) (z : ℕ) → Marks p w z → 1 ≤ z → lead p (take 8 (drop a s)) < 8
  some-eight p z f u = omega (arith, lead-lt p (take 8 (drop a s)) (subst (λ (x : ℕ). 1 ≤ x) (f (take 8 (drop a s)) eight-of) u), eight-of.eight)

  pub first-eight : (p : ℕ → Bool) (z r : ℕ) → Marks p w z → 1 ≤ z → First z r → (All p s a r) × (r < 8) × (p (get_or s (a + r) 0) ≡ false)
  first-eight p z r f u q =
      let bs = take 8 (drop a s) in
      let e = q p bs eight-of.eight (f bs eight-of) in
      let few : r < 8 = omega (arith, some-eight p z f u, e) in
      (copy-all p s a 8 r (omega arith) e, few, copy-stops p s a 8 r (omega arith) e few (omega arith))

  pub laid-eight : (d : List ℕ) (l m : ℕ) (last : List ℕ) → l + 8 ≤ length d → m ≡ 8 → last ≡ put_of (mid_of l m d) w → put_mid l m d last ≡ laid d l s a 8
  laid-eight d l m last hd em el =
      ap (put_mid l m d) el
      ∙ ap (λ (k : ℕ). put_mid l k d (put_of (mid_of l k d) w)) em
      ∙ word-laid d l (take 8 (drop a s)) w hd eight-of
      ∙ paste-laid d l s a 8 hd g (omega arith)

  pub laid-some : (p : ℕ → Bool) (d : List ℕ) (l z r : ℕ) (next : List ℕ) → l + 8 ≤ length d → Marks p w z → 1 ≤ z → Blended d l w z r next → (All p s a r) × (r < 8) × (next ≡ laid d l s a r) × (p (get_or s (a + r) 0) ≡ false)
  laid-some p d l z r next hd f u b =
      let bs = take 8 (drop a s) in
      let both = b p bs eight-of (f bs eight-of) in
      let few : r < 8 = omega (arith, some-eight p z f u, both.0) in
      (copy-all p s a 8 r (omega arith) both.0, few, both.1 ∙ paste-laid d l s a r hd g (omega arith), copy-stops p s a 8 r (omega arith) both.0 few (omega arith))

-- the marks of two sorts joined: what stands for itself is neither fenced nor 7e
pub marks-plain : (w x y : ℕ) → Marks (is_of sort.Raw) w x → Marks (λ b. not (fenced b)) w y → Marks (is_of sort.Plain) w (bit_or x y)
unfolding is_of
marks-plain w x y raw fences bs q =
    let h = q.bytes in
    let e = q.eight in
    let r = mark (is_of sort.Raw) in
    let f = mark (λ b. not (fenced b)) in
    is_same bs h e (bit_or x y) (λ b. bit_or (r b) (f b)) (mark (is_of sort.Plain)) (below-is 256 (λ b. bit_or (r b) (f b)) (mark (is_of sort.Plain)) tt) (is-or bs h e x y r f (gives-bytes r tt) (gives-bytes f tt) (raw bs q) (fences bs q))
