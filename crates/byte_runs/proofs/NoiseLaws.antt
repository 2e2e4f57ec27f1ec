-- Laws of noises: of bytes on end, of the marks of a word, and of what `noises` tells. Assumes nothing.
use mathlib.Core.Path.{◌≡◌, refl, sym, ap, ap₂, ◌∙◌, subst, subst⁻¹}
use mathlib.Core.Bool.{Bool, true, false, cond, not}
use mathlib.Core.List.{List, [], ◌∷◌, ◌++◌}
use Prim.Native.Nat.{ℕ, zero, suc, ◌+◌, ◌-◌, ◌*◌, ◌/◌, ◌%◌, ◌^◌, ◌≤◌, ◌<◌, suc-le-suc}
use native.Mathlib.Nat.{le_refl, not-suc-le-zero, le_of_suc-le-suc, le-suc, le_trans, zero-add, suc-add, add-zero, sub_self, mod-one}
use native.Mathlib.Numerals.{add-one}
use native.Mathlib.Omega.{arith}
use borrow.Author.Tests.{eqb-true}
use lib.Dec.{eqb}
use lib.Pow.{shr-shr, mod-pow-add}
use lib.Bits.{bit_and, bit_or, bit_xor, and_block, xor_block, and_lt, xor_lt, and_zero_r, or_shifted}
use lib.ListN.{length, get_or, take, drop, replicate, length-take, length-drop, drop_of_length-le}
use lib.Seq.{take-add, take-take, drop-drop, drop-cons}
use Rattle.laws.specs.Bytes.{Bytes}
use Rattle.laws.proofs.Cases.{by, never}
use Rattle.words.specs.Words.{le_of, number_of}
use Rattle.byte_runs.specs.Runs.{idle, is_of, lead, All}
use Rattle.byte_runs.specs.Marks.{marked, Eight, Marks, Below, First}
use Rattle.byte_runs.specs.Noises.{noisy_after, noises_of, heard_of, noises_at, Noised, tick, behind_of, Behind, Begun, NoisyAt, NoisyBehind}
use Rattle.byte_runs.specs.declared.Heard.{Heard}
use Rattle.byte_runs.specs.declared.Sort.TheVariants as sort
use Rattle.byte_runs.proofs.Laws.{all-add, lead-drop, run_inside, run-all}
use Rattle.byte_runs.proofs.Marks.{eight-of, all-eight, first-eight}

-- bytes on end
pub noisy_after-append : (n : Bool) (xs ys : List ℕ) → noisy_after n (xs ++ ys) ≡ noisy_after (noisy_after n xs) ys
unfolding noisy_after
noisy_after-append n [] ys = refl
noisy_after-append n (x ∷ xs) ys = noisy_after-append (not (idle x)) xs ys

pub noises_of-append : (n : Bool) (xs ys : List ℕ) → noises_of n (xs ++ ys) ≡ noises_of n xs + noises_of (noisy_after n xs) ys
unfolding noises_of noisy_after
noises_of-append n [] ys = sym (zero-add (noises_of n ys))
noises_of-append n (x ∷ xs) ys =
    on (idle x) n (λ m. noises_of m (xs ++ ys)) (λ m. noises_of m xs) (λ m. noises_of (noisy_after m xs) ys) (λ m. noises_of-append m xs ys)
  where
    on : (t n : Bool) (f g h : Bool → ℕ) → ((m : Bool) → f m ≡ g m + h m) → cond t (f false) (cond n (f true) (suc (f true))) ≡ cond t (g false) (cond n (g true) (suc (g true))) + h (not t)
    on true n f g h e = e false
    on false true f g h e = e true
    on false false f g h e = ap suc (e true) ∙ sym (suc-add (g true) (h true))

pub noises_of-le : (n : Bool) (bs : List ℕ) → noises_of n bs ≤ length bs
unfolding noises_of
noises_of-le n [] = le_refl 0
noises_of-le n (b ∷ bs) = on (idle b) n (λ m. noises_of m bs) (length bs) (λ m. noises_of-le m bs)
  where
    on : (t n : Bool) (f : Bool → ℕ) (l : ℕ) → ((m : Bool) → f m ≤ l) → cond t (f false) (cond n (f true) (suc (f true))) ≤ suc l
    on true n f l h = le_trans (h false) (le-suc l)
    on false true f l h = le_trans (h true) (le-suc l)
    on false false f l h = suc-le-suc (h true)

-- a mark, by whether it is set
tick-lt : (n : Bool) → tick n < 256
tick-lt true = omega arith
tick-lt false = omega arith

abbrev of : Bool → ℕ
of t = cond t 0 0x80

of_lt : (t : Bool) → of t < 256
of_lt true = omega arith
of_lt false = omega arith

tick-not : (t : Bool) → tick (not t) ≡ of t
tick-not true = refl
tick-not false = refl

-- `behind` cites this
behind_of-mod : (n : Bool) (bs : List ℕ) (w : ℕ) → w ≡ 8 * length bs → behind_of n bs ≡ (marked (is_of sort.Idle) bs * 256 + tick n) % 2 ^ w
unfolding behind_of is_of
behind_of-mod n [] w e = sym (ap (λ (k : ℕ). (0 * 256 + tick n) % 2 ^ k) e ∙ mod-one (0 * 256 + tick n))
behind_of-mod n (b ∷ bs) w e =
    let l = 8 * length bs in
    let m = marked (is_of sort.Idle) bs * 256 + of (idle b) in
    let h = tick-lt n in
    let q : w ≡ l + 8 = omega arith in
    let hi : (m * 256 + tick n) / 2 ^ 8 ≡ m = omega arith in
    let lo : (m * 256 + tick n) % 2 ^ 8 ≡ tick n = omega arith in
    ap (λ (x : ℕ). x * 256 + tick n) (behind_of-mod (not (idle b)) bs l refl ∙ ap (λ (x : ℕ). (marked (is_of sort.Idle) bs * 256 + x) % 2 ^ l) (tick-not (idle b)))
    ∙ sym (ap (λ (k : ℕ). (m * 256 + tick n) % 2 ^ k) q ∙ mod-pow-add (m * 256 + tick n) l 8 ∙ ap₂ (λ (x y : ℕ). x % 2 ^ l * 256 + y) hi lo)

pub behind-is : (z before : ℕ) → Behind z before (bit_or (z * 2 ^ 8 % 2 ^ 64) before)
behind-is z before n bs e ez eb =
    let h : before < 256 = subst (λ (x : ℕ). x < 256) (sym eb) (tick-lt n) in
    let q : z * 2 ^ 8 % 2 ^ 64 ≡ z % 2 ^ 56 * 256 = omega arith in
    let hi : (z * 256 + before) / 2 ^ 8 ≡ z = omega arith in
    let lo : (z * 256 + before) % 2 ^ 8 ≡ before = omega arith in
    ap (λ (x : ℕ). bit_or x before) q ∙ or_shifted (z % 2 ^ 56) 8 before h
    ∙ sym (mod-pow-add (z * 256 + before) 56 8 ∙ ap₂ (λ (x y : ℕ). x % 2 ^ 56 * 256 + y) hi lo)
    ∙ ap₂ (λ (x y : ℕ). (x * 256 + y) % 2 ^ 64) ez eb
    ∙ sym (behind_of-mod n bs 64 (omega arith))

-- `begun` cites this: the marks of a word, each the highest bit of its byte, are c in number; shifted down, their remainder by 255 adds them up,
-- since 256 leaves 1
record Adds (v c : ℕ) : Type 0 where
  low : v % 128 ≡ 0
  sum : v / 128 % 255 ≡ c % 255

mod-255 : (k w : ℕ) → (255 * k + w) % 255 ≡ w % 255
mod-255 k w = omega arith

adds-more : (v c x u : ℕ) → Adds v c → x ≡ 128 * u → Adds (v * 256 + x) (c + u)
adds-more v c x u a e =
    let q = v / 128 in
    let w = q % 255 + u in
    let up : (v * 256 + x) / 128 ≡ 255 * (q + q / 255) + w = omega (arith, a.low) in
    let on : c + u ≡ 255 * (c / 255) + w = omega (arith, a.sum) in
    record {
      low = omega (arith, a.low);
      sum = ap (λ (n : ℕ). n % 255) up ∙ mod-255 (q + q / 255) w ∙ sym (ap (λ (n : ℕ). n % 255) on ∙ mod-255 (c / 255) w);
    }

-- a byte is one noise if it is marked and the one before it is not
abbrev fresh : Bool → Bool → ℕ
fresh true n = 0
fresh false true = 0
fresh false false = 1

fresh-is : (t n : Bool) → bit_and (bit_and (of t) (bit_xor (tick n) 255)) 255 ≡ 128 * fresh t n
fresh-is true true = refl
fresh-is true false = refl
fresh-is false true = refl
fresh-is false false = refl

counted : (t n : Bool) (f : Bool → ℕ) → f (not t) + fresh t n ≡ cond t (f false) (cond n (f true) (suc (f true)))
counted true n f = add-zero (f false)
counted false true f = add-zero (f true)
counted false false f = add-one (f true)

adds-begun : (k : ℕ) (n : Bool) (bs : List ℕ) → k ≤ length bs → Adds (bit_and (bit_and (marked (is_of sort.Idle) bs) (bit_xor (behind_of n bs) (le_of (replicate (length bs) 0xff)))) (le_of (replicate k 0xff))) (noises_of n (take k bs))
unfolding behind_of noises_of is_of
adds-begun zero n bs h =
    subst (λ (v : ℕ). Adds v 0) (sym (and_zero_r (bit_and (marked (is_of sort.Idle) bs) (bit_xor (behind_of n bs) (le_of (replicate (length bs) 0xff))))))
    (record { low = refl; sum = refl })
adds-begun (suc k) n [] h = absurd (not-suc-le-zero h)
adds-begun (suc k) n (b ∷ bs) h =
    let t = idle b in
    let m = marked (is_of sort.Idle) bs in
    let p = behind_of (not t) bs in
    let f = le_of (replicate (length bs) 0xff) in
    let r = le_of (replicate k 0xff) in
    let full : 255 < 256 = omega arith in
    let hx : bit_xor (tick n) 255 < 256 = xor_lt 8 (tick n) 255 (tick-lt n) full in
    let ha : bit_and (of t) (bit_xor (tick n) 255) < 256 = and_lt 8 (of t) (bit_xor (tick n) 255) (of_lt t) hx in
    let word =
    ap (λ (x : ℕ). bit_and (bit_and (m * 256 + of t) x) (r * 256 + 255)) (xor_block 8 p f (tick n) 255 (tick-lt n) full)
    ∙ ap (λ (x : ℕ). bit_and x (r * 256 + 255)) (and_block 8 m (bit_xor p f) (of t) (bit_xor (tick n) 255) (of_lt t) hx)
    ∙ and_block 8 (bit_and m (bit_xor p f)) r (bit_and (of t) (bit_xor (tick n) 255)) 255 ha full in
    subst⁻¹ (λ (v : ℕ). Adds v (cond t (noises_of false (take k bs)) (cond n (noises_of true (take k bs)) (suc (noises_of true (take k bs)))))) word
    (subst (Adds (bit_and (bit_and m (bit_xor p f)) r * 256 + bit_and (bit_and (of t) (bit_xor (tick n) 255)) 255)) (counted t n (λ m. noises_of m (take k bs)))
    (adds-more (bit_and (bit_and m (bit_xor p f)) r) (noises_of (not t) (take k bs)) (bit_and (bit_and (of t) (bit_xor (tick n) 255)) 255) (fresh t n) (adds-begun k (not t) bs (le_of_suc-le-suc h)) (fresh-is t n)))

pub begun-is : (z was m : ℕ) → Begun z was m (bit_and (bit_and z (bit_xor was 0xffffffffffffffff)) m / 2 ^ 7 % 255)
begun-is z was m n bs k e ez ew h em =
    let v = marked (is_of sort.Idle) bs in
    let full : 0xffffffffffffffff ≡ le_of (replicate (length bs) 0xff) = ap (λ (l : ℕ). le_of (replicate l 0xff)) (sym e) in
    let a = adds-begun k n bs (omega arith) in
    ap₂ (λ (x y : ℕ). bit_and (bit_and x (bit_xor y 0xffffffffffffffff)) m / 2 ^ 7 % 255) ez ew
    ∙ ap₂ (λ (x y : ℕ). bit_and (bit_and v (bit_xor (behind_of n bs) x)) y / 2 ^ 7 % 255) full em
    ∙ a.sum
    ∙ omega (arith, noises_of-le n (take k bs), length-take k bs)

-- `noisy_at` cites this
tick-and : (n : Bool) → bit_and (tick n) 128 ≡ tick n
tick-and true = refl
tick-and false = refl

behind_of-at : (n : Bool) (bs : List ℕ) (k j : ℕ) → k < length bs → j ≡ 8 * k → bit_and (behind_of n bs / 2 ^ j) 128 ≡ tick (noisy_after n (take k bs))
unfolding behind_of noisy_after
behind_of-at n [] k j h e = absurd (not-suc-le-zero h)
behind_of-at n (b ∷ bs) zero j h e =
    let p = behind_of (not (idle b)) bs in
    let one : (p * 256 + tick n) / 2 ^ 0 ≡ p * 256 + tick n = omega arith in
    ap (λ (x : ℕ). bit_and ((p * 256 + tick n) / 2 ^ x) 128) e
    ∙ ap (λ (x : ℕ). bit_and x 128) one
    ∙ and_block 8 p 0 (tick n) 128 (tick-lt n) (omega arith)
    ∙ ap₂ (λ (x y : ℕ). x * 256 + y) (and_zero_r p) (tick-and n)
    ∙ zero-add (tick n)
behind_of-at n (b ∷ bs) (suc k) j h e =
    let p = behind_of (not (idle b)) bs in
    let g = tick-lt n in
    let q : j ≡ 8 + 8 * k = omega arith in
    let up : (p * 256 + tick n) / 2 ^ 8 ≡ p = omega arith in
    ap (λ (x : ℕ). bit_and x 128) (ap (λ (x : ℕ). (p * 256 + tick n) / 2 ^ x) q ∙ sym (shr-shr (p * 256 + tick n) 8 (8 * k)) ∙ ap (λ (x : ℕ). x / 2 ^ (8 * k)) up)
    ∙ behind_of-at (not (idle b)) bs k (8 * k) (le_of_suc-le-suc h) refl

pub noisy-at : (was k : ℕ) → k < 8 → NoisyAt was k (bit_and (was / 2 ^ (8 * k)) 128)
noisy-at was k h n bs e ew = ap (λ (x : ℕ). bit_and (x / 2 ^ (8 * k)) 128) ew ∙ behind_of-at n bs k (8 * k) (omega arith) refl

-- `noisy_behind` cites this
marked-last : (n : Bool) (b : ℕ) (bs : List ℕ) (j : ℕ) → j ≡ 8 * length bs → marked (is_of sort.Idle) (b ∷ bs) / 2 ^ j ≡ tick (noisy_after n (b ∷ bs))
unfolding noisy_after is_of
marked-last n b [] j e = ap (λ (x : ℕ). (0 * 256 + of (idle b)) / 2 ^ x) e ∙ alone (idle b)
  where
    alone : (t : Bool) → (0 * 256 + of t) / 2 ^ 0 ≡ tick (not t)
    alone true = refl
    alone false = refl
marked-last n b (d ∷ bs) j e =
    let m = marked (is_of sort.Idle) (d ∷ bs) in
    let g = of_lt (idle b) in
    let l = 8 * length bs in
    let q : j ≡ 8 + l = omega arith in
    let up : (m * 256 + of (idle b)) / 2 ^ 8 ≡ m = omega arith in
    ap (λ (x : ℕ). (m * 256 + of (idle b)) / 2 ^ x) q ∙ sym (shr-shr (m * 256 + of (idle b)) 8 l) ∙ ap (λ (x : ℕ). x / 2 ^ l) up
    ∙ marked-last (not (idle b)) d bs l refl

pub noisy-behind : (z : ℕ) → NoisyBehind z (z / 2 ^ 56)
noisy-behind z n [] e ez = absurd (omega arith)
noisy-behind z n (b ∷ bs) e ez = ap (λ (x : ℕ). x / 2 ^ 56) ez ∙ marked-last n b bs 56 (omega arith)

-- bytes of s from i to a, and k more
module _ (n : Bool) (s : List ℕ) (i a k : ℕ) (h : i ≤ a) where
  take_on : take (a + k - i) (drop i s) ≡ take (a - i) (drop i s) ++ take k (drop a s)
  take_on =
      let q : a + k - i ≡ a - i + k = omega arith in
      let r : i + (a - i) ≡ a = omega arith in
      ap (λ (x : ℕ). take x (drop i s)) q
      ∙ take-add (a - i) k (drop i s)
      ∙ ap (λ (l : List ℕ). take (a - i) (drop i s) ++ take k l) (drop-drop (a - i) i s ∙ ap (λ (x : ℕ). drop x s) r)

  noisy_after-on : noisy_after n (take (a + k - i) (drop i s)) ≡ noisy_after (noisy_after n (take (a - i) (drop i s))) (take k (drop a s))
  noisy_after-on = ap (noisy_after n) take_on ∙ noisy_after-append n (take (a - i) (drop i s)) (take k (drop a s))

  noises_of-on : noises_of n (take (a + k - i) (drop i s)) ≡ noises_of n (take (a - i) (drop i s)) + noises_of (noisy_after n (take (a - i) (drop i s))) (take k (drop a s))
  noises_of-on = ap (noises_of n) take_on ∙ noises_of-append n (take (a - i) (drop i s)) (take k (drop a s))

abbrev pub heard : Bool → ℕ → ℕ → Heard
heard t c a = record { noisy = t; count = c; at = a }

pub noised-none : (n : Bool) (s : List ℕ) (i : ℕ) → i ≤ length s → Noised n s i (heard n 0 i)
unfolding noises_of noisy_after
noised-none n s i h = record {
  inside = h;
  further = le_refl i;
  raw = λ k u. absurd (omega arith);
  count = sym (ap (λ (m : ℕ). noises_of n (take m (drop i s))) (sub_self i));
  noisy = sym (ap (λ (m : ℕ). noisy_after n (take m (drop i s))) (sub_self i));
}

pub noised-on : (n : Bool) (s : List ℕ) (i : ℕ) (t : Bool) (c a k : ℕ) (u : Bool) (m : ℕ) → Noised n s i (heard t c a) → a + k ≤ length s → All (is_of sort.Raw) s a k → m ≡ noises_of t (take k (drop a s)) → u ≡ noisy_after t (take k (drop a s)) → Noised n s i (heard u (c + m) (a + k))
noised-on n s i t c a k u m x h all em eu =
    let g : i ≤ a = x.further in
    let q : a - i + k ≡ a + k - i = omega arith in
    let r : a ≡ i + (a - i) = omega arith in
    record {
      inside = h;
      further = omega arith;
      raw = subst (λ (l : ℕ). All (is_of sort.Raw) s i l) q (all-add (is_of sort.Raw) s i (a - i) k x.raw (subst (λ (j : ℕ). All (is_of sort.Raw) s j k) r all));
      count = ap₂ (λ (y z : ℕ). y + z) x.count (em ∙ ap (λ (v : Bool). noises_of v (take k (drop a s))) x.noisy) ∙ sym (noises_of-on n s i a k g);
      noisy = eu ∙ ap (λ (v : Bool). noisy_after v (take k (drop a s))) x.noisy ∙ sym (noisy_after-on n s i a k g);
    }

-- `noises` cites these: one byte more, and all of them
pub noised-more : (n : Bool) (s : List ℕ) (i : ℕ) (t : Bool) (c a : ℕ) (u : Bool) (m : ℕ) → Noised n s i (heard t c a) → a < length s → is_of sort.Raw (get_or s a 0) ≡ true → m ≡ noises_of t (get_or s a 0 ∷ []) → u ≡ not (idle (get_or s a 0)) → Noised n s i (heard u (c + m) (a + 1))
unfolding noisy_after
noised-more n s i t c a u m x h e em eu =
    let one : get_or s a 0 ∷ [] ≡ take 1 (drop a s) = sym (ap (take 1) (drop-cons s a 0 h)) in
    noised-on n s i t c a 1 u m x (omega arith) (λ k g. let z : a ≡ a + k = omega arith in subst (λ (j : ℕ). is_of sort.Raw (get_or s j 0) ≡ true) z e) (em ∙ ap (noises_of t) one) (eu ∙ ap (noisy_after t) one)

pub noised-le : (n : Bool) (s : List ℕ) (i : ℕ) (r : Heard) → Noised n s i r → r.count ≤ length s
noised-le n s i r x = omega (arith, x.count, noises_of-le n (take (r.at - i) (drop i s)), length-take (r.at - i) (drop i s), length-drop i s)

pub noised_at : (n : Bool) (s : List ℕ) (i : ℕ) (t : Bool) (c a : ℕ) → Noised n s i (heard t c a) → (a < length s → is_of sort.Raw (get_or s a 0) ≡ false) → heard t c a ≡ noises_at n s i
unfolding noises_at
noised_at n s i t c a x f =
    let g : i ≤ a = x.further in
    let d = drop i s in
    let q : i + (a - i) ≡ a = omega arith in
    let e : lead (is_of sort.Raw) d ≡ a - i = lead-drop (is_of sort.Raw) s i (a - i) (omega (arith, x.inside)) x.raw (λ u. subst (λ (j : ℕ). is_of sort.Raw (get_or s j 0) ≡ false) (sym q) (f (omega arith))) in
    ap₂ (λ (v : Bool) (m : ℕ). heard v m a) x.noisy x.count
    ∙ ap (λ (j : ℕ). heard_of n (take (a - i) d) j) (sym q)
    ∙ ap (λ (m : ℕ). heard_of n (take m d) (i + m)) (sym e)

pub noises_at-past : (n : Bool) (s : List ℕ) (i : ℕ) → length s ≤ i → heard n 0 i ≡ noises_at n s i
unfolding noises_at noises_of noisy_after lead
noises_at-past n s i h =
    ap (λ (a : ℕ). heard n 0 a) (sym (add-zero i))
    ∙ ap (λ (d : List ℕ). heard_of n (take (lead (is_of sort.Raw) d) d) (i + lead (is_of sort.Raw) d)) (sym (drop_of_length-le s h))

-- whoever calls `noises` cites this
pub noises-are : (n : Bool) (s : List ℕ) (i : ℕ) → i ≤ length s → Noised n s i (noises_at n s i)
unfolding noises_at
noises-are n s i h =
    let d = drop i s in
    let k = lead (is_of sort.Raw) d in
    let q : k ≡ i + k - i = omega arith in
    record {
      inside = run_inside (is_of sort.Raw) s i k h refl;
      further = omega arith;
      raw = subst (λ (m : ℕ). All (is_of sort.Raw) s i m) q (run-all (is_of sort.Raw) s i k h refl);
      count = ap (λ (m : ℕ). noises_of n (take m d)) q;
      noisy = ap (λ (m : ℕ). noisy_after n (take m d)) q;
    }

-- the loop of words: what was heard from i to a, with the mark of the last byte
pub record Hears (n : Bool) (s : List ℕ) (i before count a : ℕ) : Type 0 where
  pub noised : Noised n s i (heard (noisy_after n (take (a - i) (drop i s))) count a)
  pub mark : before ≡ tick (noisy_after n (take (a - i) (drop i s)))

pub hears-none : (n : Bool) (s : List ℕ) (i b : ℕ) → i ≤ length s → b ≡ tick n → Hears n s i b 0 i
unfolding noisy_after
hears-none n s i b h e =
    let q : n ≡ noisy_after n (take (i - i) (drop i s)) = sym (ap (λ (m : ℕ). noisy_after n (take m (drop i s))) (sub_self i)) in
    record { noised = subst (λ (t : Bool). Noised n s i (heard t 0 i)) q (noised-none n s i h); mark = e ∙ ap tick q }

pub hears-le : (n : Bool) (s : List ℕ) (i b c a : ℕ) → Hears n s i b c a → c ≤ length s
hears-le n s i b c a x = noised-le n s i (heard (noisy_after n (take (a - i) (drop i s))) c a) x.noised

ticked : (t : Bool) → t ≡ not (eqb (tick t) 0)
ticked true = refl
ticked false = refl

pub hears-told : (n : Bool) (s : List ℕ) (i b c a : ℕ) → Hears n s i b c a → Noised n s i (heard (not (eqb b 0)) c a)
hears-told n s i b c a x =
    let t = noisy_after n (take (a - i) (drop i s)) in
    subst (λ (v : Bool). Noised n s i (heard v c a)) (ticked t ∙ ap (λ (y : ℕ). not (eqb y 0)) (sym x.mark)) x.noised

idle-raw : (b : ℕ) → is_of sort.Idle b ≡ true → is_of sort.Raw b ≡ true
unfolding is_of
idle-raw b h = by (eqb b 0x7e) (λ e. never (subst (λ (x : ℕ). idle x ≡ true) (eqb-true b 0x7e e) h)) (λ e. ap not e)

hears-on : (n : Bool) (s : List ℕ) (i before count a k b c : ℕ) → Hears n s i before count a → a + k ≤ length s → All (is_of sort.Raw) s a k → c ≡ noises_of (noisy_after n (take (a - i) (drop i s))) (take k (drop a s)) → b ≡ tick (noisy_after (noisy_after n (take (a - i) (drop i s))) (take k (drop a s))) → Hears n s i b (count + c) (a + k)
hears-on n s i before count a k b c x h all ec eb =
    let t = noisy_after n (take (a - i) (drop i s)) in
    let on = noisy_after-on n s i a k x.noised.further in
    record {
      noised = noised-on n s i t count a k (noisy_after n (take (a + k - i) (drop i s))) c x.noised h all ec on;
      mark = eb ∙ ap tick (sym on);
    }

-- a word, of which z marks the bytes other than 00 and ff, and x those that are 7e
module _ (n : Bool) (s : List ℕ) (i before count a l w z : ℕ) (x : Hears n s i before count a) (known : Bytes s) (g : a + 8 ≤ length s) (en : l ≡ 8) (ew : w ≡ number_of 8 (take l (drop a s))) (fz : Marks (is_of sort.Idle) w z) where
  abbrev line : Bool
  line = noisy_after n (take (a - i) (drop i s))

  abbrev bytes : List ℕ
  bytes = take 8 (drop a s)

  eight : Eight bytes w
  eight = eight-of s a l w known g en ew

  same : take 8 bytes ≡ bytes
  same = take-take 8 8 (drop a s) (le_refl 8)

  pub hears-idle : z ≡ 0 → Hears n s i 0 count (a + 8)
  hears-idle e =
      let ez : 0 ≡ marked (is_of sort.Idle) bytes = sym e ∙ fz bytes eight in
      subst (λ (c : ℕ). Hears n s i 0 c (a + 8)) (add-zero count)
      (hears-on n s i before count a 8 0 0 x g (λ k u. idle-raw (get_or s (a + k) 0) (all-eight s a l w known g en ew (is_of sort.Idle) z fz e k u))
      (begun-is 0 (behind_of line bytes) 0xffffffffffffffff line bytes 8 eight.eight ez refl (le_refl 8) refl ∙ ap (noises_of line) same)
      (noisy-behind 0 line bytes eight.eight ez))

  module _ (was y : ℕ) (fw : Behind z before was) (fy : Marks (is_of sort.Raw) w y) where
    behind-line : was ≡ behind_of line bytes
    behind-line = fw line bytes eight.eight (fz bytes eight) x.mark

    pub hears-few : (c : ℕ) → Begun z was 0xffffffffffffffff c → c ≤ 8
    hears-few c fc = omega (arith, fc line bytes 8 eight.eight (fz bytes eight) behind-line (le_refl 8) refl, noises_of-le line (take 8 bytes), length-take 8 bytes)

    pub hears-noise : y ≡ 0 → (b c : ℕ) → Begun z was 0xffffffffffffffff c → NoisyBehind z b → Hears n s i b (count + c) (a + 8)
    hears-noise e b c fc fb =
        hears-on n s i before count a 8 b c x g (all-eight s a l w known g en ew (is_of sort.Raw) y fy e)
        (fc line bytes 8 eight.eight (fz bytes eight) behind-line (le_refl 8) refl ∙ ap (noises_of line) same)
        (fb line bytes eight.eight (fz bytes eight))

    pub hears-first : 1 ≤ y → (k : ℕ) → First y k → k < 8
    hears-first u k fk = (first-eight s a l w known g en ew (is_of sort.Raw) y k fy u fk).1

    pub hears-stops : 1 ≤ y → (k : ℕ) → First y k → is_of sort.Raw (get_or s (a + k) 0) ≡ false
    hears-stops u k fk = (first-eight s a l w known g en ew (is_of sort.Raw) y k fy u fk).2

    pub hears-some : 1 ≤ y → (k m b c : ℕ) → First y k → Below y m → Begun z was m c → NoisyAt was k b → Hears n s i b (count + c) (a + k)
    hears-some u k m b c fk fm fc fb =
        let few = hears-first u k fk in
        let ek = fk (is_of sort.Raw) bytes eight.eight (fy bytes eight) in
        let em : m ≡ le_of (replicate k 0xff) = fm (is_of sort.Raw) bytes (fy bytes eight) ∙ ap (λ (j : ℕ). le_of (replicate j 0xff)) (sym ek) in
        let part : take k bytes ≡ take k (drop a s) = take-take k 8 (drop a s) (omega arith) in
        hears-on n s i before count a k b c x (omega arith) (first-eight s a l w known g en ew (is_of sort.Raw) y k fy u fk).0
        (fc line bytes k eight.eight (fz bytes eight) behind-line (omega arith) em ∙ ap (noises_of line) part)
        (fb line bytes eight.eight behind-line ∙ ap (λ (r : List ℕ). tick (noisy_after line r)) part)
