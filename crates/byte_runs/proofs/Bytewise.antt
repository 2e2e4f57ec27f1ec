-- What is done to a word is done to each of its eight bytes, and what holds of each of the 256 bytes is computed. Assumes nothing.
use mathlib.Core.Path.{◌≡◌, refl, sym, ap, ap₂, ◌∙◌}
use mathlib.Core.Bool.{Bool, true, false, ◌&&◌}
use mathlib.Core.List.{List, [], ◌∷◌, map}
use Prim.Native.Nat.{ℕ, zero, suc, ◌+◌, ◌*◌, ◌<◌}
use native.Mathlib.Omega.{arith}
use borrow.Author.Tests.{eqb-true, eqb-false, ltb-true}
use lib.Dec.{T, eqb, ltb}
use lib.Bits.{bit_and, bit_or, bit_xor, and_block, or_block, xor_block}
use lib.ListN.{length, replicate}
use Rattle.laws.specs.Bytes.{Bytes}
use Rattle.laws.proofs.Table.{and_left, and_right}
use Rattle.laws.proofs.Cases.{by}
use Rattle.words.specs.Words.{le_of}
use Rattle.byte_runs.specs.Marks.{between_of}

-- a test passed by each number below a bound, from one that antt computes
abbrev pub below : ℕ → (ℕ → Bool) → Bool
below zero p = true
below (suc n) p = p n && below n p

below_at : (n : ℕ) (p : ℕ → Bool) → T (below n p) → (k : ℕ) → k < n → T (p k)
below_at zero p t k h = absurd (omega arith)
below_at (suc n) p t k h = by (eqb k n) (λ e. rw (eqb-true k n e) (and_left (p n) (below n p) t)) (λ e. below_at n p (and_right (p n) (below n p) t) k (omega (arith, eqb-false k n e)))

truth : (b : Bool) → T b → b ≡ true
truth true t = refl
truth false t = absurd t

-- two functions agree below a bound, and one gives bytes
pub below-is : (n : ℕ) (f g : ℕ → ℕ) → T (below n (λ b. eqb (f b) (g b))) → (b : ℕ) → b < n → f b ≡ g b
below-is n f g t b h = eqb-true (f b) (g b) (truth (eqb (f b) (g b)) (below_at n (λ b. eqb (f b) (g b)) t b h))

pub gives-bytes : (f : ℕ → ℕ) → T (below 256 (λ b. ltb (f b) 256)) → (b : ℕ) → b < 256 → f b < 256
gives-bytes f t b h = ltb-true (f b) 256 (truth (ltb (f b) 256) (below_at 256 (λ b. ltb (f b) 256) t b h))

abbrev pub Byte : (ℕ → ℕ) → Type 0
Byte f = (b : ℕ) → b < 256 → f b < 256

-- an operation that goes block by block goes byte by byte
module _ (op : ℕ → ℕ → ℕ) (nil : op 0 0 ≡ 0) (block : (a b r s : ℕ) → r < 256 → s < 256 → op (a * 256 + r) (b * 256 + s) ≡ op a b * 256 + op r s) where
  wise : (f g : ℕ → ℕ) → Byte f → Byte g → (bs : List ℕ) → Bytes bs → op (le_of (map f bs)) (le_of (map g bs)) ≡ le_of (map (λ b. op (f b) (g b)) bs)
  wise f g hf hg [] h = nil
  wise f g hf hg (b ∷ bs) h =
      block (le_of (map f bs)) (le_of (map g bs)) (f b) (g b) (hf b (h 0)) (hg b (h 0))
      ∙ ap (λ (n : ℕ). n * 256 + op (f b) (g b)) (wise f g hf hg bs (λ i. h (suc i)))

sums : (f g : ℕ → ℕ) (bs : List ℕ) → le_of (map f bs) + le_of (map g bs) ≡ le_of (map (λ b. f b + g b) bs)
sums f g [] = refl
sums f g (b ∷ bs) = regroup (le_of (map f bs)) (le_of (map g bs)) (f b) (g b) ∙ ap (λ (n : ℕ). n * 256 + (f b + g b)) (sums f g bs)
  where
    regroup : (x y r s : ℕ) → x * 256 + r + (y * 256 + s) ≡ (x + y) * 256 + (r + s)
    regroup x y r s = omega arith

alike : (f g : ℕ → ℕ) → ((b : ℕ) → b < 256 → f b ≡ g b) → (bs : List ℕ) → Bytes bs → le_of (map f bs) ≡ le_of (map g bs)
alike f g e [] h = refl
alike f g e (b ∷ bs) h = ap₂ (λ (x y : ℕ). x * 256 + y) (alike f g e bs (λ i. h (suc i))) (e b (h 0))

constant : (c : ℕ) (bs : List ℕ) → le_of (replicate (length bs) c) ≡ le_of (map (λ b. c) bs)
constant c [] = refl
constant c (b ∷ bs) = ap (λ (n : ℕ). n * 256 + c) (constant c bs)

themselves : (bs : List ℕ) → le_of bs ≡ le_of (map (λ b. b) bs)
themselves [] = refl
themselves (b ∷ bs) = ap (λ (n : ℕ). n * 256 + b) (themselves bs)

-- a byte's lower seven bits, and so many more
abbrev pub raised_by : ℕ → ℕ → ℕ
raised_by n b = bit_and b 0x7f + n

-- words of eight bytes each, all made of the same eight
module _ (bs : List ℕ) (h : Bytes bs) (e : length bs ≡ 8) where
  abbrev pub Is : (ℕ → ℕ) → ℕ → Type 0
  Is f x = x ≡ le_of (map f bs)

  pub is_all : (x c : ℕ) → x ≡ le_of (replicate 8 c) → Is (λ b. c) x
  is_all x c q = q ∙ ap (λ (n : ℕ). le_of (replicate n c)) (sym e) ∙ constant c bs

  pub is_word : (x : ℕ) → x ≡ le_of bs → Is (λ b. b) x
  is_word x q = q ∙ themselves bs

  pub is-xor : (x y : ℕ) (f g : ℕ → ℕ) → Byte f → Byte g → Is f x → Is g y → Is (λ b. bit_xor (f b) (g b)) (bit_xor x y)
  is-xor x y f g hf hg p q = ap₂ bit_xor p q ∙ wise bit_xor refl (xor_block 8) f g hf hg bs h

  pub is-and : (x y : ℕ) (f g : ℕ → ℕ) → Byte f → Byte g → Is f x → Is g y → Is (λ b. bit_and (f b) (g b)) (bit_and x y)
  is-and x y f g hf hg p q = ap₂ bit_and p q ∙ wise bit_and refl (and_block 8) f g hf hg bs h

  pub is-or : (x y : ℕ) (f g : ℕ → ℕ) → Byte f → Byte g → Is f x → Is g y → Is (λ b. bit_or (f b) (g b)) (bit_or x y)
  is-or x y f g hf hg p q = ap₂ bit_or p q ∙ wise bit_or refl (or_block 8) f g hf hg bs h

  pub is_sum : (x y : ℕ) (f g : ℕ → ℕ) → Is f x → Is g y → Is (λ b. f b + g b) (x + y)
  is_sum x y f g p q = ap₂ (λ (m n : ℕ). m + n) p q ∙ sums f g bs

  pub is_same : (x : ℕ) (f g : ℕ → ℕ) → ((b : ℕ) → b < 256 → f b ≡ g b) → Is f x → Is g x
  is_same x f g q p = p ∙ alike f g q bs h

  -- bytes whose lower seven bits lie between two bounds, each bound as what it is less than 80; what is done to a byte gives a byte at each step
  pub is-between :
      (w a b l m : ℕ) → Byte (raised_by l) → Byte (raised_by m) → Byte (λ x. bit_xor (raised_by m x) 0xff) → Byte (λ x. bit_and (raised_by l x) (bit_xor (raised_by m x) 0xff)) →
      Is (λ x. x) w → a ≡ le_of (replicate 8 l) → b ≡ le_of (replicate 8 m) → Is (λ x. bit_and (bit_and (raised_by l x) (bit_xor (raised_by m x) 0xff)) 0x80) (between_of w a b)
  is-between w a b l m hf hg hx ha word ea eb =
      let x = bit_and w 0x7f7f7f7f7f7f7f7f in
      let is_x : Is (λ b. bit_and b 0x7f) x = is-and w 0x7f7f7f7f7f7f7f7f (λ b. b) (λ b. 0x7f) (λ b h. h) (gives-bytes (λ b. 0x7f) tt) word (is_all 0x7f7f7f7f7f7f7f7f 0x7f refl) in
      let is_f : Is (raised_by l) (x + a) = is_sum x a (λ b. bit_and b 0x7f) (λ b. l) is_x (is_all a l ea) in
      let is-g : Is (raised_by m) (x + b) = is_sum x b (λ b. bit_and b 0x7f) (λ b. m) is_x (is_all b m eb) in
      let is-n : Is (λ b. bit_xor (raised_by m b) 0xff) (bit_xor (x + b) 0xffffffffffffffff) = is-xor (x + b) 0xffffffffffffffff (raised_by m) (λ b. 0xff) hg (gives-bytes (λ b. 0xff) tt) is-g (is_all 0xffffffffffffffff 0xff refl) in
      let is-o : Is (λ b. bit_and (raised_by l b) (bit_xor (raised_by m b) 0xff)) (bit_and (x + a) (bit_xor (x + b) 0xffffffffffffffff)) = is-and (x + a) (bit_xor (x + b) 0xffffffffffffffff) (raised_by l) (λ b. bit_xor (raised_by m b) 0xff) hf hx is_f is-n in
      is-and (bit_and (x + a) (bit_xor (x + b) 0xffffffffffffffff)) 0x8080808080808080 (λ b. bit_and (raised_by l b) (bit_xor (raised_by m b) 0xff)) (λ b. 0x80) ha (gives-bytes (λ b. 0x80) tt) is-o (is_all 0x8080808080808080 0x80 refl)
