-- Laws of the escapes and of what the byte after 7e means: unescape undoes escape. Assumes nothing.
use mathlib.Core.Path.{◌≡◌, refl, sym, ap}
use mathlib.Core.Bool.{Bool, true, false, cond}
use mathlib.Core.Logic.{◌↔◌}
use mathlib.Core.List.Memᴰ
use mathlib.Core.List.{List, [], ◌∷◌, ◌++◌, Memᴰ}
use mathlib.Core.Logic.{⊎_elim}
use Prim.Native.Nat.{ℕ, suc, ◌≤◌, ◌<◌}
use native.Mathlib.Nat.{le_of_suc-le-suc, not-suc-le-zero}
use native.Mathlib.Omega.{arith}
use lib.Dec.{ltb, eqb}
use Rattle.std.specs.Prelude.{Some, None}
use lib.ListN.{length, get_or}
use borrow.Author.Tests.{le-ltb, lt-ltb, ltb-true, ltb-false, eqb-true, eqb-false, ne_eqb}
use Rattle.laws.specs.Handed.{refused}
use Rattle.escaping.specs.Escapes.{escapes, index_in, code_of, code_if, unescaped_of, escaped_byte, escaped, unescaped, Paired, none, raw, pair, datum, opener, closer, neither, meaning}
use Rattle.escaping.specs.Handed.{unescape_meant, unescape_handed}

-- 00 to 06 are data after 7e
pub meaning-datum : (b : ℕ) → b < 7 → meaning b ≡ datum
unfolding meaning
meaning-datum b h = rw (lt-ltb b 7 h)

-- a code above 06 is refused
pub unescape_handed-above : (b : ℕ) → 6 < b → unescape_handed b ≡ refused 14
unfolding unescape_handed meaning
unescape_handed-above b h = rw (le-ltb b 7 h) (go (eqb b 7) (eqb b 8))
  where
    go : (x y : Bool) → unescape_meant (cond x opener (cond y closer neither)) b ≡ refused 14
    go true y = refl
    go false true = refl
    go false false = refl

-- a byte stands at its index
pub get_or-index_in : (xs : List ℕ) (b : ℕ) → index_in xs b < length xs → get_or xs (index_in xs b) 0 ≡ b
get_or-index_in [] b h = absurd (not-suc-le-zero h)
get_or-index_in (x ∷ xs) b h = go (eqb x b) refl (get_or-index_in xs b) h
  where
    go : (t : Bool) → eqb x b ≡ t → (index_in xs b < length xs → get_or xs (index_in xs b) 0 ≡ b) → cond t 0 (suc (index_in xs b)) < suc (length xs)
        → get_or (x ∷ xs) (cond t 0 (suc (index_in xs b))) 0 ≡ b
    go true e ih g = eqb-true x b e
    go false e ih g = ih (le_of_suc-le-suc g)

-- its index lies in a list exactly if it is in it
pub index_in-lt : (xs : List ℕ) (b : ℕ) → (index_in xs b < length xs) ↔ Memᴰ b xs
index_in-lt [] b = (λ h. absurd (not-suc-le-zero h), λ m. absurd (Memᴰ.not-nil m))
index_in-lt (x ∷ xs) b = go (eqb x b) refl (index_in-lt xs b)
  where
    go : (t : Bool) → eqb x b ≡ t → (index_in xs b < length xs) ↔ Memᴰ b xs → (cond t 0 (suc (index_in xs b)) < suc (length xs)) ↔ Memᴰ b (x ∷ xs)
    go true e ih = (λ h. Memᴰ.head (sym (eqb-true x b e)), λ m. omega arith)
    go false e ih = (
      λ h. Memᴰ.tail (ih.0 (le_of_suc-le-suc h)),
      λ m. ⊎_elim (λ p. absurd (eqb-false x b e (sym p))) (λ n. let l : index_in xs b < length xs = ih.1 n in omega arith) (Memᴰ.cases_cons m),
    )

-- a byte has a code below 7 exactly if it is one of the seven
pub code_of-lt : (b : ℕ) → (code_of b < 7) ↔ Memᴰ b escapes
unfolding code_of
code_of-lt b = index_in-lt escapes b

-- 7e and the code of a byte stand for that byte
pub unescaped_of-code_of : (b : ℕ) → code_of b < 7 → unescaped_of (code_of b) ≡ b
unfolding code_of
unescaped_of-code_of b h = get_or-index_in escapes b h

-- what a code that is found says of its byte, and what none says
pub code_if-some : (b c : ℕ) → code_if b ≡ Some c → (code_of b < 7) × (code_of b ≡ c)
code_if-some b c e = go (ltb (code_of b) 7) refl e
  where
    go : (t : Bool) → ltb (code_of b) 7 ≡ t → cond t (Some (code_of b)) None ≡ Some c → (code_of b < 7) × (code_of b ≡ c)
    go true p q = (ltb-true (code_of b) 7 p, cc)
    go false p q = cc

pub code_if-none : (b : ℕ) → code_if b ≡ None → 7 ≤ code_of b
code_if-none b e = go (ltb (code_of b) 7) refl e
  where
    go : (t : Bool) → ltb (code_of b) 7 ≡ t → cond t (Some (code_of b)) None ≡ None → 7 ≤ code_of b
    go true p q = cc
    go false p q = ltb-false (code_of b) 7 p

-- none of the seven
pub code_of-other : (b : ℕ) → (b ≡ 0x7e → ⊥) → (b ≡ 0x24 → ⊥) → (b ≡ 0x23 → ⊥) → (b ≡ 0x25 → ⊥) → (b ≡ 0xa4 → ⊥) → (b ≡ 0xa3 → ⊥) → (b ≡ 0xa5 → ⊥) → code_of b ≡ 7
unfolding code_of
code_of-other b h₀ h₁ h₂ h₃ h₄ h₅ h₆ =
    rw (
      ne_eqb 0x7e b (λ e. h₀ (sym e)),
      ne_eqb 0x24 b (λ e. h₁ (sym e)),
      ne_eqb 0x23 b (λ e. h₂ (sym e)),
      ne_eqb 0x25 b (λ e. h₃ (sym e)),
      ne_eqb 0xa4 b (λ e. h₄ (sym e)),
      ne_eqb 0xa3 b (λ e. h₅ (sym e)),
      ne_eqb 0xa5 b (λ e. h₆ (sym e)),
    )

-- what a byte is on the wire: itself, if it is no 7e, or 7e and a code that stands for it
pub data OnTheWire (b : ℕ) : List ℕ → Type 0 where
  itself : code_of b ≡ 7 → (b ≡ 0x7e → ⊥) → OnTheWire b (b ∷ [])
  coded : {code : ℕ} → code < 7 → meaning code ≡ datum → unescaped_of code ≡ b → OnTheWire b (0x7e ∷ code ∷ [])

pub escaped_byte-raw : (b : ℕ) → 7 ≤ code_of b → escaped_byte b ≡ b ∷ []
unfolding escaped_byte
escaped_byte-raw b h = rw (le-ltb (code_of b) 7 h)

pub escaped_byte-pair : (b : ℕ) → code_of b < 7 → escaped_byte b ≡ 0x7e ∷ code_of b ∷ []
unfolding escaped_byte
escaped_byte-pair b h = rw (lt-ltb (code_of b) 7 h)

pub code_of-le : (b : ℕ) → code_of b ≤ 7
unfolding code_of
code_of-le b = le escapes b
  where
    le : (xs : List ℕ) (b : ℕ) → index_in xs b ≤ length xs
    le [] b = omega arith
    le (x ∷ xs) b = go (eqb x b) (le xs b)
      where
        go : (t : Bool) → index_in xs b ≤ length xs → cond t 0 (suc (index_in xs b)) ≤ suc (length xs)
        go true h = omega arith
        go false h = omega arith

not-7e : (b : ℕ) → 7 ≤ code_of b → b ≡ 0x7e → ⊥
unfolding code_of
not-7e b h e = let z : code_of b ≡ 0 = rw e in omega arith

-- the read-back cites this
pub escaped_byte-on : (b : ℕ) → OnTheWire b (escaped_byte b)
unfolding escaped_byte
escaped_byte-on b = go (ltb (code_of b) 7) refl
  where
    go : (t : Bool) → ltb (code_of b) 7 ≡ t → OnTheWire b (cond t (0x7e ∷ code_of b ∷ []) (b ∷ []))
    go true e = let h : code_of b < 7 = ltb-true (code_of b) 7 e in coded h (meaning-datum (code_of b) h) (unescaped_of-code_of b h)
    go false e = let h : 7 ≤ code_of b = ltb-false (code_of b) 7 e in itself (omega (arith, code_of-le b)) (not-7e b h)

-- unescape undoes escape, for every list
pub unescape-escape : (bs : List ℕ) → unescaped (escaped bs) ≡ bs
unfolding escaped unescaped
unescape-escape [] = refl
unescape-escape (b ∷ bs) = go (escaped_byte b) (escaped_byte-on b) (escaped bs) (unescape-escape bs)
  where
    go : (w : List ℕ) → OnTheWire b w → (rest : List ℕ) → unescaped rest ≡ bs → unescaped (w ++ rest) ≡ b ∷ bs
    go w (itself h n) [] e = ap (λ (l : List ℕ). b ∷ l) e
    go w (itself h n) (c ∷ rest) e = rw (ne_eqb b 0x7e n) (ap (λ (l : List ℕ). b ∷ l) e)
    go w (coded h m u) rest e = rw (u, e)

-- the escaped form holds a 7e only as the first half of a pair
pub escaped-paired : (bs : List ℕ) → Paired (escaped bs)
unfolding escaped
escaped-paired [] = none
escaped-paired (b ∷ bs) = go (escaped_byte b) (escaped_byte-on b) (escaped bs) (escaped-paired bs)
  where
    go : (w : List ℕ) → OnTheWire b w → (rest : List ℕ) → Paired rest → Paired (w ++ rest)
    go w (itself h n) rest p = raw n p
    go w (coded h m u) rest p = pair h p
