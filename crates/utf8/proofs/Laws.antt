-- The pass accepts what the grammar divides into characters, and nothing else. Assumes nothing.
use mathlib.Core.Path.{◌≡◌, refl, sym}
use mathlib.Core.Logic.{◌↔◌}
use Prim.Native.Nat.{ℕ, zero, suc, ◌-◌, ◌≤◌, ◌<◌}
use mathlib.Core.Bool.{Bool, true, false, cond}
use mathlib.Core.List.{List, [], ◌∷◌}
use native.Mathlib.Omega.{arith}
use borrow.Author.Rules.{rules}
use lib.Dec.{eqb, ltb, eqb-suc-zero}
use lib.ListN.{length, get_or, drop, drop_of_length-le}
use lib.Seq.{drop-cons}
use borrow.Author.Tests.{eqb-true, ltb-true, ltb-false, lt-ltb, le-ltb, eq-eqb, ne_eqb}
use Rattle.std.specs.Prelude.{Option, Some, None}
use Rattle.std.specs.Option.{option_map_or}
use Rattle.utf8.specs.declared.Want.{Want}
use Rattle.utf8.specs.Utf8.{Utf8, none, utf8_1, utf8_2, utf8_3_e0, utf8_3_e1, utf8_3_ed, utf8_3_ee, utf8_4_f0, utf8_4_f1, utf8_4_f4, Within, Tail, Text}
use Rattle.utf8.specs.Scan.{want, between, lead_of, step_of, passes, is_utf8, is_text}

ruleset tests = (rules, lt-ltb, le-ltb, eq-eqb, ne_eqb)

-- what must follow
abbrev Rest : ℕ → ℕ → ℕ → List ℕ → Type 0
Rest zero lo hi s = Utf8 s
Rest (suc k) lo hi [] = ⊥
Rest (suc k) lo hi (b ∷ s) = Within lo hi b × Rest k 0x80 0xbf s

abbrev Follows : List ℕ → Option Want → Type 0
Follows s None = ⊥
Follows s (Some w) = Rest w.left w.lo w.hi s

cut : (P : Option Want → Type 0) {x y : Option Want} (m n : ℕ) → (m < n → P x) → (n ≤ m → P y) → P (cond (ltb m n) x y)
cut P {x} {y} m n f g = go (ltb m n) refl
  where
    go : (t : Bool) → ltb m n ≡ t → P (cond t x y)
    go true e = f (ltb-true m n e)
    go false e = g (ltb-false m n e)

module _ (a : ℕ) where
  with1 : (lo hi : ℕ) (s : List ℕ) → ((b : ℕ) (t : List ℕ) → Within lo hi b → Utf8 t → Utf8 (a ∷ b ∷ t)) → Rest 1 lo hi s → Utf8 (a ∷ s)
  with1 lo hi [] f r = absurd r
  with1 lo hi (b ∷ t) f r = f b t r.0 r.1

  with2 : (lo hi : ℕ) (s : List ℕ) → ((b c : ℕ) (t : List ℕ) → Within lo hi b → Tail c → Utf8 t → Utf8 (a ∷ b ∷ c ∷ t)) → Rest 2 lo hi s → Utf8 (a ∷ s)
  with2 lo hi [] f r = absurd r
  with2 lo hi (b ∷ []) f r = absurd r.1
  with2 lo hi (b ∷ c ∷ t) f r = f b c t r.0 r.1.0 r.1.1

  with3 : (lo hi : ℕ) (s : List ℕ) → ((b c d : ℕ) (t : List ℕ) → Within lo hi b → Tail c → Tail d → Utf8 t → Utf8 (a ∷ b ∷ c ∷ d ∷ t)) → Rest 3 lo hi s → Utf8 (a ∷ s)
  with3 lo hi [] f r = absurd r
  with3 lo hi (b ∷ []) f r = absurd r.1
  with3 lo hi (b ∷ c ∷ []) f r = absurd r.1.1
  with3 lo hi (b ∷ c ∷ d ∷ t) f r = f b c d t r.0 r.1.0 r.1.1.0 r.1.1.1

-- a character from its first byte and what must follow
build : (a : ℕ) (s : List ℕ) → Follows s (lead_of a) → Utf8 (a ∷ s)
unfolding lead_of
build a s =
    let P : Option Want → Type 0 = λ w. Follows s w → Utf8 (a ∷ s) in
    cut P a 0x80 (λ h r. utf8_1 (omega arith) r) λ l.
    cut P a 0xc2 (λ h r. absurd r) λ l.
    cut P a 0xe0 (λ h. with1 a _ _ s (λ b t. utf8_2 (omega arith))) λ l.
    cut P a 0xe1 (λ h. with2 a _ _ s (λ b c t. utf8_3_e0 (omega arith))) λ l.
    cut P a 0xed (λ h. with2 a _ _ s (λ b c t. utf8_3_e1 (omega arith))) λ l.
    cut P a 0xee (λ h. with2 a _ _ s (λ b c t. utf8_3_ed (omega arith))) λ l.
    cut P a 0xf0 (λ h. with2 a _ _ s (λ b c t. utf8_3_ee (omega arith))) λ l.
    cut P a 0xf1 (λ h. with3 a _ _ s (λ b c d t. utf8_4_f0 (omega arith))) λ l.
    cut P a 0xf4 (λ h. with3 a _ _ s (λ b c d t. utf8_4_f1 (omega arith))) λ l.
    cut P a 0xf5 (λ h. with3 a _ _ s (λ b c d t. utf8_4_f4 (omega arith))) λ l r. absurd r

one_less : (k : ℕ) → suc k - 1 ≡ k
one_less k = omega arith

onward : (s : List ℕ) → ((w : Want) → passes w s ≡ true → Rest w.left w.lo w.hi s) → (w : Option Want) → option_map_or (λ v. passes v s) w false ≡ true → Follows s w
onward s f None h = cc
onward s f (Some w) h = f w h

sound : (k lo hi : ℕ) (s : List ℕ) → passes (want k lo hi) s ≡ true → Rest k lo hi s
unfolding passes step_of
sound zero lo hi [] h = none
sound (suc k) lo hi [] h = omega (arith, eqb-true (suc k) 0 h)
sound zero lo hi (b ∷ s) h = build b s (onward s (λ w. sound w.left w.lo w.hi s) (lead_of b) h)
sound (suc k) lo hi (b ∷ s) h =
    let P : Option Want → Type 0 = λ w. option_map_or (λ v. passes v s) w false ≡ true → Within lo hi b × Rest k 0x80 0xbf s in
    cut P b lo (λ l h. cc) (λ l. cut P hi b (λ g h. cc) (λ g h. ((l, g), sound k 0x80 0xbf s h)))
    (rw (eqb-suc-zero k, one_less) at h)

eats : (k lo hi b : ℕ) → Within lo hi b → step_of (want (suc k) lo hi) b ≡ Some (want k 0x80 0xbf)
unfolding step_of
eats k lo hi b h = rw (eqb-suc-zero k, le-ltb b lo h.0, le-ltb hi b h.1, one_less)

opens : (a : ℕ) (w : Want) → lead_of a ≡ Some w → step_of between a ≡ Some w
unfolding step_of
opens a w h = h

complete : {s : List ℕ} → Utf8 s → passes between s ≡ true
unfolding passes lead_of
complete none = refl
complete (utf8_1 {a} h r) = rw (opens a between (rw (lt-ltb a 0x80 (omega arith)))) (complete r)
complete (utf8_2 {a} {b} h i r) = rw (opens a (want 1 0x80 0xbf) (rw (le-ltb a 0x80 (omega arith), le-ltb a 0xc2 (omega arith), lt-ltb a 0xe0 (omega arith))), eats 0 _ _ b i) (complete r)
complete (utf8_3_e0 {a} {b} {c} h i j r) = rw (opens a (want 2 0xa0 0xbf) (rw (le-ltb a 0x80 (omega arith), le-ltb a 0xc2 (omega arith), le-ltb a 0xe0 (omega arith), lt-ltb a 0xe1 (omega arith))), eats 1 _ _ b i, eats 0 _ _ c j) (complete r)
complete (utf8_3_e1 {a} {b} {c} h i j r) = rw (opens a (want 2 0x80 0xbf) (rw (le-ltb a 0x80 (omega arith), le-ltb a 0xc2 (omega arith), le-ltb a 0xe0 (omega arith), le-ltb a 0xe1 (omega arith), lt-ltb a 0xed (omega arith))), eats 1 _ _ b i, eats 0 _ _ c j) (complete r)
complete (utf8_3_ed {a} {b} {c} h i j r) = rw (opens a (want 2 0x80 0x9f) (rw (le-ltb a 0x80 (omega arith), le-ltb a 0xc2 (omega arith), le-ltb a 0xe0 (omega arith), le-ltb a 0xe1 (omega arith), le-ltb a 0xed (omega arith), lt-ltb a 0xee (omega arith))), eats 1 _ _ b i, eats 0 _ _ c j) (complete r)
complete (utf8_3_ee {a} {b} {c} h i j r) = rw (opens a (want 2 0x80 0xbf) (rw (le-ltb a 0x80 (omega arith), le-ltb a 0xc2 (omega arith), le-ltb a 0xe0 (omega arith), le-ltb a 0xe1 (omega arith), le-ltb a 0xed (omega arith), le-ltb a 0xee (omega arith), lt-ltb a 0xf0 (omega arith))), eats 1 _ _ b i, eats 0 _ _ c j) (complete r)
complete (utf8_4_f0 {a} {b} {c} {d} h i j k r) = rw (opens a (want 3 0x90 0xbf) (rw (le-ltb a 0x80 (omega arith), le-ltb a 0xc2 (omega arith), le-ltb a 0xe0 (omega arith), le-ltb a 0xe1 (omega arith), le-ltb a 0xed (omega arith), le-ltb a 0xee (omega arith), le-ltb a 0xf0 (omega arith), lt-ltb a 0xf1 (omega arith))), eats 2 _ _ b i, eats 1 _ _ c j, eats 0 _ _ d k) (complete r)
complete (utf8_4_f1 {a} {b} {c} {d} h i j k r) = rw (opens a (want 3 0x80 0xbf) (rw (le-ltb a 0x80 (omega arith), le-ltb a 0xc2 (omega arith), le-ltb a 0xe0 (omega arith), le-ltb a 0xe1 (omega arith), le-ltb a 0xed (omega arith), le-ltb a 0xee (omega arith), le-ltb a 0xf0 (omega arith), le-ltb a 0xf1 (omega arith), lt-ltb a 0xf4 (omega arith))), eats 2 _ _ b i, eats 1 _ _ c j, eats 0 _ _ d k) (complete r)
complete (utf8_4_f4 {a} {b} {c} {d} h i j k r) = rw (opens a (want 3 0x80 0x8f) (rw (le-ltb a 0x80 (omega arith), le-ltb a 0xc2 (omega arith), le-ltb a 0xe0 (omega arith), le-ltb a 0xe1 (omega arith), le-ltb a 0xed (omega arith), le-ltb a 0xee (omega arith), le-ltb a 0xf0 (omega arith), le-ltb a 0xf1 (omega arith), le-ltb a 0xf4 (omega arith), lt-ltb a 0xf5 (omega arith))), eats 2 _ _ b i, eats 1 _ _ c j, eats 0 _ _ d k) (complete r)

pub passes-utf8 : (s : List ℕ) → (passes between s ≡ true) ↔ Utf8 s
passes-utf8 s = (sound 0 0x80 0xbf s, complete)

-- the loop's step and end
pub passes-cons : (w : Want) (s : List ℕ) (i : ℕ) → i < length s → passes w (drop i s) ≡ option_map_or (λ v. passes v (drop (suc i) s)) (step_of w (get_or s i 0)) false
unfolding passes
passes-cons w s i h = rw (drop-cons s i 0)

pub passes-end : (w : Want) (s : List ℕ) (i : ℕ) → length s ≤ i → passes w (drop i s) ≡ eqb w.left 0
unfolding passes
passes-end w s i h = rw (drop_of_length-le s h)

-- the test as a Bool is true of UTF-8 and of nothing else: a definition that has to go by cases cites `is_utf8`, and this
pub is_utf8-utf8 : (s : List ℕ) → (is_utf8 s ≡ true) ↔ Utf8 s
unfolding is_utf8
is_utf8-utf8 s = passes-utf8 s

-- the test for a text is true of non-empty UTF-8 and of nothing else
pub is_text-text : (s : List ℕ) → (is_text s ≡ true) ↔ Text s
is_text-text [] = (λ e. let z : ◌≡◌ {A = ℕ} 0 1 = cc in absurd (omega arith), λ p. absurd (omega (arith, p.0)))
is_text-text (b ∷ s) =
    let e : eqb (length (b ∷ s)) 0 ≡ false = eqb-suc-zero (length s) in
    rw e ((λ h. (omega arith, (is_utf8-utf8 (b ∷ s)).0 h)), λ p. (is_utf8-utf8 (b ∷ s)).1 p.1)

-- two answers that hold of the same are equal: the contracts of `is_utf8` and `is_text` determine their answers by this, and give those two Bools
pub told-once : {P : Type 0} (q r : Bool) → (q ≡ true) ↔ P → (r ≡ true) ↔ P → q ≡ r
told-once true true a b = refl
told-once false false a b = refl
told-once true false a b = sym (b.1 (a.0 refl))
told-once false true a b = a.1 (b.0 refl)

-- what `is_text` answers, as a Bool
pub is-text-told : (s : List ℕ) (r : Bool) → (r ≡ true) ↔ Text s → r ≡ is_text s
is-text-told s r e = told-once r (is_text s) e (is_text-text s)
