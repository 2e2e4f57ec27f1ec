-- How long the escaped form is, and how it grows byte by byte: the loops, and the wire form's bound, cite these. Assumes nothing.
use mathlib.Core.Path.{◌≡◌, refl}
use mathlib.Core.Bool.{Bool, true, false, cond}
use mathlib.Core.List.{List, [], ◌∷◌, ◌++◌, append_assoc, append-nil}
use Prim.Native.Nat.{ℕ, suc, ◌+◌, ◌*◌, ◌≤◌, ◌<◌}
use native.Mathlib.Numerals.{add-one}
use native.Mathlib.Omega.{arith}
use lib.Dec.{ltb}
use Rattle.std.specs.Prelude.{count_by, is_some, Some, None}
use Rattle.std.proofs.lemmas.List.Recursion.{is_count_by}
use lib.ListN.{length, get_or, take, drop, length-append, take-append-drop}
use lib.Seq.{take-suc, take_all}
use Rattle.escaping.specs.Escapes.{code_of, code_if, escaped_byte, escaped, sevens}
use Rattle.escaping.proofs.Laws.{escaped_byte-raw, escaped_byte-pair}

pub escaped-append : (xs ys : List ℕ) → escaped (xs ++ ys) ≡ escaped xs ++ escaped ys
unfolding escaped
escaped-append [] ys = refl
escaped-append (x ∷ xs) ys = rw (escaped-append xs ys, append_assoc)

pub length-escaped-append : (xs ys : List ℕ) → length (escaped (xs ++ ys)) ≡ length (escaped xs) + length (escaped ys)
length-escaped-append xs ys = rw (escaped-append, length-append)

-- a byte of the seven takes one byte more
pub length-escaped_byte : (b : ℕ) → length (escaped_byte b) ≡ 1 + cond (ltb (code_of b) 7) 1 0
unfolding escaped_byte
length-escaped_byte b = go (ltb (code_of b) 7)
  where
    go : (t : Bool) → length (cond t (0x7e ∷ code_of b ∷ []) (b ∷ [])) ≡ 1 + cond t 1 0
    go true = refl
    go false = refl

-- the exact length is the input's length plus the count of the seven bytes
pub length-escaped : (xs : List ℕ) → length (escaped xs) ≡ length xs + sevens xs
unfolding escaped sevens
length-escaped [] = refl
length-escaped (x ∷ xs) = rw (length-append, length-escaped_byte, length-escaped xs) (omega arith)

-- .. which is what a count of them finds
sevens-count : (xs : List ℕ) → sevens xs ≡ count_by (λ b. is_some (code_if b)) xs
unfolding sevens
sevens-count = is_count_by sevens (λ b. is_some (code_if b)) refl (λ x xs. go (ltb (code_of x) 7) (code_of x) (sevens xs))
  where
    go : (t : Bool) (c n : ℕ) → cond t 1 0 + n ≡ cond (is_some (cond t (Some c) None)) (1 + n) n
    go true c n = refl
    go false c n = omega arith

pub length-escaped-count : (xs : List ℕ) → length (escaped xs) ≡ length xs + count_by (λ b. is_some (code_if b)) xs
length-escaped-count xs = rw (length-escaped xs, sevens-count xs)

sevens-le : (xs : List ℕ) → sevens xs ≤ length xs
unfolding sevens
sevens-le [] = omega arith
sevens-le (x ∷ xs) = go (ltb (code_of x) 7) (sevens-le xs)
  where
    go : (t : Bool) → sevens xs ≤ length xs → cond t 1 0 + sevens xs ≤ suc (length xs)
    go true h = omega arith
    go false h = omega arith

-- at most twice the input's length
pub length-escaped-le : (xs : List ℕ) → length (escaped xs) ≤ 2 * length xs
length-escaped-le xs = omega (arith, length-escaped xs, sevens-le xs)

-- one byte more of the input
pub escaped-take : (xs : List ℕ) (i : ℕ) → i < length xs → escaped (take (i + 1) xs) ≡ escaped (take i xs) ++ escaped_byte (get_or xs i 0)
unfolding escaped
escaped-take xs i h = rw (add-one, take-suc xs i 0 h, escaped-append, append-nil)

-- .. which is one of the seven
pub escaped-take-pair : (xs : List ℕ) (i : ℕ) → i < length xs → code_of (get_or xs i 0) < 7 → escaped (take (i + 1) xs) ≡ escaped (take i xs) ++ (0x7e ∷ code_of (get_or xs i 0) ∷ [])
escaped-take-pair xs i h g = rw (escaped-take xs i h, escaped_byte-pair (get_or xs i 0) g)

-- .. or any other
pub escaped-take-raw : (xs : List ℕ) (i : ℕ) → i < length xs → 7 ≤ code_of (get_or xs i 0) → escaped (take (i + 1) xs) ≡ escaped (take i xs) ++ (get_or xs i 0 ∷ [])
escaped-take-raw xs i h g = rw (escaped-take xs i h, escaped_byte-raw (get_or xs i 0) g)

pub length-escaped-take-pair : (xs : List ℕ) (i : ℕ) → i < length xs → code_of (get_or xs i 0) < 7 → length (escaped (take (i + 1) xs)) ≡ length (escaped (take i xs)) + 2
length-escaped-take-pair xs i h g = rw (escaped-take-pair xs i h g, length-append)

pub length-escaped-take-raw : (xs : List ℕ) (i : ℕ) → i < length xs → 7 ≤ code_of (get_or xs i 0) → length (escaped (take (i + 1) xs)) ≡ length (escaped (take i xs)) + 1
length-escaped-take-raw xs i h g = rw (escaped-take-raw xs i h g, length-append)

pub escaped-take-end : (xs : List ℕ) (i : ℕ) → length xs ≤ i → escaped (take i xs) ≡ escaped xs
escaped-take-end xs i h = rw (take_all i xs h)

-- a part of the input takes no more room than the whole
pub length-escaped-take : (xs : List ℕ) (i : ℕ) → length (escaped (take i xs)) ≤ length (escaped xs)
length-escaped-take xs i =
    let e : length (escaped (take i xs ++ drop i xs)) ≡ length (escaped xs) = rw take-append-drop in
    omega (arith, length-escaped-append (take i xs) (drop i xs))
