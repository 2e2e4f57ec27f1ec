-- Two bytes spell the number that they came from, both ways. Assumes nothing.
use mathlib.Core.Path.{◌≡◌}
use mathlib.Core.List.{List, [], ◌∷◌, ◌++◌}
use Prim.Native.Nat.{ℕ, zero, suc, ◌+◌, ◌/◌, ◌%◌, ◌<◌, ◌^◌}
use native.Mathlib.Nat.{div-add-mod'}
use native.Mathlib.Omega.{arith}
use lib.ListN.{take, drop}
use lib.Seq.{get_or-drop}
use Rattle.laws.specs.Bytes.{Bytes, be16, le16, of16}

-- address, type, status, packet number and record length cite these
pub of16-be16 : (n : ℕ) → of16 (n / 256) (n % 256) ≡ n
of16-be16 n = div-add-mod' n 256

-- lists of bytes: the wire form and the records cite these
pub bytes-nil : Bytes []
bytes-nil i = omega arith

pub bytes-cons : (b : ℕ) (xs : List ℕ) → b < 256 → Bytes xs → Bytes (b ∷ xs)
bytes-cons b xs h g zero = h
bytes-cons b xs h g (suc i) = g i

pub bytes-append : (xs ys : List ℕ) → Bytes xs → Bytes ys → Bytes (xs ++ ys)
bytes-append [] ys h g = g
bytes-append (x ∷ xs) ys h g = bytes-cons x (xs ++ ys) (h 0) (bytes-append xs ys (λ i. h (suc i)) g)

pub bytes-be16 : (n : ℕ) → n < 2 ^ 16 → Bytes (be16 n)
bytes-be16 n h = bytes-cons (n / 256) (n % 256 ∷ []) (omega arith) (bytes-cons (n % 256) [] (omega arith) bytes-nil)

pub bytes-le16 : (n : ℕ) → n < 2 ^ 16 → Bytes (le16 n)
bytes-le16 n h = bytes-cons (n % 256) (n / 256 ∷ []) (omega arith) (bytes-cons (n / 256) [] (omega arith) bytes-nil)

pub bytes_drop : (n : ℕ) (xs : List ℕ) → Bytes xs → Bytes (drop n xs)
bytes_drop n xs h i = rw get_or-drop (h (n + i))

pub bytes_take : (n : ℕ) (xs : List ℕ) → Bytes xs → Bytes (take n xs)
bytes_take zero xs h i = omega arith
bytes_take (suc n) [] h i = omega arith
bytes_take (suc n) (x ∷ xs) h i = bytes-cons x (take n xs) (h 0) (bytes_take n xs (λ j. h (suc j))) i
