-- What a turn of the writing loop lays over the buffer. Assumes nothing.
use mathlib.Core.Path.{◌≡◌, refl, sym, ap, ◌∙◌}
use mathlib.Core.Bool.{true}
use mathlib.Core.List.{List, [], ◌∷◌, ◌++◌, append_assoc, append-nil}
use Prim.Native.Nat.{ℕ, zero, suc, ◌+◌, ◌-◌, ◌≤◌, ◌<◌}
use native.Mathlib.Nat.{add-zero}
use native.Mathlib.Numerals.{add-one}
use native.Mathlib.Omega.{arith}
use lib.ListN.{length, get_or, take, drop, set, length-append, length-drop, length-set}
use lib.Seq.{paste, length-paste, set_split, append_snoc, take-suc, get_or-drop, length-take-le, take-length}
use Rattle.laws.specs.Bytes.{laid_over}
use Rattle.laws.proofs.Lay.{laid_over-paste, paste-append}
use Rattle.byte_runs.specs.Runs.{is_of, lead, All}
use Rattle.byte_runs.specs.declared.Sort.TheVariants as sort
use Rattle.laws.proofs.Cases.{never}
use Rattle.byte_runs.proofs.Laws.{copy-inside, copy-all}
use Rattle.escaping.specs.Escapes.{code_of, escaped_byte, escaped}
use Rattle.escaping.proofs.Laws.{code_of-other}
use Rattle.escaping.proofs.Lengths.{escaped-take, escaped-take-raw, escaped-take-end, length-escaped-take}

-- one byte stored, and two
pub paste-one : (d : List ℕ) (k a : ℕ) → k < length d → set d k a ≡ paste d k (a ∷ []) 1
paste-one d k a h = rw (add-one k, append_snoc (take k d) a (drop (suc k) d)) (set_split d k a h)

pub paste-two : (d : List ℕ) (k a b : ℕ) → k + 1 < length d → set (set d k a) (k + 1) b ≡ paste d k (a ∷ b ∷ []) 2
paste-two d k a b h =
    rw (paste-one (set d k a) (k + 1) b (simp length-set (omega arith)), paste-one d k a (omega arith)) (paste-append d k (a ∷ []) (b ∷ []) (omega arith))

-- a byte that stands for itself on the wire is none of the seven
plain_code : (b : ℕ) → is_of sort.Plain b ≡ true → code_of b ≡ 7
unfolding is_of
plain_code b h =
    code_of-other b (λ e. never (rw e at h)) (λ e. never (rw e at h)) (λ e. never (rw e at h)) (λ e. never (rw e at h)) (λ e. never (rw e at h)) (λ e. never (rw e at h)) (λ e. never (rw e at h))

-- a run of such bytes is its own escaped form
escaped-run : (xs : List ℕ) (i n : ℕ) → i + n ≤ length xs → All (is_of sort.Plain) xs i n → escaped (take (i + n) xs) ≡ escaped (take i xs) ++ take n (drop i xs)
escaped-run xs i zero h f = rw (add-zero i) (sym (append-nil (escaped (take i xs))))
escaped-run xs i (suc n) h f =
    let w = escaped (take i xs) in
    let e : i + suc n ≡ i + n + 1 = omega arith in
    let here : i + n < length xs = omega arith in
    let code : 7 ≤ code_of (get_or xs (i + n) 0) = omega (arith, plain_code (get_or xs (i + n) 0) (f n (omega arith))) in
    let more : take (suc n) (drop i xs) ≡ take n (drop i xs) ++ (get_or xs (i + n) 0 ∷ []) =
    take-suc (drop i xs) n 0 (simp length-drop (omega arith)) ∙ ap (λ (b : ℕ). take n (drop i xs) ++ (b ∷ [])) (get_or-drop i xs n 0)
    in
    rw (e, escaped-take-raw xs (i + n) here code, escaped-run xs i n (omega arith) (λ k u. f k (omega arith)), more)
    (append_assoc w (take n (drop i xs)) (get_or xs (i + n) 0 ∷ []))

-- the escaped form of the first i bytes, k long, is laid over the buffer
pub record Laid (xs out next : List ℕ) (i k : ℕ) : Type 0 where
  pub inside : i ≤ length xs
  pub sized : length next ≡ length out
  pub long : k ≡ length (escaped (take i xs))
  pub bytes : next ≡ laid_over (escaped (take i xs)) out

module _ (xs out : List ℕ) (fits : length (escaped xs) ≤ length out) where
  pub laid_none : Laid xs out out 0 0
  unfolding escaped
  laid_none = record { inside = omega arith; sized = refl; long = refl; bytes = refl }

  pub laid-all : (next : List ℕ) (i k : ℕ) → length xs ≤ i → Laid xs out next i k → (k ≡ length (escaped xs)) × (next ≡ laid_over (escaped xs) out)
  laid-all next i k h l =
      (l.long ∙ ap length (escaped-take-end xs i h), l.bytes ∙ ap (λ (w : List ℕ). laid_over w out) (escaped-take-end xs i h))

  module _ (d : List ℕ) (i k : ℕ) (l : Laid xs out d i k) where
    -- the loop stays within the buffer
    pub laid-within : k ≤ length d
    laid-within = omega (arith, l.sized, l.long, length-escaped-take xs i)

    -- a piece more: there is room for it
    piece-room : (ys : List ℕ) (j : ℕ) → escaped (take j xs) ≡ escaped (take i xs) ++ ys → k + length ys ≤ length d
    piece-room ys j e = omega (arith, l.sized, l.long, length-escaped-take xs j, simp length-append at (ap length e))

    -- and it is laid
    laid-piece : (ys next : List ℕ) (j : ℕ) → j ≤ length xs → escaped (take j xs) ≡ escaped (take i xs) ++ ys → next ≡ paste d k ys (length ys) → Laid xs out next j (k + length ys)
    laid-piece ys next j h e p =
        let w = escaped (take i xs) in
        record {
          inside = h;
          sized = ap length p ∙ length-paste d k ys (length ys) (piece-room ys j e) (omega arith) ∙ l.sized;
          long = simp length-append (omega (arith, l.long)) ∙ ap length (sym e);
          bytes = p ∙ rw (l.bytes, l.long, e) (laid_over-paste w ys out);
        }

    -- after a run that is copied
    pub laid-run : (next : List ℕ) (n : ℕ) → n ≡ lead (is_of sort.Plain) (take (length d - k) (drop i xs)) → next ≡ paste d k (drop i xs) n → Laid xs out next (i + n) (k + n)
    laid-run next n e p =
        let room = length d - k in
        let here : i + n ≤ length xs = copy-inside (is_of sort.Plain) xs i room n l.inside e in
        let ys = take n (drop i xs) in
        let long : length ys ≡ n = length-take-le n (drop i xs) (simp length-drop (omega arith)) in
        let g : escaped (take (i + n) xs) ≡ escaped (take i xs) ++ ys = escaped-run xs i n here (copy-all (is_of sort.Plain) xs i room n l.inside e) in
        rw long at (laid-piece ys next (i + n) here g (p ∙ rw (take-length ys, long)))

    -- after a byte, whatever it is
    module _ (h : i < length xs) where
      pub byte-room : k + length (escaped_byte (get_or xs i 0)) ≤ length d
      byte-room = piece-room (escaped_byte (get_or xs i 0)) (i + 1) (escaped-take xs i h)

      pub laid-byte : (next : List ℕ) (m : ℕ) → m ≡ k + length (escaped_byte (get_or xs i 0)) → next ≡ paste d k (escaped_byte (get_or xs i 0)) (length (escaped_byte (get_or xs i 0))) → Laid xs out next (i + 1) m
      laid-byte next m e p = rw e (laid-piece (escaped_byte (get_or xs i 0)) next (i + 1) (omega arith) (escaped-take xs i h) p)
