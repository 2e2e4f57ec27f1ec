-- Bytes outside a frame: how many noises they are, and whether the last of them is noise. Assumes nothing.
use Rattle.std.specs.Prelude.{◌≡◌, Bool, true, false, cond, not, List, [], ◌∷◌, ℕ, suc, ◌+◌, ◌-◌, ◌*◌, ◌≤◌, length, take, drop, replicate}
use Rattle.words.specs.Words.{le_of}
use Rattle.byte_runs.specs.Runs.{idle, is_of, lead, All}
use Rattle.byte_runs.specs.Marks.{marked}
use Rattle.byte_runs.specs.declared.Heard.{Heard}
use Rattle.byte_runs.specs.declared.Sort.TheVariants.{Raw, Idle}

-- 01, "The reading of a stream": 00 and ff lead to Idle, another byte leads to Noise: whether the line is noisy after some bytes, none of them 7e, that
-- came while it was, or was not
unfoldable pub noisy_after : Bool → List ℕ → Bool
noisy_after n [] = n
noisy_after n (b ∷ bs) = noisy_after (not (idle b)) bs

-- another byte is one noise if it came in Idle: how many of them are one
unfoldable pub noises_of : Bool → List ℕ → ℕ
noises_of n [] = 0
noises_of n (b ∷ bs) = cond (idle b) (noises_of false bs) (cond n (noises_of true bs) (suc (noises_of true bs)))

-- what some bytes up to a place come to
abbrev pub heard_of : Bool → List ℕ → ℕ → Heard
heard_of n bs at = record { noisy = noisy_after n bs; count = noises_of n bs; at = at }

-- .. and the bytes of s from i on that stand before a 7e
unfoldable pub noises_at : Bool → List ℕ → ℕ → Heard
noises_at n s i = heard_of n (take (lead (is_of Raw) (drop i s)) (drop i s)) (i + lead (is_of Raw) (drop i s))

-- bytes of s from i to a place, none of them 7e, and what they come to
pub record Noised (n : Bool) (s : List ℕ) (i : ℕ) (r : Heard) : Type 0 where
  pub inside : r.at ≤ length s
  pub further : i ≤ r.at
  pub raw : All (is_of Raw) s i (r.at - i)
  pub count : r.count ≡ noises_of n (take (r.at - i) (drop i s))
  pub noisy : r.noisy ≡ noisy_after n (take (r.at - i) (drop i s))

-- 80 for noise, 00 for none
abbrev pub tick : Bool → ℕ
tick n = cond n 0x80 0

-- for each byte of a word whether the one before it is noise; for the first, whether the line was noisy
unfoldable pub behind_of : Bool → List ℕ → ℕ
behind_of n [] = 0
behind_of n (b ∷ bs) = behind_of (not (idle b)) bs * 256 + tick n

-- r is that for the word whose bytes other than 00 and ff z marks
abbrev pub Behind : ℕ → ℕ → ℕ → Type 0
Behind z before r = (n : Bool) (bs : List ℕ) → length bs ≡ 8 → z ≡ marked (is_of Idle) bs → before ≡ tick n → r ≡ behind_of n bs

-- r is how many of the bytes that m fills are one noise
abbrev pub Begun : ℕ → ℕ → ℕ → ℕ → Type 0
Begun z was m r = (n : Bool) (bs : List ℕ) (k : ℕ) → length bs ≡ 8 → z ≡ marked (is_of Idle) bs → was ≡ behind_of n bs → k ≤ 8 → m ≡ le_of (replicate k 0xff) → r ≡ noises_of n (take k bs)

-- r tells whether the line is noisy before the byte at k
abbrev pub NoisyAt : ℕ → ℕ → ℕ → Type 0
NoisyAt was k r = (n : Bool) (bs : List ℕ) → length bs ≡ 8 → was ≡ behind_of n bs → r ≡ tick (noisy_after n (take k bs))

-- .. and behind all eight
abbrev pub NoisyBehind : ℕ → ℕ → Type 0
NoisyBehind z r = (n : Bool) (bs : List ℕ) → length bs ≡ 8 → z ≡ marked (is_of Idle) bs → r ≡ tick (noisy_after n bs)
