-- A receiver put into ten numbers and read back. Assumes nothing.
use Rattle.std.proofs.Common.{◌≡◌, ℕ, zero, suc, ◌<◌, ◌≤◌, Ok, Err, List, [], ◌∷◌, length, get_or, sym, refl, arith, le-ltb, ltb-true, ltb-false}
use Rattle.laws.proofs.Cases.{by}
use Rattle.link_receive.specs.declared.OverLimit.{OverLimit}
use Rattle.link_receive.specs.declared.State.{State}
use Rattle.link_receive.specs.declared.State.TheVariants.{Idle, Noise, StartOfFrame, Frame, FrameEscape, Giant, GiantEscape}
use Rattle.link_receive.specs.declared.Receiver.{Receiver}
use Rattle.link_receive.specs.Numbered.{state_at, state_number, tallies_at, receiver_at, numbers_of, numbers_told}
use Rattle.link_receive.specs.Step.{rules_of, too_long, Within}
use Rattle.link_receive.proofs.Rules.{rules_of-at}

pub state_at-state_number : (s : State) → state_at (state_number s) ≡ s
unfolding state_at
state_at-state_number Idle = refl
state_at-state_number Noise = refl
state_at-state_number StartOfFrame = refl
state_at-state_number Frame = refl
state_at-state_number FrameEscape = refl
state_at-state_number Giant = refl
state_at-state_number GiantEscape = refl

pub state_number-state_at : (n : ℕ) → n ≤ 6 → state_number (state_at n) ≡ n
unfolding state_at
state_number-state_at zero h = refl
state_number-state_at (suc zero) h = refl
state_number-state_at (suc (suc zero)) h = refl
state_number-state_at (suc (suc (suc zero))) h = refl
state_number-state_at (suc (suc (suc (suc zero)))) h = refl
state_number-state_at (suc (suc (suc (suc (suc zero))))) h = refl
state_number-state_at (suc (suc (suc (suc (suc (suc zero)))))) h = refl
state_number-state_at (suc (suc (suc (suc (suc (suc (suc n))))))) h = absurd (omega arith)

-- a receiver put into ten numbers and read back is itself
pub receiver_at-numbers_of : (r : Receiver) → receiver_at (numbers_of r) r.body ≡ r
unfolding tallies_at
receiver_at-numbers_of r = rw (state_at-state_number r.state)

-- ten numbers, one by one
pub ten : (l : List ℕ) → length l ≡ 10 → l ≡ get_or l 0 0 ∷ get_or l 1 0 ∷ get_or l 2 0 ∷ get_or l 3 0 ∷ get_or l 4 0 ∷ get_or l 5 0 ∷ get_or l 6 0 ∷ get_or l 7 0 ∷ get_or l 8 0 ∷ get_or l 9 0 ∷ []
ten [] p = absurd (omega arith)
ten (a ∷ []) p = absurd (omega arith)
ten (a ∷ b ∷ []) p = absurd (omega arith)
ten (a ∷ b ∷ c ∷ []) p = absurd (omega arith)
ten (a ∷ b ∷ c ∷ d ∷ []) p = absurd (omega arith)
ten (a ∷ b ∷ c ∷ d ∷ e ∷ []) p = absurd (omega arith)
ten (a ∷ b ∷ c ∷ d ∷ e ∷ f ∷ []) p = absurd (omega arith)
ten (a ∷ b ∷ c ∷ d ∷ e ∷ f ∷ g ∷ []) p = absurd (omega arith)
ten (a ∷ b ∷ c ∷ d ∷ e ∷ f ∷ g ∷ h ∷ []) p = absurd (omega arith)
ten (a ∷ b ∷ c ∷ d ∷ e ∷ f ∷ g ∷ h ∷ i ∷ []) p = absurd (omega arith)
ten (a ∷ b ∷ c ∷ d ∷ e ∷ f ∷ g ∷ h ∷ i ∷ j ∷ []) p = refl
ten (a ∷ b ∷ c ∷ d ∷ e ∷ f ∷ g ∷ h ∷ i ∷ j ∷ k ∷ ks) p = absurd (omega arith)

-- ten numbers whose first is a state's, read as a receiver and put into numbers, are themselves; any higher one comes back as 6
pub numbers_of-receiver_at : (numbers body : List ℕ) → length numbers ≡ 10 → get_or numbers 0 0 ≤ 6 → numbers_of (receiver_at numbers body) ≡ numbers
unfolding tallies_at
numbers_of-receiver_at numbers body h g = rw (state_number-state_at (get_or numbers 0 0) g) (sym (ten numbers h))

-- 12 of the receiver that numbers say, whatever its body: feeding a lent receiver cites this
pub too_long-at : (numbers body : List ℕ) → too_long (receiver_at numbers body) ≡ too_long (receiver_at numbers [])
too_long-at numbers body = rw (rules_of-at numbers body, rules_of-at numbers [])

-- within the limit the ten numbers are told: `feed`, `extend_from_slice` and the doors cite this
pub numbers_told-within : (r : Receiver) → Within r → numbers_told r ≡ Ok (numbers_of r)
unfolding numbers_told
numbers_told-within r h = rw (le-ltb (rules_of r).limit r.len h)

-- .. and are not told elsewhere
pub numbers_told-ok : (r : Receiver) (numbers : List ℕ) → numbers_told r ≡ Ok numbers → Within r × (numbers ≡ numbers_of r)
unfolding numbers_told
numbers_told-ok r numbers e =
    by (too_long r)
    (λ t. let f = rw t at e in absurd (let z : ◌≡◌ {A = ℕ} 0 1 = cc in omega arith))
    (λ t. let f = rw t at e in (ltb-false (rules_of r).limit r.len t, cc))

-- so an error is 12
pub numbers_told-err : (r : Receiver) (x : OverLimit) → numbers_told r ≡ Err x → (rules_of r).limit < r.len
unfolding numbers_told
numbers_told-err r x e =
    by (too_long r)
    (λ t. ltb-true (rules_of r).limit r.len t)
    (λ t. let f = rw t at e in absurd (let z : ◌≡◌ {A = ℕ} 0 1 = cc in omega arith))
