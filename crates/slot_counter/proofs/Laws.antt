-- Masks and sums of slot counters, and what `slots_since` means: so many slots after the past, around 48000, is the present. Assumes nothing.
use Rattle.std.proofs.Common.{◌≡◌, ℕ, zero, suc, ◌+◌, ◌-◌, ◌*◌, ◌/◌, ◌%◌, ◌^◌, ◌<◌, ◌≤◌, Bool, true, false, cond, ltb, refl, ap, ◌∙◌, mod-eq_of_lt, arith, ltb-false, ltb-true, le-leb, leb, leb-true, leb-false, Ok, Err}
use lib.Bits.{bit_and, and_mask, and_high, or_shifted}
use Rattle.slot_counter.specs.declared.SlotEpoch.{SlotEpoch}
use Rattle.slot_counter.specs.declared.SlotEpoch.TheVariants.{Epoch0, Epoch4, Epoch8, EpochC}
use Rattle.slot_counter.specs.declared.SlotNumber.{SlotNumber}
use Rattle.slot_counter.specs.declared.InvalidSlotNumber.{InvalidSlotNumber}
use Rattle.slot_counter.specs.Slots.{slot_number_of, index_of, epoch_at, epoch_of, number_in, new_of, abs_of, abs_in, apart, slots_since_of}

-- the fourteen low bits, and the two high ones
pub low_bits : (c : ℕ) → bit_and c 0x3fff ≡ number_in c
low_bits c = and_mask c 14

pub high_bits : (c : ℕ) → c < 2 ^ 16 → bit_and c 0xc000 ≡ c / 0x4000 * 0x4000
high_bits c h = and_high c 2 14 ∙ ap (λ (k : ℕ). k * 0x4000) (mod-eq_of_lt (omega arith))

-- an epoch's index leads back to it
pub epoch_at-index_of : (e : SlotEpoch) → epoch_at (index_of e) ≡ e
unfolding epoch_at
epoch_at-index_of Epoch0 = refl
epoch_at-index_of Epoch4 = refl
epoch_at-index_of Epoch8 = refl
epoch_at-index_of EpochC = refl

pub index_of-lt : (e : SlotEpoch) → index_of e < 4
index_of-lt Epoch0 = omega arith
index_of-lt Epoch4 = omega arith
index_of-lt Epoch8 = omega arith
index_of-lt EpochC = omega arith

pub index_of-epoch_at : (n : ℕ) → n < 4 → index_of (epoch_at n) ≡ n
unfolding epoch_at
index_of-epoch_at zero h = refl
index_of-epoch_at (suc zero) h = refl
index_of-epoch_at (suc (suc zero)) h = refl
index_of-epoch_at (suc (suc (suc zero))) h = refl
index_of-epoch_at (suc (suc (suc (suc n)))) h = absurd (omega arith)

pub abs-lt : (e : SlotEpoch) (n : ℕ) → n ≤ 11999 → abs_of (index_of e) n < 48000
abs-lt e n h = omega (arith, index_of-lt e)

-- a slot number's bits stand beside the epoch's: their sum
pub new_of-sum : (e : SlotEpoch) (n : ℕ) → n ≤ 11999 → new_of e n ≡ index_of e * 0x4000 + n
unfolding new_of
new_of-sum e n h = or_shifted (index_of e) 14 n (omega arith)

-- so `epoch` and `slot_number` give back what `new` was given
pub epoch_of-new_of : (e : SlotEpoch) (n : ℕ) → n ≤ 11999 → epoch_of (new_of e n) ≡ e
epoch_of-new_of e n h = rw (new_of-sum e n h) (ap epoch_at (omega arith) ∙ epoch_at-index_of e)

pub number_in-new_of : (e : SlotEpoch) (n : ℕ) → n ≤ 11999 → number_in (new_of e n) ≡ n
number_in-new_of e n h = rw (new_of-sum e n h) (omega arith)

-- the slots since: 1 to 48000 of them, and so many after the past, around 48000, is the present
module _ (now past : ℕ) (h : now < 48000) (g : past < 48000) where
  pub apart_some : (1 ≤ apart now past) × (apart now past ≤ 48000)
  apart_some = go (ltb past now) refl
    where
      go : (t : Bool) → ltb past now ≡ t → (1 ≤ cond t (now - past) (48000 - past + now)) × (cond t (now - past) (48000 - past + now) ≤ 48000)
      go true e = let l = ltb-true past now e in (omega arith, omega arith)
      go false e = let l = ltb-false past now e in (omega arith, omega arith)

  pub past-apart : (past + apart now past) % 48000 ≡ now
  past-apart = go (ltb past now) refl
    where
      go : (t : Bool) → ltb past now ≡ t → (past + cond t (now - past) (48000 - past + now)) % 48000 ≡ now
      go true e = let l = ltb-true past now e in omega arith
      go false e = let l = ltb-false past now e in omega arith

  -- no other number does this
  pub apart-once : (n : ℕ) → 1 ≤ n → n ≤ 48000 → (past + n) % 48000 ≡ now → n ≡ apart now past
  apart-once n l m e = go (ltb past now) refl
    where
      go : (t : Bool) → ltb past now ≡ t → n ≡ cond t (now - past) (48000 - past + now)
      go true f = let k = ltb-true past now f in omega arith
      go false f = let k = ltb-false past now f in omega arith

abbrev number : ℕ → SlotNumber
number n = record { 0 = n }

abbrev invalid : ℕ → InvalidSlotNumber
invalid n = record { 0 = n }

-- what a slot number is that `slot_number` gives, or tells to be none
module _ (n : ℕ) where
  pub slot_number_of-ok : (v : SlotNumber) → Ok v ≡ slot_number_of n → (n ≤ 11999) × (v.0 ≡ n)
  unfolding slot_number_of
  slot_number_of-ok v e = go (leb n 11999) refl e
    where
      go : (t : Bool) → leb n 11999 ≡ t → Ok v ≡ cond t (Ok (number n)) (Err (invalid n)) → (n ≤ 11999) × (v.0 ≡ n)
      go true f e = (leb-true n 11999 f, cc)
      go false f e = let z : ◌≡◌ {A = ℕ} 0 1 = cc in absurd (omega arith)

  pub slot_number_of-err : (v : InvalidSlotNumber) → Err v ≡ slot_number_of n → (11999 < n) × (v.0 ≡ n)
  unfolding slot_number_of
  slot_number_of-err v e = go (leb n 11999) refl e
    where
      go : (t : Bool) → leb n 11999 ≡ t → Err v ≡ cond t (Ok (number n)) (Err (invalid n)) → (11999 < n) × (v.0 ≡ n)
      go true f e = let z : ◌≡◌ {A = ℕ} 0 1 = cc in absurd (omega arith)
      go false f e = (leb-false n 11999 f, cc)

pub index_of-epoch_of : (c : ℕ) → c < 2 ^ 16 → index_of (epoch_of c) ≡ c / 0x4000
index_of-epoch_of c h = index_of-epoch_at (c / 0x4000) (omega arith)

-- for two good counters `slots_since` is their places' distance, to which `apart_some`, `past-apart` and `apart-once` apply: the places are below 48000
pub slots_since_of-good : (now past : ℕ) → number_in now ≤ 11999 → number_in past ≤ 11999 → slots_since_of now past ≡ Ok (apart (abs_in now) (abs_in past))
unfolding slots_since_of
slots_since_of-good now past h g = rw (le-leb (number_in now) 11999 h, le-leb (number_in past) 11999 g)

pub abs_in-lt : (c : ℕ) → c < 2 ^ 16 → number_in c ≤ 11999 → abs_in c < 48000
abs_in-lt c h g = omega arith
