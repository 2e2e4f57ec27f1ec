-- The units of an open frame, many at once: feeding on from behind them is feeding from here; over any check, and over the rules of any receiver o.
-- Assumes nothing.
use Rattle.std.proofs.Common.{◌≡◌, ℕ, zero, suc, ◌+◌, ◌-◌, ◌<◌, ◌≤◌, true, eqb, ltb, Option, Some, None, List, length, get_or, take, drop, set, sym, refl, ap, ◌∙◌, ap₂, add-zero, le_of_lt, arith, drop-cons, ltb-false, lt-ltb}
use lib.Seq.{paste}
use borrow.Author.Tests.{not-true}
use Rattle.byte_runs.specs.Runs.{is_of, lead, All, laid}
use Rattle.byte_runs.proofs.Laws.{copy-room, copy-inside, copy-all, laid-paste}
use Rattle.byte_runs.specs.declared.Sort.TheVariants as sort
use Rattle.laws.proofs.Cases.{by}
use Rattle.reading.specs.Grammar.{Rules}
use Rattle.link_receive.specs.declared.Receiver.{Receiver}
use Rattle.link_receive.specs.declared.State.TheVariants.{Frame, FrameEscape}
use Rattle.link_receive.specs.declared.Tallies.{Tallies}
use Rattle.link_receive.specs.declared.Move.TheVariants.{To, Push}
use Rattle.link_receive.specs.Step.{room, made_of, rules_of, turn_of}
use Rattle.link_feed.specs.Feed.{feed_from}
use Rattle.link_feed.specs.declared.Units.{Units}
use Rattle.link_feed.specs.Advance.{Ahead}
use Rattle.link_receive.proofs.Steps.{step_of-made}
use Rattle.link_feed.proofs.Feeds.{feed_from-more}
use Rattle.escaping.specs.Escapes.{meaning}
use Rattle.escaping.specs.Handed.{handed_byte, unescape_handed}
use Rattle.escaping.specs.declared.InvalidEscapeSequence.{InvalidEscapeSequence}
use Rattle.std.specs.Prelude.{Result, Err}
use Rattle.link_feed.proofs.Skips.{next, less, more}

pub turn_of-unit : (rules : Rules) (len b : ℕ) → len < rules.limit → is_of sort.Raw b ≡ true → turn_of rules Frame len b ≡ Push b
unfolding is_of turn_of
turn_of-unit rules len b h e = rw (not-true (eqb b 0x7e) e, lt-ltb len rules.limit h)

-- 7e begins a pair
turn_of-pair : (rules : Rules) (len b : ℕ) → b ≡ 0x7e → turn_of rules Frame len b ≡ To FrameEscape
unfolding turn_of
turn_of-pair rules len b e = rw e

-- the loop of `units` with no pair that is no unit
abbrev pub units_at : ℕ → ℕ → Units
units_at len i = record { len = len; at = i; code = None }

no-code : (c : ℕ) → ◌≡◌ {A = Option ℕ} None (Some c) → ⊥
no-code c e = let z : ◌≡◌ {A = ℕ} 0 1 = cc in omega arith

two : (i : ℕ) → i + 2 ≡ i + 1 + 1
two i = omega arith

-- the second byte of a pair that is no unit
invalid-code : (u : Result ℕ InvalidEscapeSequence) {x : InvalidEscapeSequence} (b : ℕ) → handed_byte u ≡ unescape_handed b → u ≡ Err x → 7 ≤ b
unfolding unescape_handed meaning
invalid-code u b e f = by (ltb b 7) (λ x. let y = rw x at e in absurd (let z : ◌≡◌ {A = ℕ} 0 1 = cc in omega arith)) (λ x. ltb-false b 7 x)

-- a run that starts with a raw byte has one
pub run-some : (s : List ℕ) (i n k : ℕ) → 1 ≤ n → i < length s → is_of sort.Raw (get_or s i 0) ≡ true → k ≡ lead (is_of sort.Raw) (take n (drop i s)) → 1 ≤ k
unfolding lead
run-some s i zero k h g r e = absurd (omega arith)
run-some s i (suc n) k h g r e = let f : k ≡ suc (lead (is_of sort.Raw) (take n (drop (suc i) s))) = e ∙ rw (drop-cons s i 0 g, r) in omega arith

module _ (check : List ℕ → ℕ) (o : Receiver) (s : List ℕ) where
  -- raw bytes of an open frame, as far as there is room
  pub feed_from-units :
      (body : List ℕ) (len : ℕ) (t : Tallies) (i m : ℕ) → len + m ≤ (rules_of o).limit → i + m ≤ length s → All (is_of sort.Raw) s i m →
      feed_from check (made_of o Frame (laid body len s i m) (len + m) t) (drop (i + m) s) (i + m) ≡ feed_from check (made_of o Frame body len t) (drop i s) i
  feed_from-units body len t i zero h g a =
      ap₂ (λ (l n : ℕ). feed_from check (made_of o Frame body l t) (drop n s) n) (add-zero len) (add-zero i)
  feed_from-units body len t i (suc m) h g a =
      let r = made_of o Frame (laid body len s i m) (len + m) t in
      let b = get_or s (i + m) 0 in
      let l : len + m < (rules_of o).limit = omega (arith, next len m) in
      ap₂ (λ (l n : ℕ). feed_from check (made_of o Frame (laid body len s i (suc m)) l t) (drop n s) n) (next len m) (next i m)
      ∙ feed_from-more check r (made_of o Frame (set (laid body len s i m) (len + m) b) (len + m + 1) t) s (i + m) (omega (arith, next i m)) (step_of-made check o Frame (laid body len s i m) (len + m) t b (Push b) (le_of_lt l) (turn_of-unit (rules_of o) (len + m) b l (a m (less m))))
      ∙ feed_from-units body len t i m (le_of_lt l) (omega (arith, next i m)) (λ k u. a k (more k m u))

  -- units of an open frame taken so far, from a body, a length and a place: the loop of `units` keeps this
  abbrev pub Held : List ℕ → ℕ → ℕ → List ℕ → ℕ → ℕ → Type 0
  Held body len i next l j = Ahead check o s body len i next (units_at l j)

  pub held_none : (body : List ℕ) (len i : ℕ) → len ≤ (rules_of o).limit → i ≤ length s → Held body len i body len i
  held_none body len i h g = record { inside = g; further = omega arith; within = h; same = λ t. refl; coded = λ c e. absurd (no-code c e) }

  module _ (b₀ : List ℕ) (l₀ i₀ : ℕ) (body : List ℕ) (len i : ℕ) (held : Held b₀ l₀ i₀ body len i) where
    -- a run of raw bytes more, up to the array's end, where that is the limit
    pub held-run :
        (rules_of o).limit ≡ room → length body ≡ room → (next : List ℕ) (k : ℕ) → k ≡ lead (is_of sort.Raw) (take (length body - len) (drop i s)) → next ≡ paste body len (drop i s) k →
        Held b₀ l₀ i₀ next (len + k) (i + k)
    held-run full sized next k e f =
        let free = length body - len in
        let here : i ≤ length s = held.inside in
        let fits : k ≤ free = copy-room (is_of sort.Raw) s i free k here e in
        let inside : i + k ≤ length s = copy-inside (is_of sort.Raw) s i free k here e in
        let within : len + k ≤ (rules_of o).limit = omega (arith, sized, held.within) in
        let laid-now : next ≡ laid body len s i k = f ∙ sym (laid-paste body len s i k (omega (arith, sized)) inside) in
        record {
          inside = inside;
          further = omega (arith, held.further);
          within = within;
          same =
              λ t.
              ap (λ (x : List ℕ). feed_from check (made_of o Frame x (len + k) t) (drop (i + k) s) (i + k)) laid-now
              ∙ feed_from-units body len t i k within inside (copy-all (is_of sort.Raw) s i free k here e)
              ∙ held.same t;
          coded = λ c e. absurd (no-code c e);
        }

    -- an escape more
    pub held-escape :
        (d : ℕ) → i + 2 ≤ length s → len < (rules_of o).limit → get_or s i 0 ≡ 0x7e → turn_of (rules_of o) FrameEscape len (get_or s (i + 1) 0) ≡ Push d →
        Held b₀ l₀ i₀ (set body len d) (len + 1) (i + 2)
    held-escape d g h e f =
        record {
          inside = g;
          further = omega (arith, held.further);
          within = omega arith;
          same =
              λ t.
              let r = made_of o Frame body len t in
              let q = made_of o FrameEscape body len t in
              ap (λ (n : ℕ). feed_from check (made_of o Frame (set body len d) (len + 1) t) (drop n s) n) (two i)
              ∙ feed_from-more check q (made_of o Frame (set body len d) (len + 1) t) s (i + 1) (omega arith) (step_of-made check o FrameEscape body len t (get_or s (i + 1) 0) (Push d) (le_of_lt h) f)
              ∙ feed_from-more check r q s i (omega arith) (step_of-made check o Frame body len t (get_or s i 0) (To FrameEscape) (le_of_lt h) (turn_of-pair (rules_of o) len (get_or s i 0) e))
              ∙ held.same t;
          coded = λ c e. absurd (no-code c e);
        }

    -- a raw byte more
    pub held-byte : i < length s → len < (rules_of o).limit → is_of sort.Raw (get_or s i 0) ≡ true → Held b₀ l₀ i₀ (set body len (get_or s i 0)) (len + 1) (i + 1)
    held-byte g h e =
        record {
          inside = omega arith;
          further = omega (arith, held.further);
          within = omega arith;
          same =
              λ t.
              feed_from-more check (made_of o Frame body len t) (made_of o Frame (set body len (get_or s i 0)) (len + 1) t) s i g (step_of-made check o Frame body len t (get_or s i 0) (Push (get_or s i 0)) (le_of_lt h) (turn_of-unit (rules_of o) len (get_or s i 0) h e))
              ∙ held.same t;
          coded = λ c e. absurd (no-code c e);
        }

    -- the pair that is no unit, told
    pub held-coded :
        (c : ℕ) → i + 2 ≤ length s → get_or s i 0 ≡ 0x7e → (u : Result ℕ InvalidEscapeSequence) {x : InvalidEscapeSequence} → handed_byte u ≡ unescape_handed c → u ≡ Err x → c ≡ get_or s (i + 1) 0 →
        Ahead check o s b₀ l₀ i₀ body (record { len = len; at = i; code = Some c })
    held-coded c g e u f n m =
        record {
          inside = held.inside;
          further = held.further;
          within = held.within;
          same = held.same;
          coded =
              λ d x.
              let y : c ≡ d = cc in
              rw (← y) (invalid-code u c f n, record { whole = g; first = e; second = sym m });
        }
