-- Many bytes at once: where each of them leaves the state as it is, feeding on from behind them is feeding from here; over any check, and over the rules
-- of any receiver o.
-- Assumes nothing.
use Rattle.std.proofs.Common.{◌≡◌, ℕ, zero, suc, ◌+◌, ◌-◌, ◌<◌, ◌≤◌, Bool, true, false, cond, not, ◌&&◌, ◌||◌, eqb, List, length, get_or, drop, sym, refl, ap, ◌∙◌, subst, add-zero, add-suc, add-one, arith, eq-eqb, ne_eqb, eqb-true}
use borrow.Author.Tests.{not-true}
use Rattle.byte_runs.specs.Runs.{is_of, lead, All}
use Rattle.byte_runs.proofs.Laws.{run_inside, run-all, run-stops}
use Rattle.byte_runs.specs.declared.Sort.TheVariants as sort
use Rattle.laws.proofs.Cases.{by, never}
use Rattle.reading.specs.Grammar.{Rules}
use Rattle.link_receive.specs.declared.Receiver.{Receiver}
use Rattle.link_receive.specs.declared.State.{State}
use Rattle.link_receive.specs.declared.State.TheVariants.{Idle, Noise, Giant, GiantEscape}
use Rattle.link_receive.specs.declared.Tally.TheVariants as tally
use Rattle.link_receive.specs.declared.Tallies.{Tallies}
use Rattle.link_receive.specs.declared.Move.TheVariants.{To, Count}
use Rattle.link_receive.specs.Step.{made_of, rules_of, outside_of, turn_of}
use Rattle.link_feed.specs.Feed.{feed_from}
use Rattle.link_feed.specs.Advance.{half_at, Skipped}
use Rattle.link_receive.proofs.Turns.{tail_of-other}
use Rattle.link_receive.proofs.Steps.{step_of-made}
use Rattle.link_feed.proofs.Feeds.{feed_from-more}

-- idle bytes leave Idle as it is
pub turn_of-idle : (rules : Rules) (len b : ℕ) → is_of sort.Idle b ≡ true → turn_of rules Idle len b ≡ To Idle
unfolding is_of turn_of
turn_of-idle rules len b e = go (eqb b 0x00) refl e
  where
    go : (x : Bool) → eqb b 0x00 ≡ x → (x || eqb b 0xff) ≡ true → outside_of (Count tally.Noise Noise) b ≡ To Idle
    go true f g = subst (λ (n : ℕ). outside_of (Count tally.Noise Noise) n ≡ To Idle) (sym (eqb-true b 0x00 f)) refl
    go false f g = subst (λ (n : ℕ). outside_of (Count tally.Noise Noise) n ≡ To Idle) (sym (eqb-true b 0xff g)) refl

-- what is raw leaves the tail
pub turn_of-tail : (rules : Rules) (len b : ℕ) → is_of sort.Raw b ≡ true → turn_of rules Giant len b ≡ To Giant
unfolding is_of turn_of
turn_of-tail rules len b e = rw (not-true (eqb b 0x7e) e)

pub raw-other : (b : ℕ) → (b ≡ 0x7e → ⊥) → is_of sort.Raw b ≡ true
unfolding is_of
raw-other b e = rw (ne_eqb b 0x7e e)

-- where a tail stands, by whether it is within a pair
abbrev tail_state : Bool → State
tail_state true = GiantEscape
tail_state false = Giant

-- a byte that with a 7e before it neither opens nor closes a frame ends a pair, or begins one, or is skipped alone
turn_of-calm : (rules : Rules) (h : Bool) (len b : ℕ) → is_of sort.Calm b ≡ true → turn_of rules (tail_state h) len b ≡ To (tail_state (not h && eqb b 0x7e))
unfolding is_of turn_of
turn_of-calm rules true len b e = sym (tail_of-other b (λ x. never (rw x at e)) (λ x. never (rw x at e)))
turn_of-calm rules false len b e = by (eqb b 0x7e) (λ x. rw x) (λ x. rw x)

calm-7e : (b : ℕ) → b ≡ 0x7e → is_of sort.Calm b ≡ true
unfolding is_of
calm-7e b e = rw e

-- 07 and 08 are no 7e
not_calm : (b : ℕ) → is_of sort.Calm b ≡ false → b ≡ 0x7e → ⊥
unfolding is_of
not_calm b e x = never (sym (rw x at e))

-- the pairs of a row of 7e: one 7e more turns it over, and any other byte leaves none begun
not_first : (x y : Bool) → (not x && y) ≡ true → x ≡ false
not_first true y e = never e
not_first false y e = refl

and-true : (x : Bool) → (x && true) ≡ x
and-true true = refl
and-true false = refl

and-false : (x : Bool) → (x && false) ≡ false
and-false true = refl
and-false false = refl

turned-again : (odd x : Bool) → cond odd (not (not x)) (not x) ≡ cond (not odd) (not x) x
turned-again true true = refl
turned-again true false = refl
turned-again false x = refl

pub turned_none : (odd x : Bool) → x ≡ false → cond odd (not x) x ≡ odd
turned_none true x e = rw e
turned_none false x e = e

module _ (s : List ℕ) (i q : ℕ) (h : i < q) where
  -- the byte before q
  half-before : half_at s i (q - i) ≡ (not (half_at s i (q - 1 - i)) && eqb (get_or s (q - 1) 0) 0x7e)
  half-before =
      let n : q - i ≡ suc (q - 1 - i) = omega arith in
      let m : i + (q - 1 - i) ≡ q - 1 = omega arith in
      ap (half_at s i) n ∙ ap (λ (x : ℕ). not (half_at s i (q - 1 - i)) && eqb (get_or s x 0) 0x7e) m

  pub half-turned : (odd : Bool) → get_or s (q - 1) 0 ≡ 0x7e → cond odd (not (half_at s i (q - i))) (half_at s i (q - i)) ≡ cond (not odd) (not (half_at s i (q - 1 - i))) (half_at s i (q - 1 - i))
  half-turned odd e =
      let x = half_at s i (q - 1 - i) in
      let f : half_at s i (q - i) ≡ not x = half-before ∙ ap (λ (t : Bool). not x && t) (eq-eqb _ _ e) ∙ and-true (not x) in
      ap (λ (t : Bool). cond odd (not t) t) f ∙ turned-again odd x

  pub half-none : (get_or s (q - 1) 0 ≡ 0x7e → ⊥) → half_at s i (q - i) ≡ false
  half-none e = half-before ∙ ap (λ (t : Bool). not (half_at s i (q - 1 - i)) && t) (ne_eqb _ _ e) ∙ and-false (not (half_at s i (q - 1 - i)))

pub next : (i m : ℕ) → i + suc m ≡ i + m + 1
next i m = add-suc i m ∙ sym (add-one (i + m))

pub less : (m : ℕ) → m < suc m
less m = omega arith

pub more : (k m : ℕ) → k < m → k < suc m
more k m h = omega arith

module _ (check : List ℕ → ℕ) (o : Receiver) (s : List ℕ) where
  -- bytes that leave the state
  pub feed_from-stays :
      (state : State) (p : ℕ → Bool) (len : ℕ) → ((b : ℕ) → p b ≡ true → turn_of (rules_of o) state len b ≡ To state) → len ≤ (rules_of o).limit →
      (body : List ℕ) (t : Tallies) (i m : ℕ) → i + m ≤ length s → All p s i m →
      feed_from check (made_of o state body len t) (drop (i + m) s) (i + m) ≡ feed_from check (made_of o state body len t) (drop i s) i
  feed_from-stays state p len turns h body t i zero g a = ap (λ (n : ℕ). feed_from check (made_of o state body len t) (drop n s) n) (add-zero i)
  feed_from-stays state p len turns h body t i (suc m) g a =
      let r = made_of o state body len t in
      ap (λ (n : ℕ). feed_from check r (drop n s) n) (next i m)
      ∙ feed_from-more check r r s (i + m) (omega (arith, next i m)) (step_of-made check o state body len t (get_or s (i + m) 0) (To state) h (turns (get_or s (i + m) 0) (a m (less m))))
      ∙ feed_from-stays state p len turns h body t i m (omega (arith, next i m)) (λ k u. a k (more k m u))

  -- bytes of a tail that do not end it
  feed_from-tail :
      (body : List ℕ) (len : ℕ) (t : Tallies) → len ≤ (rules_of o).limit → (i m : ℕ) → i + m ≤ length s → All (is_of sort.Calm) s i m →
      feed_from check (made_of o (tail_state (half_at s i m)) body len t) (drop (i + m) s) (i + m) ≡ feed_from check (made_of o Giant body len t) (drop i s) i
  feed_from-tail body len t h i zero g a = ap (λ (n : ℕ). feed_from check (made_of o Giant body len t) (drop n s) n) (add-zero i)
  feed_from-tail body len t h i (suc m) g a =
      let x = half_at s i m in
      let b = get_or s (i + m) 0 in
      let r = made_of o (tail_state x) body len t in
      let q = made_of o (tail_state (not x && eqb b 0x7e)) body len t in
      ap (λ (n : ℕ). feed_from check q (drop n s) n) (next i m)
      ∙ feed_from-more check r q s (i + m) (omega (arith, next i m)) (step_of-made check o (tail_state x) body len t b (To (tail_state (not x && eqb b 0x7e))) h (turn_of-calm (rules_of o) x len b (a m (less m))))
      ∙ feed_from-tail body len t h i m (omega (arith, next i m)) (λ k u. a k (more k m u))

  -- what the tail has skipped: nothing yet, a byte more, as much more as does not end it
  pub skipped-none : (i : ℕ) → i ≤ length s → Skipped check o s i i
  skipped-none i h = record { inside = h; further = omega arith; same = λ body len t l. refl }

  module _ (i₀ i : ℕ) (k : Skipped check o s i₀ i) where
    skipped-run : (m : ℕ) → i + m ≤ length s → All (is_of sort.Raw) s i m → Skipped check o s i₀ (i + m)
    skipped-run m h a =
        record {
          inside = h;
          further = omega (arith, k.further);
          same = λ body len t l. feed_from-stays Giant (is_of sort.Raw) len (turn_of-tail (rules_of o) len) l body t i m h a ∙ k.same body len t l;
        }

    pub skipped-byte : i < length s → (get_or s i 0 ≡ 0x7e → ⊥) → Skipped check o s i₀ (i + 1)
    skipped-byte h e = skipped-run 1 (omega arith) (λ j u. let z : i + j ≡ i = omega arith in rw z (raw-other (get_or s i 0) e))

    skipped-tail : (m : ℕ) → i + m ≤ length s → All (is_of sort.Calm) s i m → half_at s i m ≡ false → Skipped check o s i₀ (i + m)
    skipped-tail m h a e =
        record {
          inside = h;
          further = omega (arith, k.further);
          same = λ body len t l. ap (λ (x : Bool). feed_from check (made_of o (tail_state x) body len t) (drop (i + m) s) (i + m)) (sym e) ∙ feed_from-tail body len t l i m h a ∙ k.same body len t l;
        }

    -- a pair that does not end the tail
    pub skipped-pair : i + 2 ≤ length s → get_or s i 0 ≡ 0x7e → is_of sort.Calm (get_or s (i + 1) 0) ≡ true → Skipped check o s i₀ (i + 2)
    skipped-pair h e f = skipped-tail 2 h both ended
      where
        both : All (is_of sort.Calm) s i 2
        both zero u = let z : i + 0 ≡ i = omega arith in rw z (calm-7e (get_or s i 0) e)
        both (suc zero) u = f
        both (suc (suc j)) u = absurd (omega arith)

        ended : half_at s i 2 ≡ false
        ended = let z : i + 0 ≡ i = omega arith in rw (z, eq-eqb _ _ e)

    -- where a pair is begun, up to it
    skipped-half : (m : ℕ) → i + m ≤ length s → All (is_of sort.Calm) s i m → half_at s i m ≡ true → (1 ≤ m) × Skipped check o s i₀ (i + m - 1)
    skipped-half zero h a e = never e
    skipped-half (suc m) h a e =
        let n : i + m ≡ i + suc m - 1 = omega (arith, next i m) in
        (omega arith, subst (λ (j : ℕ). Skipped check o s i₀ j) n (skipped-tail m (omega (arith, next i m)) (λ j u. a j (more j m u)) (not_first (half_at s i m) (eqb (get_or s (i + m) 0) 0x7e) e)))

    -- a run of bytes that do not end the tail: within the slice; up to the pair that it ends in, if it does; else as a whole, and with the byte behind it
    module _ (m : ℕ) (e : m ≡ lead (is_of sort.Calm) (drop i s)) where
      pub tail-inside : i + m ≤ length s
      tail-inside = run_inside (is_of sort.Calm) s i m k.inside e

      all : All (is_of sort.Calm) s i m
      all = run-all (is_of sort.Calm) s i m k.inside e

      behind : i + m - i ≡ m
      behind = omega arith

      pub tail-half : half_at s i (i + m - i) ≡ true → (1 ≤ m) × Skipped check o s i₀ (i + m - 1)
      tail-half f = skipped-half m tail-inside all (ap (half_at s i) (sym behind) ∙ f)

      pub tail-whole : half_at s i (i + m - i) ≡ false → Skipped check o s i₀ (i + m)
      tail-whole f = skipped-tail m tail-inside all (ap (half_at s i) (sym behind) ∙ f)

  module _ (i₀ i m : ℕ) (k : Skipped check o s i₀ i) (e : m ≡ lead (is_of sort.Calm) (drop i s)) where
    pub tail-past : half_at s i (i + m - i) ≡ false → i + m < length s → Skipped check o s i₀ (i + m + 1)
    tail-past f h = skipped-byte i₀ (i + m) (tail-whole i₀ i k m e f) h (not_calm (get_or s (i + m) 0) (run-stops (is_of sort.Calm) s i m k.inside e h))

  -- one skip behind another
  pub skipped-then : (i j l : ℕ) → Skipped check o s i j → Skipped check o s j l → Skipped check o s i l
  skipped-then i j l a b =
      record {
        inside = b.inside;
        further = omega (arith, a.further, b.further);
        same = λ body len t h. b.same body len t h ∙ a.same body len t h;
      }
