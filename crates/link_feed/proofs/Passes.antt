-- Bytes outside a frame, many at once: feeding on from behind them, with the noises counted that began among them, is feeding from here; over any
-- check, and over the rules of any receiver o.
-- Assumes nothing.
use Rattle.std.proofs.Common.{◌≡◌, ℕ, zero, suc, ◌+◌, ◌-◌, ◌<◌, ◌≤◌, Bool, true, false, cond, not, ◌||◌, eqb, List, length, get_or, take, drop, sym, refl, ap, ◌∙◌, subst, ap₂, suc-le-suc, le_refl, add-zero, add-suc, zero-lt-suc, add-one, arith, drop-cons}
use Rattle.laws.proofs.Cases.{never}
use Rattle.byte_runs.specs.Runs.{is_of, lead, All}
use Rattle.byte_runs.specs.Noises.{noisy_after, noises_of, Noised}
use Rattle.byte_runs.specs.declared.Heard.{Heard}
use Rattle.byte_runs.specs.declared.Sort.TheVariants as sort
use Rattle.byte_runs.proofs.Laws.{run_inside, run-all}
use Rattle.escaping.specs.Escapes.{meaning}
use Rattle.reading.specs.Counters as k
use Rattle.reading.specs.Grammar.{Rules}
use Rattle.link_receive.specs.declared.Receiver.{Receiver}
use Rattle.link_receive.specs.declared.State.{State}
use Rattle.link_receive.specs.declared.State.TheVariants.{Idle, Noise, StartOfFrame, Frame}
use Rattle.link_receive.specs.declared.Tally.TheVariants as tally
use Rattle.link_receive.specs.declared.Tallies.{Tallies}
use Rattle.link_receive.specs.declared.Move.{Move}
use Rattle.link_receive.specs.declared.Move.TheVariants.{To, Count}
use Rattle.link_receive.specs.Tally.{raise}
use Rattle.link_receive.specs.Step.{made_of, rules_of, turn_of, quiet, moved_of}
use Rattle.link_receive.proofs.Turns.{pair_of-other}
use Rattle.link_receive.proofs.Steps.{step_of-made}
use Rattle.link_feed.specs.Feed.{feed_from}
use Rattle.link_feed.specs.Advance.{line_of, begins_of, noised, held_after, Stands, Passed, Led}
use Rattle.link_feed.proofs.Feeds.{feed_from-more}
use Rattle.link_feed.proofs.Skips.{turn_of-idle, feed_from-stays}

abbrev pub heard : Bool → ℕ → ℕ → Heard
heard noisy count at = record { noisy = noisy; count = count; at = at }

-- what is held, and the tallies, after some noises and some more
held_after-add : (a b len : ℕ) → held_after (a + b) len ≡ held_after b (held_after a len)
held_after-add a zero len = ap (λ (n : ℕ). held_after n len) (add-zero a)
held_after-add a (suc b) len = ap (λ (n : ℕ). held_after n len) (add-suc a b)

held_after-le : (a len most : ℕ) → len ≤ most → held_after a len ≤ most
held_after-le zero len most h = h
held_after-le (suc a) len most h = omega arith

noised-add : (a b : ℕ) (t : Tallies) → noised (a + b) t ≡ noised b (noised a t)
noised-add a zero t = ap (λ (n : ℕ). noised n t) (add-zero a)
noised-add a (suc b) t = ap (λ (n : ℕ). noised n t) (add-suc a b) ∙ ap (raise k.noise) (noised-add a b t)

-- outside a frame: 7e begins a pair; 00 and ff lead to Idle; another byte leads to Noise, one noise if it came in Idle
turn_of-start : (rules : Rules) (n : Bool) (len b : ℕ) → b ≡ 0x7e → turn_of rules (line_of n) len b ≡ To StartOfFrame
unfolding turn_of
turn_of-start rules true len b e = rw e
turn_of-start rules false len b e = rw e

-- what a byte that is no 7e asks for, by whether the line is noisy and whether the byte is idle
abbrev asks : Bool → Bool → Move
asks n true = To Idle
asks true false = To Noise
asks false false = Count tally.Noise Noise

raw-asks : (n x y z : Bool) → not x ≡ true → cond x (To StartOfFrame) (cond y (To Idle) (cond z (To Idle) (asks n false))) ≡ asks n (y || z)
raw-asks n true y z r = never r
raw-asks n false true z r = refl
raw-asks n false false true r = refl
raw-asks n false false false r = refl

turn_of-raw : (rules : Rules) (n : Bool) (len b : ℕ) → is_of sort.Raw b ≡ true → turn_of rules (line_of n) len b ≡ asks n (is_of sort.Idle b)
unfolding is_of turn_of
turn_of-raw rules true len b r = raw-asks true (eqb b 0x7e) (eqb b 0x00) (eqb b 0xff) r
turn_of-raw rules false len b r = raw-asks false (eqb b 0x7e) (eqb b 0x00) (eqb b 0xff) r

begins-le : (n x : Bool) → begins_of n x ≤ 1
begins-le true x = omega arith
begins-le false true = omega arith
begins-le false false = omega arith

noises-more : (n x : Bool) (f : Bool → ℕ) → begins_of n (not x) + f (not x) ≡ cond x (f false) (cond n (f true) (suc (f true)))
noises-more true true f = omega arith
noises-more false true f = omega arith
noises-more true false f = omega arith
noises-more false false f = omega arith

two : (i : ℕ) → i + 2 ≡ i + 1 + 1
two i = omega arith

module _ (check : List ℕ → ℕ) (o : Receiver) (s : List ℕ) where
  -- nothing yet
  pub passed_none : (n : Bool) (i : ℕ) → i ≤ length s → Passed check o s n i (heard n 0 i)
  passed_none n i h = record { inside = h; further = le_refl i; few = omega arith; same = λ body len t l. refl }

  -- some bytes behind others
  pub passed_then : (n : Bool) (i : ℕ) (a b : Heard) → Passed check o s n i a → Passed check o s a.noisy a.at b → Passed check o s n i (heard b.noisy (a.count + b.count) b.at)
  passed_then n i a b p q =
      record {
        inside = q.inside;
        further = omega (arith, p.further, q.further);
        few = omega (arith, p.few, q.few);
        same =
            λ body len t l.
            ap₂ (λ (m : ℕ) (u : Tallies). feed_from check (made_of o (line_of b.noisy) body m u) (drop b.at s) b.at) (held_after-add a.count b.count len) (noised-add a.count b.count t)
            ∙ q.same body (held_after a.count len) (noised a.count t) (held_after-le a.count len (rules_of o).limit l)
            ∙ p.same body len t l;
      }

  -- a byte that is no 7e
  moved-raw : (n x : Bool) (body : List ℕ) (len : ℕ) (t : Tallies) → moved_of check (made_of o (line_of n) body len t) (asks n x) ≡ quiet (made_of o (line_of (not x)) body (held_after (begins_of n (not x)) len) (noised (begins_of n (not x)) t))
  moved-raw true true body len t = refl
  moved-raw false true body len t = refl
  moved-raw true false body len t = refl
  moved-raw false false body len t = refl

  pub passed-byte : (n : Bool) (i : ℕ) → i < length s → is_of sort.Raw (get_or s i 0) ≡ true → (x : Bool) → x ≡ not (is_of sort.Idle (get_or s i 0)) → Passed check o s n i (heard x (begins_of n x) (i + 1))
  passed-byte n i h r x e =
      let b = get_or s i 0 in
      let z = is_of sort.Idle b in
      subst (λ (y : Bool). Passed check o s n i (heard y (begins_of n y) (i + 1))) (sym e)
      (record {
        inside = omega arith;
        further = omega arith;
        few = omega (arith, begins-le n (not z));
        same = λ body len t l. feed_from-more check (made_of o (line_of n) body len t) _ s i h (step_of-made check o (line_of n) body len t b (asks n z) l (turn_of-raw (rules_of o) n len b r) ∙ moved-raw n z body len t);
      })

  -- a pair that is no opener is one noise
  pub passed-pair : (n : Bool) (i : ℕ) → i + 2 ≤ length s → get_or s i 0 ≡ 0x7e → (get_or s (i + 1) 0 ≡ 0x07 → ⊥) → Passed check o s n i (heard true 1 (i + 2))
  unfolding turn_of
  passed-pair n i h e f =
      record {
        inside = h;
        further = omega arith;
        few = omega arith;
        same =
            λ body len t l.
            let r = made_of o (line_of n) body len t in
            let q = made_of o StartOfFrame body len t in
            ap (λ (m : ℕ). feed_from check (made_of o Noise body 0 (raise k.noise t)) (drop m s) m) (two i)
            ∙ feed_from-more check q (made_of o Noise body 0 (raise k.noise t)) s (i + 1) (omega arith) (step_of-made check o StartOfFrame body len t (get_or s (i + 1) 0) (Count tally.Noise Noise) l (sym (pair_of-other (get_or s (i + 1) 0) f)))
            ∙ feed_from-more check r q s i (omega arith) (step_of-made check o (line_of n) body len t (get_or s i 0) (To StartOfFrame) l (turn_of-start (rules_of o) n len (get_or s i 0) e));
      }

  -- an idle byte on an idle line, or a run of them
  pub passed-one : (i : ℕ) → i < length s → is_of sort.Idle (get_or s i 0) ≡ true → Passed check o s false i (heard false 0 (i + 1))
  passed-one i h e =
      record {
        inside = omega arith;
        further = omega arith;
        few = omega arith;
        same = λ body len t l. feed_from-more check (made_of o Idle body len t) (made_of o Idle body len t) s i h (step_of-made check o Idle body len t (get_or s i 0) (To Idle) l (turn_of-idle (rules_of o) len (get_or s i 0) e));
      }

  -- three of them
  pub passed-three : (i : ℕ) → i + 3 ≤ length s → is_of sort.Idle (get_or s i 0) ≡ true → is_of sort.Idle (get_or s (i + 1) 0) ≡ true → is_of sort.Idle (get_or s (i + 2) 0) ≡ true → Passed check o s false i (heard false 0 (i + 3))
  passed-three i h e f g =
      let second : i + 1 + 1 ≡ i + 2 = omega arith in
      let third : i + 2 + 1 ≡ i + 3 = omega arith in
      passed_then false i (heard false 0 (i + 2)) (heard false 0 (i + 3))
      (passed_then false i (heard false 0 (i + 1)) (heard false 0 (i + 2)) (passed-one i (omega arith) e) (subst (λ (m : ℕ). Passed check o s false (i + 1) (heard false 0 m)) second (passed-one (i + 1) (omega arith) f)))
      (subst (λ (m : ℕ). Passed check o s false (i + 2) (heard false 0 m)) third (passed-one (i + 2) (omega arith) g))

  pub passed-lull : (i m : ℕ) → i ≤ length s → m ≡ lead (is_of sort.Idle) (drop i s) → Passed check o s false i (heard false 0 (i + m))
  passed-lull i m h e =
      let inside : i + m ≤ length s = run_inside (is_of sort.Idle) s i m h e in
      record {
        inside = inside;
        further = omega arith;
        few = omega arith;
        same = λ body len t l. feed_from-stays check o s Idle (is_of sort.Idle) len (turn_of-idle (rules_of o) len) l body t i m inside (run-all (is_of sort.Idle) s i m h e);
      }

  -- any number of bytes that are no 7e
  passed-raw : (n : Bool) (i m : ℕ) → i + m ≤ length s → All (is_of sort.Raw) s i m → Passed check o s n i (heard (noisy_after n (take m (drop i s))) (noises_of n (take m (drop i s))) (i + m))
  unfolding is_of noisy_after noises_of
  passed-raw n i zero h a = subst (λ (j : ℕ). Passed check o s n i (heard n 0 j)) (sym (add-zero i)) (passed_none n i (omega arith))
  passed-raw n i (suc m) h a =
      let b = get_or s i 0 in
      let here : i < length s = omega (arith, add-suc i m) in
      let z : i + 0 ≡ i = omega arith in
      let first = passed-byte n i here (rw z at (a 0 (zero-lt-suc m))) (not (is_of sort.Idle b)) refl in
      let rest = passed-raw (not (is_of sort.Idle b)) (i + 1) m (omega (arith, add-suc i m)) (λ j u. let y : i + 1 + j ≡ i + suc j = omega (arith, add-suc i j) in rw y (a (suc j) (suc-le-suc u))) in
      let both = passed_then n i _ _ first rest in
      let y : i + 1 + m ≡ i + suc m = omega (arith, add-suc i m) in
      rw (drop-cons s i 0 here, ← add-one, ← y, ← noises-more n (is_of sort.Idle b) (λ x. noises_of x (take m (drop (i + 1) s)))) both

  pub passed-noised : (n : Bool) (i : ℕ) (h : Heard) → Noised n s i h → Passed check o s n i h
  passed-noised n i h q =
      let m = h.at - i in
      let y : i + m ≡ h.at = omega (arith, q.further) in
      let all = passed-raw n i m (omega (arith, q.inside)) q.raw in
      rw (← q.count, ← q.noisy, y) at all

  -- where the bytes outside a frame lead: to the slice's end ..
  module _ (n : Bool) (i : ℕ) (h : Heard) (p : Passed check o s n i h) (len : ℕ) (t u : Tallies) (l : len ≤ (rules_of o).limit) where
    pub led-end : (state : State) (m : ℕ) → h.at ≡ length s → state ≡ line_of h.noisy → m ≡ held_after h.count len → u ≡ noised h.count t → Led check o s (line_of n) len i t (record { state = state; len = m; at = h.at }) u
    led-end state m e es em eu =
        rw (es, em, eu)
        (record {
          inside = p.inside;
          further = p.further;
          within = held_after-le h.count len (rules_of o).limit l;
          ended = λ x. e;
          same = λ body. p.same body len t l;
        })

    -- .. to a lone last 7e ..
    pub led-lone : (m : ℕ) → h.at < length s → get_or s h.at 0 ≡ 0x7e → m ≡ held_after h.count len → u ≡ noised h.count t → Led check o s (line_of n) len i t (record { state = StartOfFrame; len = m; at = h.at + 1 }) u
    led-lone m g e em eu =
        let within = held_after-le h.count len (rules_of o).limit l in
        rw (em, eu)
        (record {
          inside = omega arith;
          further = omega (arith, p.further);
          within = within;
          ended = λ x. never x;
          same =
              λ body.
              feed_from-more check (made_of o (line_of h.noisy) body (held_after h.count len) (noised h.count t)) _ s h.at g (step_of-made check o (line_of h.noisy) body (held_after h.count len) (noised h.count t) (get_or s h.at 0) (To StartOfFrame) within (turn_of-start (rules_of o) h.noisy (held_after h.count len) (get_or s h.at 0) e))
              ∙ p.same body len t l;
        })

    -- .. or to the open frame behind an opener
    pub led-open : Stands s h.at 0x07 → u ≡ raise k.openings (noised h.count t) → Led check o s (line_of n) len i t (record { state = Frame; len = 0; at = h.at + 2 }) u
    unfolding turn_of meaning
    led-open e eu =
        let m = held_after h.count len in
        let v = noised h.count t in
        let within = held_after-le h.count len (rules_of o).limit l in
        rw eu
        (record {
          inside = e.whole;
          further = omega (arith, p.further);
          within = omega arith;
          ended = λ x. never x;
          same =
              λ body.
              ap (λ (j : ℕ). feed_from check (made_of o Frame body 0 (raise k.openings v)) (drop j s) j) (two h.at)
              ∙ feed_from-more check (made_of o StartOfFrame body m v) (made_of o Frame body 0 (raise k.openings v)) s (h.at + 1) (omega (arith, e.whole)) (step_of-made check o StartOfFrame body m v (get_or s (h.at + 1) 0) (Count tally.Openings Frame) within (rw e.second))
              ∙ feed_from-more check (made_of o (line_of h.noisy) body m v) (made_of o StartOfFrame body m v) s h.at (omega (arith, e.whole)) (step_of-made check o (line_of h.noisy) body m v (get_or s h.at 0) (To StartOfFrame) within (turn_of-start (rules_of o) h.noisy m (get_or s h.at 0) e.first))
              ∙ p.same body len t l;
        })
