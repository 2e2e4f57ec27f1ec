-- `byte_runs::noises` hears a word at a time: all its bytes where none is 7e, and else those before the first; and behind the last word byte by byte, up
-- to a 7e or to the end. Assumes nothing.
use Prim.Native.Nat.{ℕ, ◌+◌, ◌-◌, ◌*◌, ◌≤◌, ◌<◌}
use mathlib.Core.Path.{◌≡◌, refl, ap, subst, ◌∙◌}
use mathlib.Core.Bool.{true, false, not}
use mathlib.Core.List.{[], ◌∷◌}
use native.Mathlib.Omega.{arith}
use lib.Dec.{eqb}
use lib.ListN.{length, get_or}
use borrow.Author.Tests.{eq-eqb, ne_eqb}
use borrow.Author.Rules.{rules}
use Rattle.laws.specs.Bytes.{Bytes}
use Rattle.byte_runs.specs.Runs.{idle, is_of}
use Rattle.byte_runs.specs.Noises.{noises_of, noises_at, Noised}
use Rattle.byte_runs.specs.declared.Sort.TheVariants as sort
use Rattle.byte_runs.proofs.Marks.{chunk_inside, chunk-word, rest-long, rest-at}
use Rattle.byte_runs.proofs.NoiseLaws.{heard, noised-le, noised-more, noised_at, noises_of-le, noises_at-past, Hears, hears-none, hears-le, hears-told, hears-idle, hears-few, hears-noise, hears-first, hears-stops, hears-some}
use Rattle.byte_runs.proofs.noises.Goals as goal
use Rattle.byte_runs.proofs.noises.Goals.{After-begun-count, After-begun-more, After-noisy_at-last}

-- the 7e is one of the eight
few : (c : After-begun-more) → c.first-j.result < 8
few c =
    let a = c.args in
    let s = a.s.now in
    let n = length s - a.i in
    let l = c.loop-k in
    let at = a.i + 8 * l.k in
    let cs = c.as_chunks.result.0.now in
    let cut = c.as_chunks.ensures in
    let word = c.word-w in
    let z = c.busy-z in
    let known : Bytes s = λ j. (c.type_inv.s j).fits in
    let g = chunk_inside s a.i n cs (omega arith) cut.front cut.front_len l.k c.loop-k-test.true in
    let w = chunk-word s a.i n cs (omega arith) cut.front cut.front_len l.k word.result [] c.loop-k-test.true word.ensures in
    let was = c.behind-was in
    let x = c.escapes-x in
    let j = c.first-j in
    hears-first a.noisy s a.i l.before l.count at 8 word.result z.result l.invariant known g refl w z.ensures was.result x.result was.ensures x.ensures (search rules) j.result j.ensures

-- what stands before the 7e is heard
some : (c : After-noisy_at-last) → let a = c.args in let l = c.loop-k in let at = a.i + 8 * l.k in (at + 8 ≤ length a.s.now) × (c.first-j.result < 8) × Hears a.noisy a.s.now a.i c.noisy_at-last.result (l.count + c.begun-more.result) (at + c.first-j.result)
some c =
    let a = c.args in
    let s = a.s.now in
    let n = length s - a.i in
    let l = c.loop-k in
    let at = a.i + 8 * l.k in
    let cs = c.as_chunks.result.0.now in
    let cut = c.as_chunks.ensures in
    let word = c.word-w in
    let z = c.busy-z in
    let known : Bytes s = λ j. (c.type_inv.s j).fits in
    let g = chunk_inside s a.i n cs (omega arith) cut.front cut.front_len l.k c.loop-k-test.true in
    let w = chunk-word s a.i n cs (omega arith) cut.front cut.front_len l.k word.result [] c.loop-k-test.true word.ensures in
    let was = c.behind-was in
    let x = c.escapes-x in
    let j = c.first-j in
    let m = c.below in
    let begun = c.begun-more in (
      g,
      hears-first a.noisy s a.i l.before l.count at 8 word.result z.result l.invariant known g refl w z.ensures was.result x.result was.ensures x.ensures (search rules) j.result j.ensures,
      hears-some a.noisy s a.i l.before l.count at 8 word.result z.result l.invariant known g refl w z.ensures was.result x.result was.ensures x.ensures (search rules) j.result m.result c.noisy_at-last.result begun.result j.ensures m.ensures begun.ensures c.noisy_at-last.ensures,
    )

-- a word has at most eight noises
few-more : (c : After-begun-count) → c.begun-count.result ≤ 8
few-more c =
    let a = c.args in
    let s = a.s.now in
    let n = length s - a.i in
    let l = c.loop-k in
    let at = a.i + 8 * l.k in
    let cs = c.as_chunks.result.0.now in
    let cut = c.as_chunks.ensures in
    let word = c.word-w in
    let z = c.busy-z in
    let known : Bytes s = λ j. (c.type_inv.s j).fits in
    let g = chunk_inside s a.i n cs (omega arith) cut.front cut.front_len l.k c.loop-k-test.true in
    let w = chunk-word s a.i n cs (omega arith) cut.front cut.front_len l.k word.result [] c.loop-k-test.true word.ensures in
    let was = c.behind-was in
    let x = c.escapes-x in
    hears-few a.noisy s a.i l.before l.count at 8 word.result z.result l.invariant known g refl w z.ensures was.result x.result was.ensures x.ensures c.begun-count.result c.begun-count.ensures

pub returns-then-s-i : goal.returns-then-s-i
returns-then-s-i c = let a = c.args in noises_at-past a.noisy a.s.now a.i (search rules)

pub loop-k-init : goal.loop-k-init
loop-k-init c = let a = c.args in
    let z : a.i ≡ a.i + 0 = omega arith in
    subst (Hears a.noisy a.s.now a.i c.ticked-before.result 0) z (hears-none a.noisy a.s.now a.i c.ticked-before.result (search rules) c.ticked-before.ensures)

pub loop-k-preserved-then-z-eq0 : goal.loop-k-preserved-then-z-eq0
loop-k-preserved-then-z-eq0 c =
    let a = c.args in
    let s = a.s.now in
    let n = length s - a.i in
    let l = c.loop-k in
    let at = a.i + 8 * l.k in
    let cs = c.as_chunks.result.0.now in
    let cut = c.as_chunks.ensures in
    let word = c.word-w in
    let z = c.busy-z in
    let known : Bytes s = λ j. (c.type_inv.s j).fits in
    let g = chunk_inside s a.i n cs (omega arith) cut.front cut.front_len l.k c.loop-k-test.true in
    let w = chunk-word s a.i n cs (omega arith) cut.front cut.front_len l.k word.result [] c.loop-k-test.true word.ensures in
    let e : at + 8 ≡ a.i + 8 * (l.k + 1) = omega arith in
    subst (Hears a.noisy s a.i 0 l.count) e (hears-idle a.noisy s a.i l.before l.count at 8 word.result z.result l.invariant known g refl w z.ensures c.if-z-eq0.true)

pub noisy_at-last-requires : goal.noisy_at-last-requires
noisy_at-last-requires c = few c

pub overflow_add-result : goal.overflow_add-result
overflow_add-result c = let h = some c in
    omega (arith, hears-le _ _ _ _ _ _ h.2)

pub overflow_add-result-then-x-ne0-2 : goal.overflow_add-result-then-x-ne0-2
overflow_add-result-then-x-ne0-2 c = let h = some c in
    omega (arith, h.0, h.1)

pub returns-then-x-ne0 : goal.returns-then-x-ne0
returns-then-x-ne0 c =
    let a = c.args in
    let s = a.s.now in
    let n = length s - a.i in
    let l = c.loop-k in
    let at = a.i + 8 * l.k in
    let cs = c.as_chunks.result.0.now in
    let cut = c.as_chunks.ensures in
    let word = c.word-w in
    let z = c.busy-z in
    let known : Bytes s = λ j. (c.type_inv.s j).fits in
    let g = chunk_inside s a.i n cs (omega arith) cut.front cut.front_len l.k c.loop-k-test.true in
    let w = chunk-word s a.i n cs (omega arith) cut.front cut.front_len l.k word.result [] c.loop-k-test.true word.ensures in
    let was = c.behind-was in
    let x = c.escapes-x in
    let j = c.first-j in
    let h = some c in
    let m = l.count + c.begun-more.result in
    noised_at a.noisy s a.i (not (eqb c.noisy_at-last.result 0)) m (at + j.result) (hears-told a.noisy s a.i c.noisy_at-last.result m (at + j.result) h.2) (λ u. hears-stops a.noisy s a.i l.before l.count at 8 word.result z.result l.invariant known g refl w z.ensures was.result x.result was.ensures x.ensures (search rules) j.result j.ensures)

pub overflow_add-count : goal.overflow_add-count
overflow_add-count c = omega (arith, few-more c, hears-le _ _ _ _ _ _ c.loop-k.invariant)

pub loop-k-preserved : goal.loop-k-preserved
loop-k-preserved c =
    let a = c.args in
    let s = a.s.now in
    let n = length s - a.i in
    let l = c.loop-k in
    let at = a.i + 8 * l.k in
    let cs = c.as_chunks.result.0.now in
    let cut = c.as_chunks.ensures in
    let word = c.word-w in
    let z = c.busy-z in
    let known : Bytes s = λ j. (c.type_inv.s j).fits in
    let g = chunk_inside s a.i n cs (omega arith) cut.front cut.front_len l.k c.loop-k-test.true in
    let w = chunk-word s a.i n cs (omega arith) cut.front cut.front_len l.k word.result [] c.loop-k-test.true word.ensures in
    let was = c.behind-was in
    let x = c.escapes-x in
    let e : at + 8 ≡ a.i + 8 * (l.k + 1) = omega arith in
    subst (Hears a.noisy s a.i c.noisy_behind-before.result (l.count + c.begun-count.result)) e
    (hears-noise a.noisy s a.i l.before l.count at 8 word.result z.result l.invariant known g refl w z.ensures was.result x.result was.ensures x.ensures c.if-x-ne0.false c.noisy_behind-before.result c.begun-count.result c.begun-count.ensures c.noisy_behind-before.ensures)

pub returns-then-b-eq126 : goal.returns-then-b-eq126
unfolding is_of
returns-then-b-eq126 c = let a = c.args in
    let s = a.s.now in
    let n = length s - a.i in
    let cs = c.as_chunks.result.0.now in
    let tail = c.as_chunks.result.1.now in
    let cut = c.as_chunks.ensures in
    let l = c.loop-k-2 in
    let at = a.i + 8 * length cs in
    let t = rest-at s a.i n cs (omega arith) cut.front cut.front_len tail cut.back l.k c.loop-k-2-test.true in
    noised_at a.noisy s a.i l.noise l.count (at + l.k) l.invariant (λ u. subst (λ (x : ℕ). is_of sort.Raw x ≡ false) t (ap not (eq-eqb _ _ c.if-b-eq126.true)))

pub overflow_add-count-in-loop-k-2 : goal.overflow_add-count-in-loop-k-2
overflow_add-count-in-loop-k-2 c = let a = c.args in
    let l = c.loop-k-2 in
    let at = a.i + 8 * length c.as_chunks.result.0.now in
    omega (arith, noised-le a.noisy a.s.now a.i (heard l.noise l.count (at + l.k)) l.invariant, c.one_noise-count.ensures, noises_of-le l.noise (get_or c.as_chunks.result.1.now l.k 0 ∷ []))

pub loop-k-2-preserved : goal.loop-k-2-preserved
unfolding is_of
loop-k-2-preserved c = let a = c.args in
    let s = a.s.now in
    let n = length s - a.i in
    let cs = c.as_chunks.result.0.now in
    let tail = c.as_chunks.result.1.now in
    let cut = c.as_chunks.ensures in
    let l = c.loop-k-2 in
    let at = a.i + 8 * length cs in
    let long = rest-long s a.i n cs (omega arith) cut.front cut.front_len tail cut.back in
    let t = rest-at s a.i n cs (omega arith) cut.front cut.front_len tail cut.back l.k c.loop-k-2-test.true in
    let u = not c.is_idle-noise.result in
    let m = c.one_noise-count in
    let e : at + l.k + 1 ≡ at + (l.k + 1) = omega arith in
    subst (λ (x : ℕ). Noised a.noisy s a.i (heard u (l.count + m.result) x)) e
    (noised-more a.noisy s a.i l.noise l.count (at + l.k) u m.result l.invariant (omega arith) (subst (λ (x : ℕ). is_of sort.Raw x ≡ true) t (ap not (ne_eqb _ _ c.if-b-eq126.false))) (m.ensures ∙ ap (λ (x : ℕ). noises_of l.noise (x ∷ [])) t) (ap not (c.is_idle-noise.ensures ∙ ap idle t)))

pub returns : goal.returns
returns c = let a = c.args in
    let s = a.s.now in
    let n = length s - a.i in
    let cs = c.as_chunks.result.0.now in
    let tail = c.as_chunks.result.1.now in
    let cut = c.as_chunks.ensures in
    let l = c.loop-k-2 in
    let at = a.i + 8 * length cs in
    let long = rest-long s a.i n cs (omega arith) cut.front cut.front_len tail cut.back in
    let e : at + l.k ≡ length s = omega arith in
    subst (λ (x : ℕ). heard l.noise l.count x ≡ noises_at a.noisy s a.i) e (noised_at a.noisy s a.i l.noise l.count (at + l.k) l.invariant (λ u. absurd (omega arith)))
