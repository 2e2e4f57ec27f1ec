-- `byte_runs::copy_run` copies a run: what was passed is of the sort and was laid, and it stops at the first mark of a word, at a byte that is not, at the
-- end, or where there is no more room. Assumes nothing.
use Prim.Native.Nat.{ℕ, ◌+◌, ◌-◌, ◌*◌, ◌<◌, ◌≤◌}
use mathlib.Core.Path.{◌≡◌, refl, sym, ap, ap₂, ◌∙◌, subst}
use mathlib.Core.Bool.{true, false}
use mathlib.Core.List.{List, []}
use native.Mathlib.Nat.{add_assoc}
use native.Mathlib.Omega.{arith}
use lib.ListN.{length, get_or, set, drop}
use lib.Seq.{paste}
use borrow.Author.Count.{below_more}
use borrow.Author.Rules.{rules}
use Rattle.laws.specs.Bytes.{Bytes}
use Rattle.byte_runs.specs.Runs.{is_of, All, laid}
use Rattle.byte_runs.proofs.Laws.{all-add, lead-take, lead-none, lead-take-past, length-laid, laid-add, laid_more, laid-on, least, least-greatest}
use Rattle.byte_runs.proofs.Marks.{all-eight, laid-eight, laid-some, chunk_inside, chunk-word, chunks_inside, rest-long, rest-at}
use Rattle.byte_runs.proofs.copy_run.Goals as goal
use Rattle.byte_runs.proofs.copy_run.Goals.{After-slice_known-then-z-ne0-1, then-s-i-via-then-s-i, then-s-i-via-else-s-i+then-d-l}

-- what stands before the mark is laid, and is less than eight bytes, and the next is not of the sort
more : (c : After-slice_known-then-z-ne0-1) → let a = c.args in let l = c.loop-k in let m = 8 * l.k in (a.i + m + 8 ≤ length a.s.now) × (a.l + m + 8 ≤ length a.d.now) × All (is_of a.sort) a.s.now (a.i + m) c.blend.result × (c.blend.result < 8) × (c.blend.new.d ≡ laid l.d (a.l + m) a.s.now (a.i + m) c.blend.result) × (is_of a.sort (get_or a.s.now (a.i + m + c.blend.result) 0) ≡ false)
more c =
    let a = c.args in
    let s = a.s.now in
    let l = c.loop-k in
    let m = 8 * l.k in
    let n = a.i + c.min-most.result - a.i in
    let cs = c.as_chunks.result.0.now in
    let cut = c.as_chunks.ensures in
    let z = c.others-z in
    let b = c.blend in
    let known : Bytes s = λ j. (c.type_inv.s j).fits in
    let fit = least c.min-most.result (length s - a.i) (length a.d.now - a.l) c.min-most.ensures in
    let h : a.i + n ≤ length s = omega (arith, fit.0) in
    let g = chunk_inside s a.i n cs h cut.front cut.front_len l.k c.loop-k-test.true in
    let room : a.l + m + 8 ≤ length a.d.now = omega (arith, fit.1, chunks_inside s a.i n cs h cut.front cut.front_len) in
    let w = chunk-word s a.i n cs h cut.front cut.front_len l.k c.word-w.result [] c.loop-k-test.true c.word-w.ensures in
    let f = laid-some s (a.i + m) 8 c.word-w.result known g refl w (is_of a.sort) l.d (a.l + m) z.result b.result b.new.d (omega (arith, l.invariant.2)) z.ensures (search rules) b.ensures in
    (g, room, f.0, f.1, f.2, f.3)

pub returns-then-s-i-clause-count : goal.returns-then-s-i-clause-count
returns-then-s-i-clause-count c = let a = c.args in
    let p = is_of a.sort in
    let room = length a.d.now - a.l in
    elim c.then-s-i.branch [ then-s-i-via-then-s-i w ↦ sym (lead-take-past p a.s.now a.i room (search rules)) | then-s-i-via-else-s-i+then-d-l w ↦ sym (lead-none p (drop a.i a.s.now) room (omega arith)) ]

pub overflow_add-result : goal.overflow_add-result
overflow_add-result c = let h = more c in
    omega (arith, h.0, h.3)

pub returns-then-z-ne0-clause-count : goal.returns-then-z-ne0-clause-count
returns-then-z-ne0-clause-count c = let a = c.args in
    let p = is_of a.sort in
    let m = 8 * c.loop-k.k in
    let r = c.blend.result in
    let h = more c in
    sym (lead-take p a.s.now a.i (length a.d.now - a.l) (m + r) (omega (arith, h.1, h.3)) (omega (arith, h.0, h.3)) (all-add p a.s.now a.i m r c.loop-k.invariant.0 h.2) (λ u v. subst (λ (k : ℕ). p (get_or a.s.now k 0) ≡ false) (add_assoc a.i m r) h.5))

pub returns-then-z-ne0-clause-bytes : goal.returns-then-z-ne0-clause-bytes
returns-then-z-ne0-clause-bytes c = let a = c.args in
    let l = c.loop-k in
    let h = more c in
    laid-on a.d.now l.d c.blend.new.d a.l a.s.now a.i (8 * l.k) c.blend.result l.invariant.1 h.4 (omega (arith, h.1, h.3)) (omega (arith, h.0, h.3))

pub loop-k-preserved : goal.loop-k-preserved
loop-k-preserved c = let a = c.args in
    let s = a.s.now in
    let l = c.loop-k in
    let p = is_of a.sort in
    let m = 8 * l.k in
    let n = a.i + c.min-most.result - a.i in
    let to = a.l + m in
    let cs = c.as_chunks.result.0.now in
    let cut = c.as_chunks.ensures in
    let word = c.word-w in
    let z = c.others-z in
    let put = c.put_word in
    let known : Bytes s = λ j. (c.type_inv.s j).fits in
    let fit = least c.min-most.result (length s - a.i) (length a.d.now - a.l) c.min-most.ensures in
    let h : a.i + n ≤ length s = omega (arith, fit.0) in
    let g = chunk_inside s a.i n cs h cut.front cut.front_len l.k c.loop-k-test.true in
    let w = chunk-word s a.i n cs h cut.front cut.front_len l.k word.result [] c.loop-k-test.true word.ensures in
    let room : to + 8 ≤ length l.d = omega (arith, fit.1, chunks_inside s a.i n cs h cut.front cut.front_len, l.invariant.2) in
    let e : m + 8 ≡ 8 * (l.k + 1) = omega arith in
    let eight = all-eight s (a.i + m) 8 word.result known g refl w p z.result z.ensures c.if-z-ne0.false in
    let laid-now =
    laid-eight s (a.i + m) 8 word.result known g refl w l.d to (to + 8 - to) put.new.d room (omega arith) put.ensures
    ∙ ap (λ (x : List ℕ). laid x to s (a.i + m) 8) l.invariant.1
    ∙ laid-add a.d.now a.l s a.i m 8
    ∙ ap (laid a.d.now a.l s a.i) e
    in (
      subst (All p s a.i) e (all-add p s a.i m 8 l.invariant.0 eight),
      laid-now,
      ap length laid-now ∙ length-laid a.d.now a.l s a.i (8 * (l.k + 1)),
    )

pub returns-then-not-is-clause-count : goal.returns-then-not-is-clause-count
returns-then-not-is-clause-count c = let a = c.args in
    let s = a.s.now in
    let p = is_of a.sort in
    let n = a.i + c.min-most.result - a.i in
    let cs = c.as_chunks.result.0.now in
    let m = 8 * length cs in
    let tail = c.as_chunks.result.1.now in
    let cut = c.as_chunks.ensures in
    let l = c.loop-k-2 in
    let fit = least c.min-most.result (length s - a.i) (length a.d.now - a.l) c.min-most.ensures in
    let h : a.i + n ≤ length s = omega (arith, fit.0) in
    let long = rest-long s a.i n cs h cut.front cut.front_len tail cut.back in
    let t = rest-at s a.i n cs h cut.front cut.front_len tail cut.back l.k c.loop-k-2-test.true in
    let stops : p (get_or s (a.i + m + l.k) 0) ≡ false = subst (λ (x : ℕ). p x ≡ false) t (sym c.is.ensures ∙ c.if-not-is.true) in
    sym (lead-take p s a.i (length a.d.now - a.l) (m + l.k) (omega (arith, fit.1)) (omega (arith, fit.0)) l.invariant.0 (λ u v. subst (λ (k : ℕ). p (get_or s k 0) ≡ false) (add_assoc a.i m l.k) stops))

pub returns-then-not-is-clause-bytes : goal.returns-then-not-is-clause-bytes
returns-then-not-is-clause-bytes c = let a = c.args in
    let s = a.s.now in
    let n = a.i + c.min-most.result - a.i in
    let cs = c.as_chunks.result.0.now in
    let m = 8 * length cs in
    let tail = c.as_chunks.result.1.now in
    let cut = c.as_chunks.ensures in
    let f = c.loop-k in
    let l = c.loop-k-2 in
    let fit = least c.min-most.result (length s - a.i) (length a.d.now - a.l) c.min-most.ensures in
    let h : a.i + n ≤ length s = omega (arith, fit.0) in
    let long = rest-long s a.i n cs h cut.front cut.front_len tail cut.back in
    let e : 8 * f.k ≡ m = omega arith in
    laid-on a.d.now f.d l.d a.l s a.i m l.k (f.invariant.1 ∙ ap (laid a.d.now a.l s a.i) e) l.invariant.1 (omega (arith, fit.1)) (omega (arith, fit.0))

pub loop-k-2-preserved : goal.loop-k-2-preserved
loop-k-2-preserved c = let a = c.args in
    let s = a.s.now in
    let p = is_of a.sort in
    let n = a.i + c.min-most.result - a.i in
    let cs = c.as_chunks.result.0.now in
    let m = 8 * length cs in
    let tail = c.as_chunks.result.1.now in
    let cut = c.as_chunks.ensures in
    let f = c.loop-k in
    let l = c.loop-k-2 in
    let fit = least c.min-most.result (length s - a.i) (length a.d.now - a.l) c.min-most.ensures in
    let h : a.i + n ≤ length s = omega (arith, fit.0) in
    let t = rest-at s a.i n cs h cut.front cut.front_len tail cut.back l.k c.loop-k-2-test.true in
    let here : p (get_or s (a.i + m + l.k) 0) ≡ true = subst (λ (x : ℕ). p x ≡ true) t (sym c.is.ensures ∙ c.if-not-is.false) in
    let e : m + l.k + 1 ≡ m + (l.k + 1) = omega arith in (
      subst (All p s a.i) e (below_more _ _ l.invariant.0 (subst (λ (k : ℕ). p (get_or s k 0) ≡ true) (add_assoc a.i m l.k) here)),
      ap₂ (λ (x : List ℕ) (y : ℕ). set x (a.l + m + l.k) y) l.invariant.1 t ∙ laid_more f.d (a.l + m) s (a.i + m) l.k,
      search rules,
    )

pub returns-clause-count : goal.returns-clause-count
returns-clause-count c = let a = c.args in
    let s = a.s.now in
    let p = is_of a.sort in
    let most = c.min-most.result in
    let n = a.i + most - a.i in
    let cs = c.as_chunks.result.0.now in
    let tail = c.as_chunks.result.1.now in
    let cut = c.as_chunks.ensures in
    let l = c.loop-k-2 in
    let fit = least most (length s - a.i) (length a.d.now - a.l) c.min-most.ensures in
    let h : a.i + n ≤ length s = omega (arith, fit.0) in
    let long = rest-long s a.i n cs h cut.front cut.front_len tail cut.back in
    let e : 8 * length cs + l.k ≡ most = omega arith in
    sym (lead-take p s a.i (length a.d.now - a.l) most fit.1 (omega (arith, fit.0)) (subst (All p s a.i) e l.invariant.0) (λ u v. absurd (least-greatest most (length s - a.i) (length a.d.now - a.l) c.min-most.ensures (omega arith) u)))

pub returns-clause-bytes : goal.returns-clause-bytes
returns-clause-bytes c = let a = c.args in
    let s = a.s.now in
    let most = c.min-most.result in
    let n = a.i + most - a.i in
    let cs = c.as_chunks.result.0.now in
    let m = 8 * length cs in
    let tail = c.as_chunks.result.1.now in
    let cut = c.as_chunks.ensures in
    let f = c.loop-k in
    let l = c.loop-k-2 in
    let fit = least most (length s - a.i) (length a.d.now - a.l) c.min-most.ensures in
    let h : a.i + n ≤ length s = omega (arith, fit.0) in
    let long = rest-long s a.i n cs h cut.front cut.front_len tail cut.back in
    let e : 8 * f.k ≡ m = omega arith in
    let q : m + l.k ≡ most = omega arith in
    laid-on a.d.now f.d l.d a.l s a.i m l.k (f.invariant.1 ∙ ap (laid a.d.now a.l s a.i) e) l.invariant.1 (omega (arith, fit.1)) (omega (arith, fit.0))
    ∙ ap (paste a.d.now a.l (drop a.i s)) q
