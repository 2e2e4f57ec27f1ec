-- `byte_runs::run` counts a run: what was passed is of the sort, and it stops at the first mark of a word, or at a byte that is not, or at the end.
-- Assumes nothing.
use Prim.Native.Nat.{ℕ, ◌+◌, ◌-◌, ◌*◌, ◌<◌, ◌≤◌}
use mathlib.Core.Path.{◌≡◌, refl, sym, ap, subst, ◌∙◌}
use mathlib.Core.Bool.{false}
use mathlib.Core.List.{[]}
use native.Mathlib.Nat.{add_assoc}
use native.Mathlib.Omega.{arith}
use lib.ListN.{length, get_or, drop, length-drop}
use lib.Seq.{take_all}
use borrow.Author.Rules.{rules}
use Rattle.laws.specs.Bytes.{Bytes}
use Rattle.byte_runs.specs.Runs.{is_of, All, lead}
use Rattle.byte_runs.proofs.Laws.{all-add, lead-drop, lead-past, lead-on, lead-prefix_len, run_inside}
use Rattle.byte_runs.proofs.Marks.{all-eight, first-eight, chunk_inside, chunk-word, chunks_inside, chunks-rest}
use Rattle.byte_runs.proofs.run.Goals as goal
use Rattle.byte_runs.proofs.run.Goals.{After-first, After-leading}

-- where no word has a mark, the run goes on in the bytes behind the last
whole : (c : After-leading) → let a = c.args in 8 * length c.as_chunks.result.0.now + c.leading.result ≡ lead (is_of a.sort) (drop a.i a.s.now)
whole c =
    let a = c.args in
    let s = a.s.now in
    let n = length s - a.i in
    let p = is_of a.sort in
    let cs = c.as_chunks.result.0.now in
    let m = 8 * length cs in
    let tail = c.as_chunks.result.1.now in
    let cut = c.as_chunks.ensures in
    let inside = chunks_inside s a.i n cs (omega arith) cut.front cut.front_len in
    let part = chunks-rest s a.i n cs (omega arith) cut.front cut.front_len tail cut.back in
    let rest : length (drop (a.i + m) s) ≤ n - m = simp length-drop (omega arith) in
    let k : 8 * c.loop-k.k ≡ m = omega arith in
    ap (λ (r : ℕ). m + r) (c.leading.ensures ∙ sym (lead-prefix_len p tail) ∙ ap (lead p) (part ∙ take_all (n - m) (drop (a.i + m) s) rest))
    ∙ sym (lead-on p s a.i m (omega arith) (subst (All p s a.i) k c.loop-k.invariant))

-- what stands before the mark is of the sort, less than eight bytes, and the next is not
passed : (c : After-first) → let a = c.args in let at = a.i + 8 * c.loop-k.k in let r = c.first.result in (at + 8 ≤ length a.s.now) × All (is_of a.sort) a.s.now at r × (r < 8) × (is_of a.sort (get_or a.s.now (at + r) 0) ≡ false)
passed c =
    let a = c.args in
    let s = a.s.now in
    let n = length s - a.i in
    let k = c.loop-k.k in
    let cs = c.as_chunks.result.0.now in
    let cut = c.as_chunks.ensures in
    let others = c.others-z in
    let known : Bytes s = λ j. (c.type_inv.s j).fits in
    let g = chunk_inside s a.i n cs (omega arith) cut.front cut.front_len k c.loop-k-test.true in
    let w = chunk-word s a.i n cs (omega arith) cut.front cut.front_len k c.word.result [] c.loop-k-test.true c.word.ensures in
    let f = first-eight s (a.i + 8 * k) 8 c.word.result known g refl w (is_of a.sort) others.result c.first.result others.ensures (search rules) c.first.ensures in
    (g, f.0, f.1, f.2)

pub returns-then-s-i : goal.returns-then-s-i
returns-then-s-i c = let a = c.args in sym (lead-past (is_of a.sort) a.s.now a.i (search rules))

pub overflow_add-result : goal.overflow_add-result
overflow_add-result c = let h = passed c in
    omega (arith, h.0, h.2)

pub returns-then-z-ne0 : goal.returns-then-z-ne0
returns-then-z-ne0 c = let a = c.args in
    let p = is_of a.sort in
    let m = 8 * c.loop-k.k in
    let r = c.first.result in
    let h = passed c in
    sym (lead-drop p a.s.now a.i (m + r) (omega (arith, h.0, h.2)) (all-add p a.s.now a.i m r c.loop-k.invariant h.1) (λ u. subst (λ (k : ℕ). p (get_or a.s.now k 0) ≡ false) (add_assoc a.i m r) h.3))

pub loop-k-preserved : goal.loop-k-preserved
loop-k-preserved c = let a = c.args in
    let s = a.s.now in
    let n = length s - a.i in
    let k = c.loop-k.k in
    let p = is_of a.sort in
    let cs = c.as_chunks.result.0.now in
    let cut = c.as_chunks.ensures in
    let others = c.others-z in
    let known : Bytes s = λ j. (c.type_inv.s j).fits in
    let g = chunk_inside s a.i n cs (omega arith) cut.front cut.front_len k c.loop-k-test.true in
    let w = chunk-word s a.i n cs (omega arith) cut.front cut.front_len k c.word.result [] c.loop-k-test.true c.word.ensures in
    let e : 8 * k + 8 ≡ 8 * (k + 1) = omega arith in
    subst (All p s a.i) e (all-add p s a.i (8 * k) 8 c.loop-k.invariant (all-eight s (a.i + 8 * k) 8 c.word.result known g refl w p others.result others.ensures c.if-z-ne0.false))

pub overflow_add-result-2 : goal.overflow_add-result-2
overflow_add-result-2 c = let a = c.args in
    omega (arith, run_inside (is_of a.sort) a.s.now a.i (8 * length c.as_chunks.result.0.now + c.leading.result) (omega arith) (whole c))

pub returns : goal.returns
returns c = whole c
