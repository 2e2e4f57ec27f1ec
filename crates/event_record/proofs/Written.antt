-- What is written: the exact length of a record, that it is sound exactly if its body is, and the answers of the encoders.
-- Assumes nothing.
use mathlib.Core.Path.{◌≡◌, refl, sym, ◌∙◌, ap}
use Prim.Native.Nat.{ℕ, ◌+◌, ◌≤◌}
use mathlib.Core.Bool.{Bool, true, false, cond}
use mathlib.Core.List.{List, [], ◌++◌}
use native.Mathlib.Omega.{arith}
use native.Mathlib.Nat.{div-add-mod'}
use lib.ListN.{length, drop, length-append}
use lib.Seq.{drop_at}
use lib.Dec.{leb, ltb, eqb}
use borrow.Author.Tests.{leb-true, ltb-false}
use Rattle.laws.specs.Bytes.{be16, laid_over, laid_if}
use Rattle.words.specs.Words.{copied_in}
use Rattle.words.proofs.Laws.{copied_in-laid_over}
use Rattle.sound_record.specs.Record.{written, between, body_start, body_limit, is_body, sound_body, all_below, sound_at}
use Rattle.event_record.specs.Layout.{extra, following, framed, head_of}
use Rattle.laws.specs.Handed.{Handed, refused, value}
use Rattle.event_record.specs.Handed.{admitted, framed_handed, framed_bytes}
use Rattle.std.specs.Prelude.{IfSome, is_none, unwrap_or}
use Rattle.std.specs.Bool.{then_some}
use Rattle.laws.proofs.Cases.{by}
use Rattle.sound_record.proofs.Soundness.{body_start-written, both, sound-body}

-- no sound body is longer than kind 8 allows
pub sound-small : (v kind : ℕ) (b : List ℕ) → sound_body v kind b ≡ true → length b ≤ 1025
unfolding sound_body
sound-small v kind b e = go (eqb kind 8) (leb-true (length b) (body_limit v kind) (both (leb (length b) (body_limit v kind)) (is_body v kind b) e).0)
  where
    go : (t : Bool) → length b ≤ cond t 1025 1024 → length b ≤ 1025
    go true h = h
    go false h = omega arith

pub sized-small : (v kind : ℕ) (b : List ℕ) → IfSome (then_some (sound_body v kind b) (length b)) (λ n. n ≤ 1025)
sized-small v kind b = go (sound_body v kind b) (sound-small v kind b)
  where
    go : (t : Bool) → (t ≡ true → length b ≤ 1025) → IfSome (then_some t (length b)) (λ n. n ≤ 1025)
    go true h = h refl
    go false h = tt

-- what a version writes between gateway and body is what may stand there
pub length-extra : (v : ℕ) → length (extra v) ≡ length (between v)
unfolding extra between
length-extra v = refl

below-extra : (v : ℕ) (body : List ℕ) → all_below (between v) (extra v ++ body) ≡ true
unfolding extra between
below-extra v body = refl

module _ (v kind g : ℕ) (body : List ℕ) where
  pub framed-head : framed v kind g body ≡ head_of v kind g (length body) ++ body
  unfolding framed
  framed-head =
      let e : length (following v kind g body) ≡ 4 + length (extra v) + length body = simp length-append (omega arith) in
      ap (λ (n : ℕ). be16 n ++ following v kind g body) e

  length-head : length (head_of v kind g (length body)) ≡ body_start v
  length-head = omega (arith, length-extra v)

  -- the body stands behind the head
  pub drop-framed : drop (body_start v) (framed v kind g body) ≡ body
  drop-framed = rw framed-head (drop_at (head_of v kind g (length body)) body (body_start v) length-head)

  pub length-framed : length (framed v kind g body) ≡ body_start v + length body
  length-framed = rw framed-head (length-append (head_of v kind g (length body)) body ∙ ap (λ (n : ℕ). n + length body) length-head)

  -- a record is sound exactly if its body is and its gateway has 15 bits
  pub sound_at-framed : g ≤ 0x7fff → sound_at v (framed v kind g body) ≡ sound_body v kind body
  unfolding framed
  sound_at-framed h =
      let n = length-framed in
      sound-body v (framed v kind g body) (omega (arith, n, div-add-mod' (length (following v kind g body)) 256)) refl (omega (arith, n))
      (omega (arith, div-add-mod' g 256)) (below-extra v body)
      ∙ ap (sound_body v kind) drop-framed

-- in version 1 the head has six bytes
pub length-written : (kind g : ℕ) (body : List ℕ) → length (framed written kind g body) ≡ 6 + length body
length-written kind g body = length-framed written kind g body ∙ ap (λ (n : ℕ). n + length body) body_start-written

-- the six bytes before a body copied to the start
pub head-laid : (xs out d : List ℕ) → length xs ≤ length out → d ≡ copied_in out 0 xs → d ≡ laid_over xs out
head-laid xs out d h e = e ∙ copied_in-laid_over [] xs out (omega arith)

-- the head laid down, and then the body behind it
pub framed-laid : (kind g n : ℕ) (body out d e : List ℕ) → 6 + length body ≤ length out → n ≡ length body → d ≡ laid_over (head_of written kind g n) out → e ≡ copied_in d 6 body
    → e ≡ laid_over (framed written kind g body) out
framed-laid kind g n body out d e h l f i =
    let head = head_of written kind g (length body) in
    let k : length head ≡ 6 = length-head written kind g body ∙ body_start-written in
    i ∙ ap (λ (x : List ℕ). copied_in x 6 body) (f ∙ ap (λ (m : ℕ). laid_over (head_of written kind g m) out) l)
    ∙ ap (λ (m : ℕ). copied_in (laid_over head out) m body) (sym k)
    ∙ copied_in-laid_over head body out (omega (arith, k))
    ∙ ap (λ (r : List ℕ). laid_over r out) (sym (framed-head written kind g body))

-- the order 13, 41, 40, asked of a body's soundness and length, is the one asked of the record
module _ (kind g : ℕ) (body : List ℕ) (room : ℕ) where
  pub admitted-framed : admitted g (then_some (sound_body written kind body) (length body)) room ≡ framed_handed kind g body room
  unfolding framed_handed
  admitted-framed =
      by (ltb 0x7fff g) (λ t. rw t)
      (λ t. let h = ltb-false 0x7fff g t in
      rw (t, sound_at-framed written kind g body h, length-written kind g body)
      (by (sound_body written kind body) (λ u. rw u) (λ u. rw u)))

  -- what is admitted is sound, and has room
  pub admitted-fits : (n : ℕ) → value n ≡ admitted g (then_some (sound_body written kind body) (length body)) room
      → (sound_body written kind body ≡ true) × (n ≡ 6 + length body) × (n ≤ room)
  admitted-fits n = go (ltb 0x7fff g) (sound_body written kind body) (ltb room (6 + length body)) refl
    where
      go : (a b c : Bool) → ltb room (6 + length body) ≡ c
          → value n ≡ cond a (refused 13) (cond (is_none (then_some b (length body))) (refused 41) (cond (ltb room (6 + unwrap_or (then_some b (length body)) 0)) (refused 40) (value (6 + unwrap_or (then_some b (length body)) 0))))
          → (b ≡ true) × (n ≡ 6 + length body) × (n ≤ room)
      go true b c f e = let z : ◌≡◌ {A = ℕ} 0 1 = cc in absurd (omega arith)
      go false false c f e = let z : ◌≡◌ {A = ℕ} 0 1 = cc in absurd (omega arith)
      go false true true f e = absurd (let h : value n ≡ refused 40 = rw f at e in let z : ◌≡◌ {A = ℕ} 0 1 = cc in omega arith)
      go false true false f e = let h : value n ≡ value (6 + length body) = rw f at e in let m : n ≡ 6 + length body = cc in (refl, m, omega (arith, ltb-false room (6 + length body) f))

-- what an encoder hands back and leaves in the buffer: the record over its start, if it is admitted
module _ (kind g : ℕ) (body out : List ℕ) (h : Handed ℕ) where
  abbrev pub Answers : List ℕ → Type 0
  Answers after = (h ≡ framed_handed kind g body (length out)) × (after ≡ framed_bytes kind g body out)

  pub answers : h ≡ admitted g (then_some (sound_body written kind body) (length body)) (length out) → Answers (laid_if h (framed written kind g body) out)
  answers e = let f = e ∙ admitted-framed kind g body (length out) in (f, ap (λ (x : Handed ℕ). laid_if x (framed written kind g body) out) f)
