-- Kind 8's body: its length, when it is sound, and that its four pieces copied in one after another lay it down. Assumes nothing.
use mathlib.Core.Path.{◌≡◌, refl, ◌∙◌, ap}
use Prim.Native.Nat.{ℕ, ◌+◌, ◌≤◌}
use mathlib.Core.Bool.{true, ◌&&◌}
use mathlib.Core.List.{List, [], ◌∷◌, ◌++◌, append_assoc}
use native.Mathlib.Omega.{arith}
use lib.ListN.{length, length-append}
use lib.Dec.{leb}
use borrow.Author.Tests.{leb-true, leb-false, le-leb}
use Rattle.std.specs.Bool.{then_some}
use Rattle.laws.proofs.Cases.{by}
use Rattle.words.specs.Words.{copied_in}
use Rattle.words.proofs.Laws.{copied_in-append}
use Rattle.sound_record.specs.Record.{written, sound_body}
use Rattle.event_record.specs.Event.{body_of, command}
use Rattle.sound_record.proofs.Soundness.{sound_body-8, sound_body-8-wide, sound_body-8-long}

module _ (t u : ℕ) (q p : List ℕ) where
  abbrev body : List ℕ
  body = body_of written (command t q u p)

  pub length-command : length body ≡ 3 + length q + length p
  length-command = simp length-append (omega arith)

  pub command-sound : length q ≤ 255 → 3 + length q + length p ≤ 1025 → sound_body written 8 body ≡ true
  command-sound h l =
      sound_body-8 written body (omega arith) (omega (arith, length-command)) ∙ le-leb (3 + length q) (length body) (omega (arith, length-command))

  -- what `command` asks of the two payloads' lengths is that the body is sound
  pub command-size : then_some (leb (length q) 255 && leb (length q + length p) 1022) (3 + length q + length p) ≡ then_some (sound_body written 8 body) (length body)
  command-size =
      by (leb (length q) 255)
      (λ h. by (leb (length q + length p) 1022)
      (λ l. rw (h, l, length-command, command-sound (leb-true _ 255 h) (omega (arith, leb-true _ 1022 l))))
      (λ l. rw (h, l, sound_body-8-long written body (omega (arith, length-command, leb-false _ 1022 l)))))
      (λ h. rw (h, sound_body-8-wide written body (leb-false _ 255 h)))

  -- a piece behind those before it
  laid : (out xs ys d e : List ℕ) (k : ℕ) → 6 + length xs + length ys ≤ length out → d ≡ copied_in out 6 xs → k ≡ 6 + length xs → e ≡ copied_in d k ys
      → e ≡ copied_in out 6 (xs ++ ys)
  laid out xs ys d e k h f g i = i ∙ rw (f, g) (copied_in-append out 6 xs ys h)

  pub command-laid : (out d₁ d₂ d₃ d₄ : List ℕ) → 9 + length q + length p ≤ length out → d₁ ≡ copied_in out 6 (t ∷ length q ∷ []) → d₂ ≡ copied_in d₁ 8 q
      → d₃ ≡ copied_in d₂ (8 + length q) (u ∷ []) → d₄ ≡ copied_in d₃ (9 + length q) p → d₄ ≡ copied_in out 6 body
  command-laid out d₁ d₂ d₃ d₄ h e₁ e₂ e₃ e₄ =
      let x : List ℕ = t ∷ length q ∷ [] in
      let f₂ = laid out x q d₁ d₂ 8 (omega arith) e₁ refl e₂ in
      let f₃ = laid out (x ++ q) (u ∷ []) d₂ d₃ (8 + length q) (omega arith) f₂ (omega arith) e₃ in
      let f₄ = laid out ((x ++ q) ++ (u ∷ [])) p d₃ d₄ (9 + length q) (simp length-append (omega arith)) f₃ (simp length-append (omega arith)) e₄ in
      f₄ ∙ ap (λ (l : List ℕ). copied_in out 6 (t ∷ length q ∷ l)) (append_assoc q (u ∷ []) p)
