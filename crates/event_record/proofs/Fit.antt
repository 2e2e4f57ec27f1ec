-- Which events have a sound record: what the transport step's events cite, so that none of them is refused by 41. Assumes nothing.
use mathlib.Core.Path.{◌≡◌, refl, ◌∙◌}
use Prim.Native.Nat.{ℕ, ◌+◌, ◌≤◌, ◌<◌}
use mathlib.Core.Bool.{Bool, true, false}
use mathlib.Core.List.{List, []}
use native.Mathlib.Omega.{arith}
use lib.ListN.{length, get_or}
use borrow.Author.Tests.{eq-eqb}
use Rattle.utf8.specs.Utf8.{Text}
use Rattle.utf8.proofs.Laws.{is_text-text}
use Rattle.network.specs.Split.{packet_size, Whole}
use Rattle.sound_record.specs.Record.{written, sound_at}
use Rattle.event_record.specs.Event.{Event, enumeration_started, identity, version_text, enumeration_ended, slot_captured, slot_counter, packet, command, body_of, record_of}
use Rattle.sound_record.proofs.Soundness.{sound_body-1, sound_body-2, sound_body-3, sound_body-4, sound_body-5, sound_body-6, sound_body-7}
use Rattle.event_record.proofs.Written.{sound_at-framed}
use Rattle.event_record.proofs.Commands.{command-sound}

module _ (g : ℕ) (h : g ≤ 0x7fff) where
  abbrev pub Fits : Event → Type 0
  Fits e = sound_at written (record_of written g e) ≡ true

  pub fits-started : Fits enumeration_started
  fits-started = sound_at-framed written 1 g [] h ∙ sound_body-1 written []

  pub fits-identity : (address : List ℕ) → length address ≡ 8 → Fits (identity address)
  fits-identity a e = sound_at-framed written 2 g a h ∙ sound_body-2 written a ∙ eq-eqb (length a) 8 e

  pub fits-version : (text : List ℕ) → length text ≤ 1024 → Text text → Fits (version_text text)
  fits-version t l u = sound_at-framed written 3 g t h ∙ sound_body-3 written t l ∙ (is_text-text t).1 u

  pub fits-ended : Fits enumeration_ended
  fits-ended = sound_at-framed written 4 g [] h ∙ sound_body-4 written []

  pub fits-captured : Fits slot_captured
  fits-captured = sound_at-framed written 5 g [] h ∙ sound_body-5 written []

  pub fits-counter : (counter : ℕ) (repeat : Bool) → Fits (slot_counter counter repeat)
  fits-counter n true = sound_at-framed written 6 g (body_of written (slot_counter n true)) h ∙ sound_body-6 written (body_of written (slot_counter n true)) refl
  fits-counter n false = sound_at-framed written 6 g (body_of written (slot_counter n false)) h ∙ sound_body-6 written (body_of written (slot_counter n false)) refl

  pub fits-packet : (bytes : List ℕ) → get_or bytes 6 0 < 256 → Whole bytes → Fits (packet bytes)
  fits-packet b l w = sound_at-framed written 7 g b h ∙ sound_body-7 written b l ∙ eq-eqb (packet_size b) (length b) w

  pub fits-command : (asked : ℕ) (request : List ℕ) (answered : ℕ) (response : List ℕ) → length request ≤ 255 → length request + length response ≤ 1022
      → Fits (command asked request answered response)
  fits-command t q u p l m = sound_at-framed written 8 g (body_of written (command t q u p)) h ∙ command-sound t u q p l (omega arith)
