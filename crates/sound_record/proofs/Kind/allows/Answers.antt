-- `sound_record::Kind::allows` goes by the kind, and asks of each what its law asks. Assumes nothing.
use mathlib.Core.Path.{sym, ◌∙◌}
use native.Mathlib.Omega.{arith}
use mathlib.Core.Logic.{inl, inr}
use borrow.Author.Tests.{lt-leb, ne_eqb}
use Rattle.utf8.proofs.Laws.{is-text-told}
use Rattle.sound_record.proofs.Soundness.{sound_body-1, sound_body-2, sound_body-3, sound_body-3-long, sound_body-4, sound_body-5, sound_body-6, sound_body-6-length, sound_body-7, sound_body-7-short, sound_body-8, sound_body-8-short, sound_body-8-long}
use borrow.Author.Rules.{rules}
use Rattle.sound_record.proofs.Kind.allows.Goals as goal

pub returns-in-EnumerationStarted : goal.returns-in-EnumerationStarted
returns-in-EnumerationStarted c = elim c.in-EnumerationStarted.is [ inl e ↦ rw e (sym (sound_body-1 _ _)) | inr f ↦ elim f [ inl e ↦ rw e (sym (sound_body-4 _ _)) | inr e ↦ rw e (sym (sound_body-5 _ _)) ] ]

pub returns-in-Identity : goal.returns-in-Identity
returns-in-Identity c = rw c.in-Identity.is (sym (sound_body-2 _ _))

pub returns-then-n-le1024 : goal.returns-then-n-le1024
returns-then-n-le1024 c = rw c.in-VersionText.is (is-text-told _ _ c.is_text.ensures ∙ sym (sound_body-3 _ _ (search rules)))

pub returns-else-n-le1024 : goal.returns-else-n-le1024
returns-else-n-le1024 c = rw (c.in-VersionText.is, lt-leb _ 1024 c.if-n-le1024.false) (sym (sound_body-3-long _ _ c.if-n-le1024.false))

pub returns-then-n-eq3 : goal.returns-then-n-eq3
returns-then-n-eq3 c = rw c.in-SlotCounter.is (sym (sound_body-6 _ _ (search rules)))

pub returns-else-n-eq3 : goal.returns-else-n-eq3
returns-else-n-eq3 c = rw (c.in-SlotCounter.is, ne_eqb _ 3 c.if-n-eq3.false) (sym (sound_body-6-length _ _ c.if-n-eq3.false))

pub returns-then-n-ge7 : goal.returns-then-n-ge7
returns-then-n-ge7 c = rw (c.in-Packet.is, c.from.ensures) (sym (sound_body-7 _ _ (omega (arith, c.type_inv.body 6))))

pub returns-else-n-ge7 : goal.returns-else-n-ge7
returns-else-n-ge7 c = rw (c.in-Packet.is, lt-leb 7 _ c.if-n-ge7.false) (sym (sound_body-7-short _ _ c.if-n-ge7.false))

pub returns-in_default : goal.returns-in_default
returns-in_default c = rw c.in-Command.is (sym (sound_body-8-short _ _ c.in_default.len_below))

pub returns-then-n-le1025 : goal.returns-then-n-le1025
returns-then-n-le1025 c = rw (c.in-Command.is, c.from-then-n-le1025.ensures) (sym (sound_body-8 _ _ (omega (arith, c.type_inv.body 1)) c.if-n-le1025.true))

pub returns-else-n-le1025 : goal.returns-else-n-le1025
returns-else-n-le1025 c = rw (c.in-Command.is, lt-leb _ 1025 c.if-n-le1025.false) (sym (sound_body-8-long _ _ c.if-n-le1025.false))
