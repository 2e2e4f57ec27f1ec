-- `sound_record::sound_version` asks the parts of a sound record one after the other. Assumes nothing.
use mathlib.Core.Path.{sym, ap, ◌∙◌}
use Prim.Native.Nat.{ℕ, ◌-◌}
use native.Mathlib.Omega.{arith}
use lib.ListN.{get_or, length, drop, length-drop}
use lib.Seq.{take_all}
use borrow.Author.Tests.{eqb-true, leb-true, eq-eqb, ne_eqb, le-leb}
use Rattle.laws.proofs.Cases.{never}
use Rattle.sound_record.specs.Record.{written, kind_at, gateway_end, sound_body}
use Rattle.sound_record.proofs.Soundness.{sound-body, not_sound, below_none, sound_body-alike}
use Rattle.sound_record.proofs.sound_version.Goals as goal
use Rattle.sound_record.proofs.sound_version.Goals.{then-size_of-bytes, else-size_of-bytes, then-bytes-version, else-bytes-version}

pub returns-in_default : goal.returns-in_default
returns-in_default c = sym (not_sound _ _ (λ p. omega (arith, p.head, c.in_default.ensures.lookup, c.body_start.ensures)))

pub returns-then-bytes-le127 : goal.returns-then-bytes-le127
returns-then-bytes-le127 c = elim c.if-bytes-version.branch [
  | then-bytes-version w ↦ elim c.if-size_of-bytes.branch [
    | then-size_of-bytes u ↦
        let a = c.args in
        let r = a.bytes.now in
        let s = c.body_start.result in
        let l = c.in-Some.ensures.lookup.0 in
        c.sound_body.ensures
        ∙ rw (l.2, take_all (length r - s) (drop s r) (simp length-drop (omega arith)))
        (sound_body-alike written a.version _ _
        ∙ ap (λ (n : ℕ). sound_body a.version (get_or r kind_at 0) (drop n r)) c.body_start.ensures
        ∙ sym
        (sound-body a.version r (omega (arith, u.if-size_of-bytes.true, c.size_of.ensures)) (eqb-true _ _ (sym u.value-is ∙ w.if-bytes-version.true)) (omega (arith, l.0, c.body_start.ensures))
        (omega (arith, leb-true _ 127 (sym w.value-is ∙ c.if-bytes-le127.true), c.type_inv.bytes 5)) (below_none a.version (drop gateway_end r))))
    | else-size_of-bytes u ↦ never (sym (ne_eqb _ _ u.if-size_of-bytes.false) ∙ sym u.value-is ∙ w.if-bytes-version.true)
  ]
  | else-bytes-version w ↦ never (sym w.if-bytes-version.false ∙ sym w.value-is ∙ c.if-bytes-le127.true)
]

pub returns-else-bytes-le127 : goal.returns-else-bytes-le127
returns-else-bytes-le127 c =
    c.if-bytes-le127.false
    ∙ sym
    (not_sound _ _
    (λ p. elim c.if-bytes-version.branch [
      | then-bytes-version w ↦ never (sym c.if-bytes-le127.false ∙ w.value-is ∙ le-leb _ 127 (omega (arith, p.gateway)))
      | else-bytes-version w ↦ elim c.if-size_of-bytes.branch [
        | then-size_of-bytes u ↦ never (sym w.if-bytes-version.false ∙ u.value-is ∙ eq-eqb _ _ p.version)
        | else-size_of-bytes u ↦ omega (arith, u.if-size_of-bytes.false, c.size_of.ensures, p.whole)
      ]
    ]))
