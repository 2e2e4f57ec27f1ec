-- `doors::receiver::johkkesir_push_u8` asks for 12, hands a byte to the receiver that it is lent and lays out what comes back, which 12 does not
-- refuse. Assumes nothing.
use Rattle.std.proofs.Common.{◌≡◌, Ok, Err, sym, refl, ap, ◌∙◌, arith, lt-ltb, le-ltb}
use Rattle.crc.specs.Crc.{crc_of}
use Rattle.link_receive.specs.declared.Stepped.{Stepped}
use Rattle.link_receive.specs.Frames.{Answered}
use Rattle.link_receive.specs.Numbered.{receiver_at, numbers_of}
use Rattle.link_receive.specs.Step.{rules_of, step_of}
use Rattle.link_receive.proofs.Numbers.{numbers_told-ok, numbers_told-err}
use Rattle.link_receive.proofs.Steps.{step_of-over}
use Rattle.link_feed.proofs.Drains.{step_of-steady}
use Rattle.doors.specs.Receivers.{taken_by}
use Rattle.doors.proofs.receiver.johkkesir_push_u8.Goals as goal

-- a step that is no refusal takes its byte
taken-one : (a : Answered) → (a ≡ Err (record {}) → ⊥) → taken_by a ≡ 1
taken-one (Ok x) n = refl
taken-one (Err x) n = absurd (n refl)

pub returns-then-numbers-gt-MAX_FRAME_SIZE : goal.returns-then-numbers-gt-MAX_FRAME_SIZE
unfolding rules_of
returns-then-numbers-gt-MAX_FRAME_SIZE c = let a = c.args in
    let over = c.if-numbers-gt-MAX_FRAME_SIZE.true in
    let o = step_of-over crc_of (receiver_at a.numbers.now a.body.now) a.b over in
    record { value = rw o; numbers_after = rw (lt-ltb _ _ over); body_after = rw o; found_after = rw (c.found_by.ensures, o) }

pub returns-in-Ok : goal.returns-in-Ok
unfolding rules_of
returns-in-Ok c = let a = c.args in
    let q = receiver_at a.numbers.now a.body.now in
    let e : c.push_u8-f.result ≡ step_of crc_of q a.b = rw c.receiver_at-r.ensures at c.push_u8-f.ensures in
    let within = c.if-numbers-gt-MAX_FRAME_SIZE.false in
    let told = numbers_told-ok _ _ (sym c.numbers_of.ensures ∙ c.in-Ok.is) in
    record {
      value = rw (taken-one (step_of crc_of q a.b).answer (step_of-steady crc_of q a.b within).answers);
      numbers_after = rw (le-ltb _ _ within) (told.1 ∙ ap (λ (x : Stepped). numbers_of x.next) e);
      body_after = ap (λ (x : Stepped). x.next.body) e;
      found_after = rw (c.found_by-2.ensures, e);
    }

pub returns-in_default : goal.returns-in_default
unfolding rules_of
returns-in_default c = let a = c.args in
    let q = receiver_at a.numbers.now a.body.now in
    let e : c.push_u8-f.result ≡ step_of crc_of q a.b = rw c.receiver_at-r.ensures at c.push_u8-f.ensures in
    let steady = step_of-steady crc_of q a.b c.if-numbers-gt-MAX_FRAME_SIZE.false in
    absurd (omega (arith, steady.within, ap (λ (x : Stepped). x.next.len) e, numbers_told-err _ _ (sym c.numbers_of.ensures ∙ c.in_default.is)))
