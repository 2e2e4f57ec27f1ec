-- `link::encode` asks for the address's number first, which is refused by 13. Assumes nothing.
use mathlib.Core.Path.{sym, ap, ◌∙◌}
use borrow.Author.Tests.{lt-ltb, le-ltb}
use Rattle.address.specs.Address.{address_of}
use Rattle.laws.proofs.Numbers.{handed_by-kept}
use Rattle.address.specs.Handed.{refusal_of as address_refusal}
use Rattle.address.proofs.Laws.{number-accepted, number-refused, address_of-number_of}
use Rattle.link.specs.Handed.{refusal_of, encode_handed, encode_bytes, numbered_bytes}
use Rattle.link.proofs.encode.Goals as goal

pub returns-in_err-number : goal.returns-in_err-number
unfolding encode_handed encode_bytes
returns-in_err-number c = let a = c.args in
    let e = lt-ltb _ _ (number-refused a.address (sym c.in_err-number.ensures)) in
    let kept = handed_by-kept address_refusal refusal_of c.from_residual.result c.in_err-number.field-0.0 c.from_residual.ensures.1 in
    record { answer = rw e kept; bytes = rw e }

pub returns : goal.returns
unfolding encode_handed encode_bytes numbered_bytes
returns c = let a = c.args in
    let x = number-accepted a.address _ (sym c.in_ok-number.ensures) in
    let e = le-ltb _ _ x.0 in
    let y = ap address_of x.1 ∙ address_of-number_of a.address x.0 in
    record { answer = rw e (rw y at c.encode_numbered.ensures.answer); bytes = rw e (rw y at c.encode_numbered.ensures.bytes) }
