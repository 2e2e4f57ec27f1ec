-- `Address::to_be_bytes` takes apart what `u16::try_from` gives. Assumes nothing.
use mathlib.Core.Path.{◌≡◌, sym}
use Prim.Native.Nat.{◌/◌, ◌%◌}
use native.Mathlib.Omega.{arith}
use Rattle.std.proofs.lemmas.Result.{err_from_is_err_and}
use Rattle.address.proofs.Laws.{bytes_handed-value, bytes_handed-refused}
use Rattle.address.proofs.Address.to_be_bytes.Goals as goal

pub returns-in_err-number : goal.returns-in_err-number
returns-in_err-number c =
    let p = err_from_is_err_and c.from_residual.result c.from_residual.ensures.1 in
    rw p.1 (sym (bytes_handed-refused c.args.self (sym c.in_err-number.ensures)))

pub returns : goal.returns
returns c = let n = c.in_ok-number.number in
    let high : n / 256 % 256 ≡ n / 256 = omega arith in
    rw (c.to_be_bytes.ensures, high) (sym (bytes_handed-value c.args.self n (sym c.in_ok-number.ensures)))
