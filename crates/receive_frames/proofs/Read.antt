-- What is read of a receive response: its packet area starts within the payload. Assumes nothing.
use mathlib.Core.Path.{◌≡◌}
use Prim.Native.Nat.{ℕ, ◌≤◌}
use mathlib.Core.List.{List}
use native.Mathlib.Omega.{arith}
use lib.ListN.{length}
use lib.Dec.{ltb}
use borrow.Author.Tests.{ltb-false}
use Rattle.std.specs.Prelude.{Ok, Err}
use Rattle.laws.specs.Bytes.{be16_at}
use Rattle.transport.specs.declared.ReceiveResponse.{ReceiveResponse}
use Rattle.transport.specs.declared.ReceiveResponseError.TheVariants.{TooShort, UnknownStatusType}
use Rattle.transport.specs.Status.{accepted_of, needed_of}
use Rattle.transport.specs.Response.{Read, receive_read_of, response_in}
use Rattle.laws.proofs.Cases.{by}

-- `known_response` cites this where it takes the packet area
pub response-fits : (p : List ℕ) (old : ℕ) (r : ReceiveResponse × ℕ) → receive_read_of p old ≡ Ok r → r.1 ≤ length p
unfolding receive_read_of
response-fits p old r e =
    by (ltb (length p) 2)
    (λ a. absurd (let f : ◌≡◌ {A = Read} (Err (TooShort 5)) (Ok r) = rw a at e in let z : ◌≡◌ {A = ℕ} 0 1 = cc in omega arith))
    (λ a. by (accepted_of (be16_at p 0))
    (λ b. by (ltb (length p) (needed_of (be16_at p 0)))
    (λ c. absurd (let f : ◌≡◌ {A = Read} (Err (TooShort (needed_of (be16_at p 0)))) (Ok r) = rw (a, b, c) at e in let z : ◌≡◌ {A = ℕ} 0 1 = cc in omega arith))
    (λ c. let f : ◌≡◌ {A = Read} (Ok (response_in (be16_at p 0) p old, needed_of (be16_at p 0))) (Ok r) = rw (a, b, c) at e in let n : needed_of (be16_at p 0) ≡ r.1 = cc in omega (arith, ltb-false (length p) (needed_of (be16_at p 0)) c)))
    (λ b. absurd (let f : ◌≡◌ {A = Read} (Err (UnknownStatusType (be16_at p 0))) (Ok r) = rw (a, b) at e in let z : ◌≡◌ {A = ℕ} 0 1 = cc in omega arith)))
