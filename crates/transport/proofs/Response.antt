-- What is handed back of a receive response tells any two answers apart. Assumes nothing.
use Rattle.std.proofs.Common.{◌≡◌, ℕ, Ok, Err, ap₂, arith}
use Rattle.transport.specs.declared.ReceiveResponse.{ReceiveResponse}
use Rattle.transport.specs.declared.ReceiveResponseError.TheVariants.{TooShort, UnknownStatusType}
use Rattle.transport.specs.Response.{Read, handed_read}

-- what is handed back tells any two answers apart, so a contract over either determines the answer
pub handed_read-apart : (q r : Read) → handed_read q ≡ handed_read r → q ≡ r
handed_read-apart (Ok x) (Ok y) e =
    let a : x.0 ≡ y.0 = cc in
    let b : x.1 ≡ y.1 = cc in
    ap₂ (λ (r : ReceiveResponse) (n : ℕ). Ok (r, n)) a b
handed_read-apart (Err (TooShort m)) (Err (TooShort n)) e = cc
handed_read-apart (Err (UnknownStatusType m)) (Err (UnknownStatusType n)) e = cc
handed_read-apart (Ok x) (Err (TooShort n)) e = let z : ◌≡◌ {A = ℕ} 0 1 = cc in absurd (omega arith)
handed_read-apart (Ok x) (Err (UnknownStatusType n)) e = let z : ◌≡◌ {A = ℕ} 0 1 = cc in absurd (omega arith)
handed_read-apart (Err (TooShort m)) (Ok y) e = let z : ◌≡◌ {A = ℕ} 0 1 = cc in absurd (omega arith)
handed_read-apart (Err (UnknownStatusType m)) (Ok y) e = let z : ◌≡◌ {A = ℕ} 0 1 = cc in absurd (omega arith)
handed_read-apart (Err (TooShort m)) (Err (UnknownStatusType n)) e = let z : ◌≡◌ {A = ℕ} 23 22 = cc in absurd (omega arith)
handed_read-apart (Err (UnknownStatusType m)) (Err (TooShort n)) e = let z : ◌≡◌ {A = ℕ} 22 23 = cc in absurd (omega arith)
