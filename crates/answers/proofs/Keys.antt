-- Keys of different things differ. Assumes nothing.
use Rattle.std.proofs.Common.{◌≡◌, ℕ, ◌<◌, arith}
use Rattle.answers.specs.Stored.{gateway_key, command_key}

-- two gateways under one key are one
pub gateway_key-apart : (g h : ℕ) → gateway_key g ≡ gateway_key h → g ≡ h
gateway_key-apart g h e = e

-- gateway and sequence as one number say both: two commands under one key have one gateway and one sequence
pub command_key-apart : (g h s t : ℕ) → s < 256 → t < 256 → command_key g s ≡ command_key h t → (g ≡ h) × (s ≡ t)
command_key-apart g h s t a b e = (omega arith, omega arith)
