-- What is stored of commands and packet numbers, and asked again. Assumes nothing.
use Rattle.std.specs.Prelude.{ℕ, ◌+◌, ◌*◌, Bool, List, ◌==◌}

-- 01, "Transport": what is stored "for the gateway": the number of its key
abbrev pub gateway_key : ℕ → ℕ
gateway_key gateway = gateway

-- 01, "Transport": a command request is kept under gateway and sequence: both as one number
abbrev pub command_key : ℕ → ℕ → ℕ
command_key gateway sequence = gateway * 256 + sequence

-- 01, "Transport": 64 waiting commands of up to 245 payload bytes: the most that is kept of a request ..
abbrev pub kept_limit : ℕ
kept_limit = 245

-- .. how many bytes of the pool of payloads each place has ..
abbrev pub stride : ℕ
stride = 245

-- .. and how many there are in all
abbrev pub pool_size : ℕ
pool_size = 15680

-- Added: the slot event carries a repeat mark, set when the response's number equals the one stored before it
abbrev pub repeats : ℕ → ℕ → List ℕ → Bool
repeats number before area = number == before
