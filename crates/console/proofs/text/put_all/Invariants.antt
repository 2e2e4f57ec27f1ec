-- `console::text::put_all` puts the bytes that it has passed, and what is left to put comes to the same text. Assumes nothing.
use Rattle.std.proofs.Common.{◌≡◌, drop}
use Rattle.console.specs.Text.{output, put_bytes}
use Rattle.console.proofs.text.put_all.Given as goal

abbrev pub invariant-loop-b : goal.invariant-loop-b
invariant-loop-b l = put_bytes (output l.initial.bytes l.initial.at) l.s ≡ put_bytes (output l.bytes l.next) (drop l.b-index l.s)
