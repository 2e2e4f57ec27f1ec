-- `console::text::put_hex` puts the pairs of the bytes that it has passed, and what is left to put comes to the same text. Assumes nothing.
use Rattle.std.proofs.Common.{◌≡◌, drop}
use Rattle.console.specs.Text.{output, put_bytes, hexes_of}
use Rattle.console.proofs.text.put_hex.Given as goal

abbrev pub invariant-loop-b : goal.invariant-loop-b
invariant-loop-b l = put_bytes (output l.initial.bytes l.initial.at) (hexes_of l.s) ≡ put_bytes (output l.bytes l.next) (hexes_of (drop l.b-index l.s))
