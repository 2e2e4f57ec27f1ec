-- Each pair is put where the text ends, and at the end nothing is left to put.
use Rattle.std.proofs.Common.{rules, ◌+◌, ap, sym, ◌∙◌, drop}
use Rattle.console.specs.declared.text.Output.{Output}
use Rattle.console.specs.Text.{output, put_bytes, hexes_of}
use Rattle.console.proofs.Laws.{hexes_of-cons, hexes_of-end}
use Rattle.console.proofs.text.put_hex.Goals as goal

pub loop-b-preserved : goal.loop-b-preserved
loop-b-preserved c =
    let l = c.loop-b in
    let s = c.args.s.now in
    l.invariant ∙ hexes_of-cons (output l.bytes l.next) s l.b-index (search rules) ∙ ap (λ (o : Output). put_bytes o (hexes_of (drop (l.b-index + 1) s))) (sym c.put_pair-next.ensures)

pub returns : goal.returns
returns c =
    let l = c.loop-b in
    sym (l.invariant ∙ hexes_of-end (output l.bytes l.next) c.args.s.now l.b-index (search rules))
