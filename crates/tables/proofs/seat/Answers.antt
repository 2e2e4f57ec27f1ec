-- `tables::seat` is right: both searches are `find`. Assumes nothing.
use mathlib.Core.Path.{◌≡◌, ◌∙◌}
use lib.ListN.{length}
use lib.Dec.{ltb}
use borrow.Author.Rules.{rules}
use Rattle.std.specs.Prelude.{Option, Some, None, ℕ}
use Rattle.laws.proofs.Cases.{by}
use Rattle.tables.specs.Keys.{first_of, seat_of}
use Rattle.tables.proofs.seat.Goals as goal

pub returns : goal.returns
unfolding seat_of
returns c =
    let n = length c.args.keys.now in
    let i = first_of c.args.keys.now c.args.key in
    by (ltb i n)
    (λ e. let h : c.find.result ≡ Some i = c.find.ensures ∙ rw e in rw (e, e) (rw h at c.or_else.ensures))
    (λ e. let h : ◌≡◌ {A = Option ℕ} c.find.result None = c.find.ensures ∙ rw e in rw e (let w = rw h at c.or_else.ensures in search rules))
