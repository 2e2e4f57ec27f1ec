-- `tables::find` is right: the place is that of a search by the key. Assumes nothing.
use Rattle.std.proofs.Common.{eqb, rules, tests}
use Rattle.std.proofs.lemmas.Iterator.{YieldsList-from_slice}
use Rattle.std.proofs.lemmas.Iterator.Search.{position_from_yields_List}
use Rattle.tables.proofs.Laws.{first-position}
use Rattle.tables.proofs.find.Goals as goal

pub returns : goal.returns
returns c =
    let a = c.args in
    rw (first-position a.keys.now a.key) (position_from_yields_List (λ k. eqb k a.key) _ _ c.position.result c.position.ensures.ran (YieldsList-from_slice a.keys.now c.iter.ensures.rest) (λ x b q k. search (rules, tests)))
