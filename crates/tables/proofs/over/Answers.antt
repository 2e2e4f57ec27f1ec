-- `tables::over` is right: with no length over the limit no held place has one; else keys and lengths are looked at side by side. Assumes nothing.
use Rattle.std.proofs.Common.{sym, ◌∙◌, not, ◌&&◌, eqb, ltb, rules, tests}
use Rattle.std.proofs.lemmas.Iterator.{YieldsList-from_slice, YieldsList-from_zip}
use Rattle.std.proofs.lemmas.Iterator.Consumers.{YieldsList-at}
use Rattle.std.proofs.lemmas.Iterator.Search.{any_from_yields_List}
use Rattle.tables.proofs.Laws.{over_none, over-pairs}
use Rattle.tables.proofs.over.Goals as goal

pub returns-then-any_over : goal.returns-then-any_over
returns-then-any_over c = let a = c.args in
    rw (over-pairs a.keys.now a.lengths.now a.limit) (any_from_yields_List (λ p. not (eqb p.0 0) && ltb a.limit p.1) c.any.new.self _ c.any.result c.any.ensures.ran (YieldsList-from_zip {s = c.zip.result} (YieldsList-at c.zip.ensures.first (YieldsList-from_slice a.keys.now c.iter.ensures.rest)) (YieldsList-from_slice a.lengths.now c.zip.ensures.second.0)) (λ x b q k. search (rules, tests)))

pub returns-else-any_over : goal.returns-else-any_over
returns-else-any_over c = let a = c.args in
    c.if-any_over.false ∙ sym (over_none a.keys.now a.lengths.now a.limit (sym c.any_over.ensures ∙ c.if-any_over.false))
