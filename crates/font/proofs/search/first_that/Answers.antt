use Rattle.std.proofs.Common.{◌∙◌, rules}
use Rattle.std.proofs.lemmas.Iterator.{YieldsList-from_slice}
use Rattle.std.proofs.lemmas.Iterator.Search.{find_from_yields_List}
use Rattle.font.proofs.Finds.{find-first_that}
use Rattle.font.proofs.search.first_that.Goals as goal

pub returns : goal.returns
returns g c =
    let passes = g.Q.Test.passes c.args.q.now in
    let f = find_from_yields_List passes _ _ c.find.result c.find.ensures.ran (YieldsList-from_slice c.args.items.now cc) (λ x b q k. search rules) in
    c.copied.ensures ∙ f ∙ find-first_that passes c.args.items.now
