use Rattle.std.proofs.Common.{nat_eq, ◌∙◌, arith, rules}
use Rattle.std.proofs.lemmas.Bool.Decides.{nat_tests}
use Rattle.std.proofs.lemmas.Iterator.{YieldsList-from_slice}
use Rattle.std.proofs.lemmas.Iterator.Search.{find_from_yields_List}
use Rattle.font.specs.declared.pairs.Pair.{Pair}
use Rattle.font.proofs.Finds.{find-first_that}
use Rattle.font.proofs.stand_in.StandInFontSource.glyph.Goals as goal

pub returns : goal.returns
returns g c =
    let test = λ (pair : Pair). nat_eq pair.character c.args.character in
    let f = find_from_yields_List test _ _ c.find-first.result c.find-first.ensures.ran (YieldsList-from_slice c.pairs.result.now cc) (λ x b q k. search rules) ∙ find-first_that test c.pairs.result.now in
    grind (arith, nat_tests)
