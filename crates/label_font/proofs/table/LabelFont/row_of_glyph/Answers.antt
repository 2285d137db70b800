use Rattle.std.proofs.Common.{nat_eq, ◌∙◌, arith, rules}
use Rattle.std.proofs.lemmas.Bool.Decides.{nat_tests}
use Rattle.std.proofs.lemmas.Iterator.{YieldsList-from_slice}
use Rattle.std.proofs.lemmas.Iterator.Search.{find_from_yields_List}
use Rattle.label_font.specs.declared.table.LabelRow.{LabelRow}
use Rattle.font.proofs.Finds.{find-first_that}
use Rattle.label_font.proofs.table.LabelFont.row_of_glyph.Goals as goal

pub returns : goal.returns
returns c =
    let test = λ (row : LabelRow). nat_eq row.glyph c.args.glyph in
    let f = find_from_yields_List test _ _ c.find-only.result c.find-only.ensures.ran (YieldsList-from_slice c.rows.result.now cc) (λ x b q k. search rules) ∙ find-first_that test c.rows.result.now in
    grind (arith, nat_tests)
