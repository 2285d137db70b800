use Rattle.std.proofs.lemmas.Result.{err_from_is_err_and}
use Rattle.layout.specs.Told.{table_told}
use Rattle.shape_c.proofs.Turns.{gsub_before}
use Rattle.shape_c.proofs.tables.Tables.checked.Goals as goal

pub returns-in_err-table-clause-answer : goal.returns-in_err-table-clause-answer
returns-in_err-table-clause-answer c =
    let p = err_from_is_err_and c.from_residual.result c.from_residual.ensures.1 in
    rw (p.1, p.2) (gsub_before c.args.gsub.now c.args.cmap.now c.args.gdef.now (table_told c.in_err-table.field-0.0) c.in_err-table.ensures.answer)
