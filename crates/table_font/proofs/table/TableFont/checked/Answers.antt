use Rattle.std.proofs.Common.{sym, ◌∙◌}
use Rattle.std.proofs.lemmas.Result.{err_from_is_err_and}
use Rattle.layout.specs.declared.fault.TableName.TheVariants.{Cmap, Gdef}
use Rattle.layout.specs.Told.{table_told}
use Rattle.layout.proofs.Firsts.{first-before, first-behind}
use Rattle.table_font.specs.Cmap.{cmap_faults}
use Rattle.table_font.specs.Gdef.{gdef_faults}
use Rattle.table_font.specs.TableFont.{table_faults}
use Rattle.table_font.proofs.Accepted.{third}
use Rattle.table_font.proofs.table.TableFont.checked.Goals as goal

pub returns-in_err-read-clause-answer : goal.returns-in_err-read-clause-answer
returns-in_err-read-clause-answer c =
    let t = c.args.cmap.now in
    let p = err_from_is_err_and c.from_residual.result c.from_residual.ensures.1 in
    rw (p.1, p.2) (sym (first-before (table_faults Cmap t (cmap_faults t)) _ (table_told c.in_err-read.field-0.0) (sym c.in_err-read.ensures.answer)))

pub returns-in_err-read-2-clause-answer : goal.returns-in_err-read-2-clause-answer
returns-in_err-read-2-clause-answer c =
    let t = c.args.cmap.now in
    let u = c.args.gdef.now in
    let p = err_from_is_err_and c.from_residual-in_err-read-2.result c.from_residual-in_err-read-2.ensures.1 in
    rw (p.1, p.2) (sym (first-behind (table_faults Cmap t (cmap_faults t)) _ (sym c.in_ok-read.ensures.answer)
    ∙ first-before (table_faults Gdef u (gdef_faults u)) _ (table_told c.in_err-read-2.field-0.0) (sym c.in_err-read-2.ensures.answer)))

pub returns-in_err-read-3-clause-answer : goal.returns-in_err-read-3-clause-answer
returns-in_err-read-3-clause-answer c =
    let p = err_from_is_err_and c.from_residual-in_err-read-3.result c.from_residual-in_err-read-3.ensures.1 in
    rw (p.1, p.2) (c.in_err-read-3.ensures.answer ∙ sym (third c.args.cmap.now c.args.gdef.now c.args.hmtx.now c.args.metrics c.in_ok-read.ensures.answer c.in_ok-read-2.ensures.answer))

pub returns-clause-answer : goal.returns-clause-answer
returns-clause-answer c = c.in_ok-read-3.ensures.answer ∙ sym (third c.args.cmap.now c.args.gdef.now c.args.hmtx.now c.args.metrics c.in_ok-read.ensures.answer c.in_ok-read-2.ensures.answer)
