use Rattle.std.proofs.Common.{sym, ◌∙◌}
use Rattle.std.proofs.lemmas.Result.{err_from_is_err_and}
use Rattle.layout.specs.Classes.{class_faults}
use Rattle.table_font.proofs.Parts.{faults-led}
use Rattle.table_font.proofs.gdef.check_classes.Goals as goal

pub returns-in_err-checked : goal.returns-in_err-checked
returns-in_err-checked c =
    let p = err_from_is_err_and c.from_residual.result c.from_residual.ensures.1 in
    rw (p.1, p.2) (c.in_err-checked.ensures.answer ∙ sym (faults-led class_faults _ _ _ _ c.in-Some.ensures.some))

pub returns-in_ok-checked : goal.returns-in_ok-checked
returns-in_ok-checked c = c.in_ok-checked.ensures.answer ∙ sym (faults-led class_faults _ _ _ _ c.in-Some.ensures.some)
