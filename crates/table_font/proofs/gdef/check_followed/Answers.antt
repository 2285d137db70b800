use Rattle.std.proofs.Common.{sym, ◌∙◌}
use Rattle.std.proofs.lemmas.Result.{err_from_is_err_and}
use Rattle.layout.specs.Bytes.{u16_at}
use Rattle.layout.specs.Classes.{class_faults}
use Rattle.layout.specs.Faults.{if_there}
use Rattle.layout.specs.Told.{told}
use Rattle.layout.proofs.Firsts.{first-before, first-behind}
use Rattle.table_font.specs.Gdef.{mark_sets_offset, mark_sets_faults}
use Rattle.table_font.proofs.gdef.check_followed.Goals as goal

pub returns-in_err-check_classes : goal.returns-in_err-check_classes
returns-in_err-check_classes c =
    let t = c.args.table.now in
    let p = err_from_is_err_and c.from_residual.result c.from_residual.ensures.1 in
    rw (p.1, p.2) (sym (first-before (if_there (u16_at t 4) 0 (class_faults t)) _ (told c.in_err-check_classes.field-0.0) (sym c.in_err-check_classes.ensures)))

pub returns-in_err-check_classes-2 : goal.returns-in_err-check_classes-2
returns-in_err-check_classes-2 c =
    let t = c.args.table.now in
    let p = err_from_is_err_and c.from_residual-in_err-check_classes-2.result c.from_residual-in_err-check_classes-2.ensures.1 in
    rw (p.1, p.2) (sym (first-behind (if_there (u16_at t 4) 0 (class_faults t)) _ (sym c.in_ok-check_classes.ensures)
    ∙ first-before (if_there (u16_at t 10) 0 (class_faults t)) _ (told c.in_err-check_classes-2.field-0.0) (sym c.in_err-check_classes-2.ensures)))

pub returns : goal.returns
returns c =
    let t = c.args.table.now in
    c.check_mark_sets.ensures
    ∙ sym (first-behind (if_there (u16_at t 4) 0 (class_faults t)) _ (sym c.in_ok-check_classes.ensures)
    ∙ first-behind (if_there (u16_at t 10) 0 (class_faults t)) (if_there (mark_sets_offset t) 0 (mark_sets_faults t)) (sym c.in_ok-check_classes-2.ensures))
