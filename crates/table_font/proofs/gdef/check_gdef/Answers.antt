use Rattle.std.proofs.Common.{sym, ◌∙◌}
use Rattle.std.proofs.lemmas.Result.{err_from_is_err_and}
use Rattle.layout.specs.Told.{told}
use Rattle.layout.proofs.Firsts.{first-before, first-behind}
use Rattle.table_font.specs.Gdef.{header_faults, followed_faults}
use Rattle.table_font.proofs.Parts.{gdef-there}
use Rattle.table_font.proofs.gdef.check_gdef.Goals as goal

pub returns-in_err-check_header : goal.returns-in_err-check_header
returns-in_err-check_header c =
    let t = c.args.table.now in
    let p = err_from_is_err_and c.from_residual.result c.from_residual.ensures.1 in
    rw (p.1, p.2) (sym (gdef-there t c.if-is_empty.ensures
    ∙ first-before (header_faults t) (followed_faults t) (told c.in_err-check_header.field-0.0) (sym c.in_err-check_header.ensures)))

pub returns : goal.returns
returns c =
    let t = c.args.table.now in
    c.check_followed.ensures ∙ sym (gdef-there t c.if-is_empty.ensures ∙ first-behind (header_faults t) (followed_faults t) (sym c.in_ok-check_header.ensures))
