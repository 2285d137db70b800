use Rattle.std.proofs.Common.{sym, ap, ◌∙◌}
use Rattle.std.proofs.lemmas.Result.{err_from_is_err_and}
use Rattle.layout.specs.Faults.{first_in}
use Rattle.table_font.specs.Gdef.{gdef_faults}
use Rattle.table_font.proofs.table.Gdef.read.Goals as goal

pub invariant_of-result : goal.invariant_of-result
invariant_of-result c = record { accepted = sym (c.in_ok-check_table.ensures (gdef_faults c.args.table.now) (λ r h. h.1 ∙ ap (λ u. first_in (gdef_faults u)) h.2)) }

pub returns-in_err-check_table-clause-answer : goal.returns-in_err-check_table-clause-answer
returns-in_err-check_table-clause-answer c =
    let p = err_from_is_err_and c.from_residual.result c.from_residual.ensures.1 in
    rw (p.1, p.2) (c.in_err-check_table.ensures (gdef_faults c.args.table.now) (λ r h. h.1 ∙ ap (λ u. first_in (gdef_faults u)) h.2))
