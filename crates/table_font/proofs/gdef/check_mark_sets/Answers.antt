use Rattle.std.proofs.Common.{sym, ◌∙◌}
use Rattle.table_font.specs.Gdef.{mark_sets_faults}
use Rattle.table_font.proofs.Parts.{faults-led}
use Rattle.table_font.proofs.gdef.check_mark_sets.Goals as goal

pub returns-in-Some : goal.returns-in-Some
returns-in-Some c = c.check.ensures ∙ sym (faults-led mark_sets_faults _ _ _ _ c.in-Some.ensures.some)
