use Rattle.std.proofs.Common.{sym, ◌∙◌}
use Rattle.table_font.specs.Gdef.{mark_sets_faults}
use Rattle.table_font.proofs.Parts.{faults-led, mark-sets-none}
use Rattle.table_font.proofs.table.Gdef.in_mark_set.Goals as goal

pub holds-requires : goal.holds-requires
holds-requires c = sym (faults-led mark_sets_faults _ _ _ _ c.in-Some.ensures.some) ∙ mark-sets-none c.args.self.now
