use Rattle.std.proofs.Common.{sym, ◌∙◌}
use Rattle.layout.specs.Classes.{class_faults}
use Rattle.table_font.proofs.Parts.{faults-led, class-led, classes-none}
use Rattle.table_font.proofs.table.Gdef.class_by.Goals as goal

pub invariant_of-class_of : goal.invariant_of-class_of
invariant_of-class_of c = record { accepted = sym (faults-led class_faults _ _ _ _ c.in-Some.ensures.some) ∙ classes-none c.args.self.now c.args.of }

pub returns-in-Some : goal.returns-in-Some
returns-in-Some c = c.class_of.ensures ∙ sym (class-led c.args.glyph _ _ _ _ c.in-Some.ensures.some)
