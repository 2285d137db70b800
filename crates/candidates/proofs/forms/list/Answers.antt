use Rattle.candidates.proofs.forms.list.Goals as goal

pub returns-in-Delta : goal.returns-in-Delta
returns-in-Delta c = rw c.in-Delta.is (c.delta.ensures c.args.value)

pub returns-in-Single : goal.returns-in-Single
returns-in-Single c = rw c.in-Single.is (c.single.ensures c.args.value)

pub returns-in-Multiple : goal.returns-in-Multiple
returns-in-Multiple c = rw c.in-Multiple.is (c.multiple.ensures c.args.value)

pub returns-in-Ligature : goal.returns-in-Ligature
returns-in-Ligature c = rw c.in-Ligature.is (c.ligatures.ensures c.args.value)

pub returns-in-GlyphRules : goal.returns-in-GlyphRules
returns-in-GlyphRules c = rw c.in-GlyphRules.is (c.glyph_rules.ensures c.args.value)

pub returns-in-ClassRules : goal.returns-in-ClassRules
returns-in-ClassRules c = rw c.in-ClassRules.is (c.class_rules.ensures c.args.value)

pub returns-in-CoverageRule : goal.returns-in-CoverageRule
returns-in-CoverageRule c = rw c.in-CoverageRule.is (c.coverage_rule.ensures c.args.value)

pub returns-in-Reverse : goal.returns-in-Reverse
returns-in-Reverse c = rw c.in-Reverse.is (c.reverse.ensures c.args.value)
