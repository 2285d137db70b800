use Rattle.gsub.proofs.walk.Walk.check_form.Goals as goal

pub returns-in-GlyphRules-clause-answer : goal.returns-in-GlyphRules-clause-answer
returns-in-GlyphRules-clause-answer c = rw c.in-GlyphRules.is c.check_sets-in-GlyphRules.ensures.answer

pub returns-in-ClassRules-clause-answer : goal.returns-in-ClassRules-clause-answer
returns-in-ClassRules-clause-answer c = rw c.in-ClassRules.is (rw c.class_count.ensures at c.check_class_sets.ensures.answer)
