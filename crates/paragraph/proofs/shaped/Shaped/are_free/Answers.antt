use Rattle.std.proofs.Common.{◌&&◌, sym, ap, ◌∙◌}
use Rattle.paragraph.specs.Step.{free}
use Rattle.paragraph.specs.Told.{memory}
use Rattle.paragraph.proofs.shaped.Shaped.are_free.Goals as goal

pub returns-then-is_free : goal.returns-then-is_free
returns-then-is_free c = λ run. c.is_free-then-is_free.ensures run ∙ ap (λ t. t && free c.args.self.now (memory run c.args.marks.now) c.args.b) (c.if-is_free.ensures run)

pub returns-else-is_free : goal.returns-else-is_free
returns-else-is_free c = λ run. c.is_free.ensures run ∙ sym (c.if-is_free.ensures run) ∙ ap (λ t. t && free c.args.self.now (memory run c.args.marks.now) c.args.b) (c.if-is_free.ensures run)
