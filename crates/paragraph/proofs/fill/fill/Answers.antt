use Rattle.paragraph.specs.Told.{inputs_of, memory}
use Rattle.paragraph.proofs.Filling.{filled-by}
use Rattle.paragraph.proofs.fill.fill.Goals as goal

pub returns : goal.returns
returns g c = λ advance whole old.
    filled-by (inputs_of (g.S.FontSource.means c.args.inputs.now.source.now) advance c.args.inputs.now.table.table.now c.args.inputs.now.plan.now whole old) c.args.limit c.args.text.now (memory c.args.run.now c.args.marks.now)
    c.shape.result c.shape.new.run c.shape.new.marks c.shape.ensures.first c.shape.ensures.outcome
