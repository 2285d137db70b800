use Rattle.std.proofs.Common.{sym, ap, ◌∙◌, subst}
use Rattle.paragraph.specs.Calls.{denied, is_blank, shape}
use Rattle.paragraph.specs.Step.{Step}
use Rattle.paragraph.specs.Told.{inputs_of, memory, refusal_number}
use Rattle.paragraph.proofs.Steps.{same-number, shape-accepted, shape-refused}
use Rattle.paragraph.proofs.blank.Blank.shape.Goals as goal

pub returns-in-Ok : goal.returns-in-Ok
returns-in-Ok g c = λ advance.
    let x = inputs_of (g.S.FontSource.means c.args.inputs.now.source.now) advance c.args.inputs.now.table.table.now c.args.inputs.now.plan.now c.args.text.now c.args.inputs.now.limit in
    shape-accepted x (memory c.args.run.now c.args.marks.now) (memory c.fill.new.run c.fill.new.marks) c.args.self.number c.in-Ok.laid (c.in-Ok.ensures advance c.args.text.now c.args.inputs.now.limit)

pub returns-in-Err : goal.returns-in-Err
returns-in-Err g c = λ advance.
    let x = inputs_of (g.S.FontSource.means c.args.inputs.now.source.now) advance c.args.inputs.now.table.table.now c.args.inputs.now.plan.now c.args.text.now c.args.inputs.now.limit in
    let m = memory c.args.run.now c.args.marks.now in
    let m' = memory c.fill.new.run c.fill.new.marks in
    subst (λ n. Step x m (is_blank c.args.self.number) shape (denied n) (is_blank c.args.self.number) m') (sym (ap refusal_number c.from.ensures ∙ same-number c.in-Err.refusal))
    (shape-refused x m m' c.args.self.number c.in-Err.refusal (c.in-Err.ensures advance c.args.text.now c.args.inputs.now.limit))
