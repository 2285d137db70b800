use Rattle.std.proofs.Common.{sym, ap, ◌∙◌, subst, refl}
use Rattle.paragraph.specs.Calls.{is_shaped, pay, unpaid}
use Rattle.paragraph.specs.Step.{Step}
use Rattle.paragraph.specs.Told.{inputs_of, memory, refusal_number}
use Rattle.paragraph.proofs.Steps.{pay-accepted, pay-ends, pay-foreign, pay-refused, same-number}
use Rattle.paragraph.proofs.slip.Slip.pay.Goals as goal

pub returns-then-is_foreign : goal.returns-then-is_foreign
returns-then-is_foreign g c = λ advance limit m.
    let x = inputs_of (g.S.FontSource.means c.args.inputs.now.source.now) advance c.args.inputs.now.table.table.now c.args.inputs.now.plan.now c.args.text.now limit in
    pay-foreign x c.args.of.now c.args.self (memory c.args.run.now c.args.marks.now) m (sym c.if-is_foreign.ensures)

pub returns-then-has_wrong_ends : goal.returns-then-has_wrong_ends
returns-then-has_wrong_ends g c = λ advance limit m.
    let x = inputs_of (g.S.FontSource.means c.args.inputs.now.source.now) advance c.args.inputs.now.table.table.now c.args.inputs.now.plan.now c.args.text.now limit in
    pay-ends x c.args.of.now c.args.self (memory c.args.run.now c.args.marks.now) m (sym c.if-is_foreign.ensures) (sym (c.if-has_wrong_ends.ensures.answer x refl))

pub returns-in-Ok : goal.returns-in-Ok
returns-in-Ok g c = λ advance limit m.
    let x = inputs_of (g.S.FontSource.means c.args.inputs.now.source.now) advance c.args.inputs.now.table.table.now c.args.inputs.now.plan.now c.args.text.now limit in
    pay-accepted x c.args.of.now c.args.self (memory c.args.run.now c.args.marks.now) m (sym c.if-is_foreign.ensures) (sym (c.if-has_wrong_ends.ensures.answer x refl)) (memory c.fill.new.run c.fill.new.marks) c.in-Ok.laid (c.in-Ok.ensures advance c.args.text.now limit)

pub returns-in-Err : goal.returns-in-Err
returns-in-Err g c = λ advance limit m.
    let x = inputs_of (g.S.FontSource.means c.args.inputs.now.source.now) advance c.args.inputs.now.table.table.now c.args.inputs.now.plan.now c.args.text.now limit in
    let own = memory c.args.run.now c.args.marks.now in
    let own' = memory c.fill.new.run c.fill.new.marks in
    subst (λ n. Step x m (is_shaped c.args.of.now) (pay c.args.self own) (unpaid n c.args.self own') (is_shaped c.args.of.now) m) (sym (ap refusal_number c.from.ensures ∙ same-number c.in-Err.refusal))
    (pay-refused x c.args.of.now c.args.self own m (sym c.if-is_foreign.ensures) (sym (c.if-has_wrong_ends.ensures.answer x refl)) own' c.in-Err.refusal (c.in-Err.ensures advance c.args.text.now limit))
