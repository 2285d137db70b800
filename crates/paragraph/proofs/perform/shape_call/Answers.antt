use Rattle.std.proofs.Common.{◌≡◌, Some, refl, sym, ap, ◌∙◌, subst₂, arith}
use Rattle.std.proofs.lemmas.List.{with_items_is}
use Rattle.paragraph.specs.Calls.{denied, done, is_blank, is_shaped, shape}
use Rattle.paragraph.specs.SaidBy.{inputs_given, lent}
use Rattle.paragraph.specs.Step.{Step}
use Rattle.paragraph.specs.Told.{memory, refusal_number}
use Rattle.paragraph.proofs.Filling.{same-memory}
use Rattle.paragraph.proofs.perform.shape_call.Goals as goal

pub returns-in-Ok : goal.returns-in-Ok
returns-in-Ok g c = λ advances hand used own.
    let x = inputs_given g.S.FontSource.means advances c.args.given.now in
    let before : memory c.as_mut_slice.result.now c.as_mut_slice-2.result.now ≡ lent c.args.memory.now = same-memory c.as_mut_slice.ensures.value c.as_mut_slice-2.ensures.value in
    let after = same-memory (with_items_is c.args.memory.now.run c.shape.new.run (omega arith)) (with_items_is c.args.memory.now.marks c.shape.new.marks (omega arith)) in
    (Some (shape, done), (x, is_shaped c.in-Ok.shaped, _, refl, subst₂ (λ m n. Step x m (is_blank c.args.blank.number) shape done (is_shaped c.in-Ok.shaped) n) before (sym after) (c.in-Ok.ensures (advances c.args.given.now.inputs.source.now)), refl, refl))

pub returns-in-Err : goal.returns-in-Err
returns-in-Err g c = λ advances hand used own.
    let x = inputs_given g.S.FontSource.means advances c.args.given.now in
    let before : memory c.as_mut_slice.result.now c.as_mut_slice-2.result.now ≡ lent c.args.memory.now = same-memory c.as_mut_slice.ensures.value c.as_mut_slice-2.ensures.value in
    let after = same-memory (with_items_is c.args.memory.now.run c.shape.new.run (omega arith)) (with_items_is c.args.memory.now.marks c.shape.new.marks (omega arith)) in
    (Some (shape, denied (refusal_number c.in-Err.refusal)), (x, is_blank c.in-Err.blank.number, _, refl, subst₂ (λ m n. Step x m (is_blank c.args.blank.number) shape (denied (refusal_number c.in-Err.refusal)) (is_blank c.in-Err.blank.number) n) before (sym after) (c.in-Err.ensures (advances c.args.given.now.inputs.source.now)), refl, refl))
