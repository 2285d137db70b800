use Rattle.std.proofs.Common.{Some, refl}
use Rattle.paragraph.specs.Calls.{clear, denied, done, is_blank, is_shaped}
use Rattle.paragraph.specs.SaidBy.{inputs_given}
use Rattle.paragraph.specs.Told.{refusal_number}
use Rattle.paragraph.proofs.perform.clear_call.Goals as goal

pub returns-in-Ok : goal.returns-in-Ok
returns-in-Ok g c = λ advances hand used m own.
    let x = inputs_given g.S.FontSource.means advances c.args.given.now in
    (Some (clear, done), (x, is_blank c.in-Ok.blank.number, m, refl, c.in-Ok.ensures x m, refl, refl))

pub returns-in-Err : goal.returns-in-Err
returns-in-Err g c = λ advances hand used m own.
    let x = inputs_given g.S.FontSource.means advances c.args.given.now in
    (Some (clear, denied (refusal_number c.in-Err.refusal)), (x, is_shaped c.in-Err.shaped, m, refl, c.in-Err.ensures x m, refl, refl))
