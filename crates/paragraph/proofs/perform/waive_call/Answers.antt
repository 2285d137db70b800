use Rattle.std.proofs.Common.{Some, refl, sym, ap, ◌∙◌}
use Rattle.paragraph.specs.Calls.{done, is_shaped, returned, waive}
use Rattle.paragraph.specs.Performs.{desk, shaped_from, with_slip}
use Rattle.paragraph.specs.Step.{foreign}
use Rattle.paragraph.specs.Told.{refusal_number}
use Rattle.paragraph.proofs.Hands.{back-in, waive-hands-back}
use Rattle.paragraph.proofs.perform.waive_call.Goals as goal

pub returns-in-Ok-clause-takes : goal.returns-in-Ok-clause-takes
returns-in-Ok-clause-takes c = λ x used m own.
    let found = sym c.take_slip.ensures.slip ∙ c.in-Some.is in
    (Some (waive c.in-Some.found, done), (x, is_shaped c.waive.new.of, m, ap (with_slip x waive) found, c.in-Ok.ensures x m, refl, ap (λ h. desk (shaped_from x c.waive.new.of) h used m own) c.in-Some.ensures.taken))

pub returns-in-Err-clause-takes : goal.returns-in-Err-clause-takes
returns-in-Err-clause-takes c = λ x used m own.
    let found = sym c.take_slip.ensures.slip ∙ c.in-Some.is in
    let step = c.in-Err.ensures x m in
    let same = waive-hands-back (foreign c.args.shaped.now c.in-Some.found) (refusal_number c.in-Err.refusal) c.in-Err.found c.in-Some.found step.0 in
    let back = back-in c.args.hand.now c.take_slip.new.hand c.put_slip.new.hand c.args.slip c.in-Some.found c.in-Err.found found c.in-Some.ensures.taken same c.put_slip.ensures in
    (Some (waive c.in-Some.found, returned (refusal_number c.in-Err.refusal) c.in-Err.found), (x, is_shaped c.waive.new.of, m, ap (with_slip x waive) found, step, refl, ap (λ h. desk (shaped_from x c.waive.new.of) h used m own) back))
