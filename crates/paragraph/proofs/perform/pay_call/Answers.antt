use Rattle.std.proofs.Common.{◌≡◌, Some, refl, sym, ap, ◌∙◌, subst₂, arith}
use Rattle.std.specs.Vec.{with_items}
use Rattle.std.proofs.lemmas.List.{with_items_is}
use Rattle.paragraph.specs.Calls.{gives, is_shaped, paid, pay, unpaid}
use Rattle.paragraph.specs.Performs.{desk, shaped_from, was_paid, with_slip}
use Rattle.paragraph.specs.SaidBy.{inputs_given, lent}
use Rattle.paragraph.specs.Step.{Step, pay_leaves}
use Rattle.paragraph.specs.Told.{memory, refusal_number}
use Rattle.paragraph.proofs.Filling.{same-memory}
use Rattle.paragraph.proofs.Hands.{back-in, pay-hands-back}
use Rattle.paragraph.proofs.perform.pay_call.Goals as goal

pub returns-in-Ok : goal.returns-in-Ok
returns-in-Ok g c = λ advances used m.
    let x = inputs_given g.S.FontSource.means advances c.args.given.now in
    let own' = memory (with_items c.args.own.now.run c.pay.new.run).items (with_items c.args.own.now.marks c.pay.new.marks).items in
    let before : memory c.as_mut_slice.result.now c.as_mut_slice-2.result.now ≡ lent c.args.own.now = same-memory c.as_mut_slice.ensures.value c.as_mut_slice-2.ensures.value in
    let after = same-memory (with_items_is c.args.own.now.run c.pay.new.run (omega arith)) (with_items_is c.args.own.now.marks c.pay.new.marks (omega arith)) in
    let found = sym c.take_slip.ensures.slip ∙ c.in-Some.is in
    let s = c.in-Some.found in
    let step = subst₂ (λ n n'. Step x m (is_shaped c.args.shaped.now) (pay s n) (gives (paid s.first s.last c.in-Ok.laid.glyphs c.in-Ok.laid.hits n')) (is_shaped c.pay.new.of) m) before (sym after) (c.in-Ok.ensures (advances c.args.given.now.inputs.source.now) c.args.given.now.inputs.limit m) in (
      Some (pay s (lent c.args.own.now), gives (paid s.first s.last c.in-Ok.laid.glyphs c.in-Ok.laid.hits own')),
      (
        x,
        is_shaped c.pay.new.of,
        m,
        ap (with_slip x (λ q. pay q (lent c.args.own.now))) found,
        step,
        ap (λ n. was_paid c.in-Ok.laid.glyphs n c.in-Ok.laid.hits) c.saturating_sub-marks.ensures,
        ap (λ h. desk (shaped_from x c.pay.new.of) h used m own') c.in-Some.ensures.taken,
      ),
    )

pub returns-in-Err : goal.returns-in-Err
returns-in-Err g c = λ advances used m.
    let x = inputs_given g.S.FontSource.means advances c.args.given.now in
    let own' = memory (with_items c.args.own.now.run c.pay.new.run).items (with_items c.args.own.now.marks c.pay.new.marks).items in
    let before : memory c.as_mut_slice.result.now c.as_mut_slice-2.result.now ≡ lent c.args.own.now = same-memory c.as_mut_slice.ensures.value c.as_mut_slice-2.ensures.value in
    let after = same-memory (with_items_is c.args.own.now.run c.pay.new.run (omega arith)) (with_items_is c.args.own.now.marks c.pay.new.marks (omega arith)) in
    let found = sym c.take_slip.ensures.slip ∙ c.in-Some.is in
    let s = c.in-Some.found in
    let n = refusal_number c.in-Err.refusal in
    let step = subst₂ (λ o o'. Step x m (is_shaped c.args.shaped.now) (pay s o) (unpaid n c.in-Err.found o') (is_shaped c.pay.new.of) m) before (sym after) (c.in-Err.ensures (advances c.args.given.now.inputs.source.now) c.args.given.now.inputs.limit m) in
    let same = pay-hands-back step.0 n c.in-Err.found s own' (pay_leaves x c.args.shaped.now s (lent c.args.own.now) step.0) step.2 in
    let back = back-in c.args.hand.now c.take_slip.new.hand c.put_slip.new.hand c.args.slip s c.in-Err.found found c.in-Some.ensures.taken same c.put_slip.ensures in
    (Some (pay s (lent c.args.own.now), unpaid n c.in-Err.found own'), (x, is_shaped c.pay.new.of, m, ap (with_slip x (λ q. pay q (lent c.args.own.now))) found, step, refl, ap (λ h. desk (shaped_from x c.pay.new.of) h used m own') back))
