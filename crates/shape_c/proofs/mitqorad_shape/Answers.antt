use Rattle.std.proofs.Common.{◌≡◌, None, length, subst, refl, ap, ◌∙◌}
use Rattle.layout.specs.Told.{table_told}
use Rattle.shape_c.specs.Answers.{faulty_answer}
use Rattle.shape_c.specs.Calls.{Call, ComesBy, ShapesTo, faulty, first_refusal}
use Rattle.shape_c.proofs.Ends.{comes}
use Rattle.shape_c.proofs.mitqorad_shape.Goals as goal

pub returns-in-Err : goal.returns-in-Err
returns-in-Err c =
    let call : Call = record { gsub = c.args.gsub.now; cmap = c.args.cmap.now; gdef = c.args.gdef.now; plan = c.args.plan.now; limit = c.args.limit; text = c.args.text.now } in
    let room = length c.args.run.now in
    let told = table_told c.in-Err.fault in
    let first = subst (λ o. ComesBy o (first_refusal call room (length c.args.marks.now)) (ShapesTo call room) (faulty told)) c.in-Err.ensures.answer refl in
    (faulty told, first, c.faulty.ensures ∙ ap faulty_answer c.told.ensures, refl, refl)

pub returns : goal.returns
returns c =
    let tables = c.in-Ok.tables in
    let call : Call = record { gsub = c.args.gsub.now; cmap = c.args.cmap.now; gdef = c.args.gdef.now; plan = c.args.plan.now; limit = c.args.limit; text = c.args.text.now } in
    let checked : Call = record { gsub = tables.gsub.table.now; cmap = tables.font.cmap.table.now; gdef = tables.font.gdef.table.now; plan = c.args.plan.now; limit = c.args.limit; text = c.args.text.now } in
    let g = c.in-Ok.ensures.gsub in
    let m = c.in-Ok.ensures.cmap in
    let d = c.in-Ok.ensures.gdef in
    let same : checked ≡ call = λ i. record { gsub = g i; cmap = m i; gdef = d i; plan = c.args.plan.now; limit = c.args.limit; text = c.args.text.now } in
    let room = length c.args.run.now in
    let places = length c.args.marks.now in
    let h = comes (ShapesTo checked room) c.shape-came.result c.args.run.now c.shape-came.new.run c.args.marks.now c.shape-came.new.marks (first_refusal checked room places) c.shape-came.ensures.first c.shape-came.ensures.outcome in
    let over = subst (λ x. ComesBy None (first_refusal x room places) (ShapesTo x room) h.0) same h.1 in
    let last = subst (λ o. ComesBy o (first_refusal call room places) (ShapesTo call room) h.0) c.in-Ok.ensures.answer over in
    (h.0, last, c.of.ensures ∙ h.2, h.3, h.4)
