use Rattle.std.proofs.Common.{◌+◌, ◌∙◌, sym, ap, ap₂, subst, take, arith}
use Rattle.std.proofs.lemmas.List.{take_all}
use Rattle.model.specs.Edits.{Frame}
use Rattle.editing.specs.Frames.{Inside}
use Rattle.editing.proofs.Opens.{index-more, indices-all, opened-at, opened-inside, outward-at, past, past-next}
use Rattle.editing.proofs.frame.Frame.at.Goals as goal

pub overflow_add-behind-in-loop-index : goal.overflow_add-behind-in-loop-index
overflow_add-behind-in-loop-index c =
    let last = outward-at 0 c.requires.rising.0 c.args.met.now c.loop-index.index-index c.requires.rising.1 c.loop-index-test.true in
    omega (arith, last.1, c.requires.rising.2)

pub reach-requires : goal.reach-requires
reach-requires c =
    let last = outward-at 0 c.requires.rising.0 c.args.met.now c.loop-index.index-index c.requires.rising.1 c.loop-index-test.true in
    omega (arith, last.1, c.requires.rising.2)

pub loop-index-preserved : goal.loop-index-preserved
loop-index-preserved c = record {
  positions = index-more c.args.p c.loop-index.index-index c.args.met.now (take c.loop-index.frame.count c.loop-index.frame.positions) c.loop-index.invariant.positions _ c.loop-index-test.true c.reach.ensures.positions;
  «end» = c.reach.ensures.reached ∙ past-next c.args.p c.loop-index.index-index c.args.met.now c.loop-index-test.true;
}

pub returns-clause-frame : goal.returns-clause-frame
returns-clause-frame c = λ gs.
    let met = c.args.met.now in
    let positions = indices-all c.args.p c.loop-index.index-index met _ c.loop-index.invariant.positions c.requires.few c.loop-index-test.false in
    let ended = c.loop-index.invariant.«end» ∙ ap (λ l. c.args.p + 1 + past 0 l) (take_all c.loop-index.index-index met c.loop-index-test.false) in
    ap₂ {C = Frame} (λ l n. record { positions = l; «end» = n }) positions ended ∙ sym (opened-at gs c.args.p c.requires.rising.0 met c.requires.rising.1)

pub returns-clause-inside : goal.returns-clause-inside
returns-clause-inside c = λ n o.
    let met = c.args.met.now in
    let positions = indices-all c.args.p c.loop-index.index-index met _ c.loop-index.invariant.positions c.requires.few c.loop-index-test.false in
    let ended = c.loop-index.invariant.«end» ∙ ap (λ l. c.args.p + 1 + past 0 l) (take_all c.loop-index.index-index met c.loop-index-test.false) in
    subst (Inside (c.args.p + 1 + n)) (sym (ap₂ {C = Frame} (λ l n. record { positions = l; «end» = n }) positions ended)) (opened-inside c.args.p n met o)
