use Rattle.std.proofs.Common.{◌≡◌, ◌+◌, [], ◌∷◌, ◌++◌, cond, count_by, refl, sym, ap, ◌∙◌, subst, arith}
use Rattle.std.proofs.lemmas.List.Sums.{sum_by_push}
use Rattle.paragraph.specs.declared.calls.Call.TheVariants.{Waive}
use Rattle.paragraph.specs.Performs.{Performs, begun, desk, in_front, is_waived, joined, nothing, on, shaped_from, waives}
use Rattle.paragraph.specs.SaidBy.{said_by}
use Rattle.paragraph.proofs.Waives.{waives-more}
use Rattle.paragraph.proofs.perform.waive_owed.Goals as goal

pub loop-at-init : goal.loop-at-init
loop-at-init c = (omega arith, λ x memory own. ([], [], begun refl, refl))

pub loop-at-preserved : goal.loop-at-preserved
loop-at-preserved c = (
  omega arith,
  λ x memory own.
      let before = c.loop-at.invariant.1 x memory own in
      let does = c.waive_call.ensures.takes x c.args.used memory own in
      let a = said_by c.waive_call.result in (
        before.0 ++ a ∷ [],
        in_front does.0 before.1,
        on (Waive (c.loop-at.at + 1)) a does.0 before.2 does.1 (waives-more c.loop-at.at) refl refl (ap (joined nothing) (sym (c.waive_call.ensures.gives_nothing _))),
        ap (λ n. n + c.slips_waived-waived.result) before.3 ∙ ap (λ n. count_by is_waived before.0 + n) c.slips_waived-waived.ensures.count ∙ sym (sum_by_push (λ s. cond (is_waived s) 1 0) before.0 a),
      ),
)

pub returns : goal.returns
returns c = λ x memory own.
    let done = c.loop-at.invariant.1 x memory own in
    let at-end : c.loop-at.at ≡ c.args.used = omega arith in (
      shaped_from x c.loop-at.shaped,
      done.0,
      done.1,
      subst (λ n. Performs (desk (shaped_from x c.args.shaped.now) c.args.hand.now c.args.used memory own) (waives n) done.0 done.1 nothing (desk (shaped_from x c.loop-at.shaped) c.loop-at.hand c.args.used memory own)) at-end done.2,
      done.3,
    )
