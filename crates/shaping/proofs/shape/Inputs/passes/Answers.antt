use Rattle.std.proofs.Common.{◌≡◌, ◌+◌, ◌∷◌, get_or, drop, Ok, Err, sym, ap, ◌∙◌, subst, arith}
use Rattle.std.proofs.lemmas.List.{drop_more}
use Rattle.std.proofs.lemmas.Result.{err_from_is_err_and}
use Rattle.editing.specs.Contents.{room_of}
use Rattle.model.specs.Shaping.{Runs, Sweeps}
use Rattle.shaping.specs.Attempts.{ending_of, inputs_of, stop_number}
use Rattle.shaping.specs.Work.{state_of}
use Rattle.shaping.proofs.Works.{lent-on}
use Rattle.shaping.proofs.Passing.{plan-on, plan-stops}
use Rattle.shaping.proofs.shape.Inputs.passes.Goals as goal

pub returns-in_err-sweep-clause-runs : goal.returns-in_err-sweep-clause-runs
returns-in_err-sweep-clause-runs g c =
    let font = g.S.FontSource.means c.args.self.now.source.now in
    let t = c.args.self.now.table.table.now in
    let plan = c.args.self.now.plan.now in
    let limit = c.args.self.now.limit in
    let inputs = inputs_of font t plan limit (room_of c.args.work.now.editing) in
    let s = state_of c.loop-entry.work in
    let s' = state_of c.sweep.new.work in
    let i = c.loop-entry.entry-index in
    let x = get_or plan i (record { lookup = 0; alternate = 0 }) in
    let is : drop i plan ≡ x ∷ drop (i + 1) plan = drop_more plan i (record { lookup = 0; alternate = 0 }) (omega (arith, c.loop-entry-test.true)) in
    let p = err_from_is_err_and c.from_residual.result c.from_residual.ensures.1 in
    let ended : c.from_residual.result ≡ Err c.in_err-sweep.field-0.0 = p.1 ∙ ap Err p.2 in
    subst (λ r. Runs inputs plan (state_of c.args.work.now) (ending_of r s')) (sym ended)
    (plan-stops inputs plan (state_of c.args.work.now) i s c.loop-entry.invariant.on x is (stop_number c.in_err-sweep.field-0.0)
    (subst (λ r. Sweeps (inputs_of font t plan limit r) x s (ending_of (Err c.in_err-sweep.field-0.0) s')) c.loop-entry.invariant.lent.1 c.in_err-sweep.ensures.pass))

pub loop-entry-preserved : goal.loop-entry-preserved
loop-entry-preserved g c =
    let font = g.S.FontSource.means c.args.self.now.source.now in
    let t = c.args.self.now.table.table.now in
    let plan = c.args.self.now.plan.now in
    let limit = c.args.self.now.limit in
    let inputs = inputs_of font t plan limit (room_of c.args.work.now.editing) in
    let s = state_of c.loop-entry.work in
    let s' = state_of c.sweep.new.work in
    let i = c.loop-entry.entry-index in
    let x = get_or plan i (record { lookup = 0; alternate = 0 }) in
    let is : drop i plan ≡ x ∷ drop (i + 1) plan = drop_more plan i (record { lookup = 0; alternate = 0 }) (omega (arith, c.loop-entry-test.true)) in
    record {
      on = plan-on inputs plan (state_of c.args.work.now) i s c.loop-entry.invariant.on x is s'
          (subst (λ r. Sweeps (inputs_of font t plan limit r) x s (ending_of (Ok c.in_ok-sweep.field-0) s')) c.loop-entry.invariant.lent.1 c.in_ok-sweep.ensures.pass);
      idle = c.in_ok-sweep.ensures.idle;
      lent = lent-on c.sweep.new.work c.loop-entry.work c.args.work.now c.sweep.ensures.lent c.loop-entry.invariant.lent;
    }
