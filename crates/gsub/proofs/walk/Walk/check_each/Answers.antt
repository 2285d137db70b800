use Rattle.std.proofs.Common.{◌∙◌, arith}
use Rattle.std.proofs.lemmas.Result.{err_from_is_err_and}
use Rattle.layout.specs.Told.{told}
use Rattle.gsub.specs.Follow.{behind}
use Rattle.layout.proofs.Turns.{turn-on, turn-stops}
use Rattle.gsub.proofs.walk.Walk.check_each.Goals as goal

pub returns-in_err-check_behind-clause-answer : goal.returns-in_err-check_behind-clause-answer
returns-in_err-check_behind-clause-answer g c =
    let p = err_from_is_err_and c.from_residual.result c.from_residual.ensures.1 in
    let offsets = c.args.offsets in
    let t = c.loop-k.self.table in
    rw (p.1, p.2, ← c.loop-k.invariant.same)
    (turn-stops (λ k b. behind c.args.null t offsets.start.byte b (g.C.Target.faults c.args.child.now c.loop-k.self)) 2 offsets.array.at c.loop-k.k offsets.array.count (told c.in_err-check_behind.field-0.0) (omega arith) c.loop-k.invariant.none c.in_err-check_behind.ensures.answer)

pub loop-k-preserved : goal.loop-k-preserved
loop-k-preserved g c =
    let offsets = c.args.offsets in
    let t = c.loop-k.self.table in
    record {
      same = c.in_ok-check_behind.ensures.same ∙ c.loop-k.invariant.same;
      none = rw c.in_ok-check_behind.ensures.same
          (turn-on (λ k b. behind c.args.null t offsets.start.byte b (g.C.Target.faults c.args.child.now c.loop-k.self)) 2 offsets.array.at c.loop-k.k c.loop-k.invariant.none c.in_ok-check_behind.ensures.answer);
    }
