use Rattle.std.proofs.Common.{◌+◌, ◌∙◌, arith}
use Rattle.std.proofs.lemmas.Result.{err_from_is_err_and}
use Rattle.layout.specs.Told.{placed_told}
use Rattle.gsub.specs.Tables.{lookup_faults_at}
use Rattle.layout.proofs.Turns.{turn-on, turn-stops}
use Rattle.gsub.proofs.walk.Walk.check_lookups.Goals as goal

pub returns-in_err-check_lookup_at : goal.returns-in_err-check_lookup_at
returns-in_err-check_lookup_at c =
    let p = err_from_is_err_and c.from_residual.result c.from_residual.ensures.1 in
    let w = c.loop-k.self in
    rw (p.1, p.2, ← c.loop-k.invariant.same)
    (turn-stops (lookup_faults_at w.table w.lookups c.args.list.byte) 2 (c.args.list.byte + 2) c.loop-k.k w.lookups (placed_told c.in_err-check_lookup_at.field-0.0) (rw c.loop-k.invariant.same (omega arith)) c.loop-k.invariant.none c.in_err-check_lookup_at.ensures.answer)

pub loop-k-preserved : goal.loop-k-preserved
loop-k-preserved c =
    let w = c.loop-k.self in
    record {
      same = c.in_ok-check_lookup_at.ensures.same ∙ c.loop-k.invariant.same;
      none = rw c.in_ok-check_lookup_at.ensures.same (turn-on (lookup_faults_at w.table w.lookups c.args.list.byte) 2 (c.args.list.byte + 2) c.loop-k.k c.loop-k.invariant.none c.in_ok-check_lookup_at.ensures.answer);
    }
