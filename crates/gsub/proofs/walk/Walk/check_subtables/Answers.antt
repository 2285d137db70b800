use Rattle.std.proofs.Common.{◌+◌, ◌∙◌, arith}
use Rattle.std.proofs.lemmas.Result.{err_from_is_err_and}
use Rattle.layout.specs.Told.{placed_told}
use Rattle.gsub.specs.Tables.{subtable_faults_at}
use Rattle.layout.proofs.Turns.{turn-on, turn-stops}
use Rattle.gsub.proofs.walk.Walk.check_subtables.Goals as goal

pub returns-in_err-check_subtable_at-clause-answer : goal.returns-in_err-check_subtable_at-clause-answer
returns-in_err-check_subtable_at-clause-answer c =
    let p = err_from_is_err_and c.from_residual.result c.from_residual.ensures.1 in
    let w = c.loop-j.self in
    rw (p.1, p.2, ← c.loop-j.invariant.same)
    (turn-stops (subtable_faults_at w.table w.lookups c.args.lookup.number c.args.lookup.start.byte) 2 (c.args.lookup.start.byte + 6) c.loop-j.j c.args.count (placed_told c.in_err-check_subtable_at.field-0.0) (omega arith) c.loop-j.invariant.none c.in_err-check_subtable_at.ensures.answer)

pub loop-j-preserved : goal.loop-j-preserved
loop-j-preserved c =
    let w = c.loop-j.self in
    record {
      same = c.in_ok-check_subtable_at.ensures.same ∙ c.loop-j.invariant.same;
      none = rw c.in_ok-check_subtable_at.ensures.same (turn-on (subtable_faults_at w.table w.lookups c.args.lookup.number c.args.lookup.start.byte) 2 (c.args.lookup.start.byte + 6) c.loop-j.j c.loop-j.invariant.none c.in_ok-check_subtable_at.ensures.answer);
    }
