use Rattle.std.proofs.Common.{◌+◌, ltb, arith}
use Rattle.std.proofs.lemmas.Result.{err_from_is_err_and}
use Rattle.layout.specs.Bytes.{u16_at}
use Rattle.layout.specs.Faults.{unless}
use Rattle.layout.specs.Told.{told}
use Rattle.layout.proofs.Turns.{turn-on, turn-stops}
use Rattle.gsub.proofs.walk.Walk.check_records.Goals as goal

pub returns-in_err-require : goal.returns-in_err-require
returns-in_err-require c =
    let p = err_from_is_err_and c.from_residual.result c.from_residual.ensures.1 in
    let w = c.args.self.now in
    let fault = rw (c.read-lookup.ensures, c.lookups.ensures, c.structure-structure.ensures.table, c.structure-structure.ensures.start) at c.in_err-require.ensures.answer in
    rw (p.1, p.2)
    (turn-stops (λ k b. unless (ltb (u16_at w.table (b + 2)) w.lookups) 5 c.args.rule.start.byte (b + 2)) 4 c.args.rule.arrays.records.at c.loop-k.k c.args.rule.arrays.records.count (told c.in_err-require.field-0.0) (omega arith) c.loop-k.invariant fault)

pub loop-k-preserved : goal.loop-k-preserved
loop-k-preserved c =
    let w = c.args.self.now in
    let none = rw (c.read-lookup.ensures, c.lookups.ensures, c.structure-structure.ensures.table, c.structure-structure.ensures.start) at c.in_ok-require.ensures.answer in
    turn-on (λ k b. unless (ltb (u16_at w.table (b + 2)) w.lookups) 5 c.args.rule.start.byte (b + 2)) 4 c.args.rule.arrays.records.at c.loop-k.k c.loop-k.invariant none
