use Rattle.std.proofs.Common.{◌≡◌, ◌+◌, Some, None, subst}
use Rattle.std.proofs.lemmas.Result.{err_from_is_err_and}
use Rattle.layout.specs.Faults.{first_in}
use Rattle.layout.specs.Told.{told}
use Rattle.layout.proofs.Turns.{turn-on, turn-stops}
use Rattle.table_font.specs.Gdef.{set_faults_at}
use Rattle.table_font.proofs.gdef.MarkSets.check_coverages.Goals as goal

pub returns-in_err-check_set : goal.returns-in_err-check_set
returns-in_err-check_set c =
    let sets = c.args.self.now.structure in
    let p = err_from_is_err_and c.from_residual.result c.from_residual.ensures.1 in
    let fault = subst (λ u. Some (told c.in_err-check_set.field-0.0) ≡ first_in (set_faults_at sets.table.now sets.start u)) c.byte_of.ensures c.in_err-check_set.ensures in
    rw (p.1, p.2) (turn-stops (λ k i. set_faults_at sets.table.now sets.start i) 4 (sets.start + 4) c.loop-k.k c.args.count (told c.in_err-check_set.field-0.0) c.loop-k-test.true c.loop-k.invariant fault)

pub loop-k-preserved : goal.loop-k-preserved
loop-k-preserved c =
    let sets = c.args.self.now.structure in
    let none = subst (λ u. None ≡ first_in (set_faults_at sets.table.now sets.start u)) c.byte_of.ensures c.in_ok-check_set.ensures in
    turn-on (λ k i. set_faults_at sets.table.now sets.start i) 4 (sets.start + 4) c.loop-k.k c.loop-k.invariant none
