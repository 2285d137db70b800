use Rattle.std.proofs.Common.{◌≡◌, ◌+◌, None}
use Rattle.layout.specs.Faults.{first_in, in_turn}
use Rattle.table_font.specs.Gdef.{set_faults_at}
use Rattle.table_font.proofs.gdef.MarkSets.check_coverages.Given as goal

-- no coverage so far has a fault
abbrev pub invariant-loop-k : goal.invariant-loop-k
invariant-loop-k l = None ≡ first_in (in_turn (λ k i. set_faults_at l.self.structure.table.now l.self.structure.start i) 4 0 (l.self.structure.start + 4) l.k)
