use Rattle.std.proofs.Common.{◌≡◌, None}
use Rattle.layout.specs.Faults.{first_in}
use Rattle.gsub.specs.Rules.{record_faults}
use Rattle.gsub.proofs.walk.Walk.check_records.Given as goal

-- no record so far has a fault
abbrev pub invariant-loop-k : goal.invariant-loop-k
invariant-loop-k l = None ≡ first_in (record_faults l.self.table l.self.lookups l.fn.rule.start.byte l.records.at l.k)
