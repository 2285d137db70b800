use Rattle.std.proofs.Common.{◌≡◌, drop}
use Rattle.model.specs.Limits.{entries_fit}
use Rattle.shaping.proofs.plan.entries_fit.Given as goal

-- what is left fits from the least number on if and only if all fit
abbrev pub invariant-loop-entry : goal.invariant-loop-entry
invariant-loop-entry l = entries_fit l.lookups 0 l.plan ≡ entries_fit l.lookups l.least (drop l.entry-index l.plan)
