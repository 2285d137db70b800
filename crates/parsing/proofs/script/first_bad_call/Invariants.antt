use Rattle.std.proofs.Common.{map}
use Rattle.std.specs.List.{AllByRecursion}
use Rattle.parsing.specs.Script.{IsCall}
use Rattle.parsing.proofs.script.first_bad_call.Given as goal

-- the lines so far are calls
abbrev pub invariant-loop-index : goal.invariant-loop-index
invariant-loop-index l = record { calls : AllByRecursion IsCall (map (λ x. x.1.now) l.yielded) }
