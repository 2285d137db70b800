use Rattle.std.proofs.Common.{map}
use Rattle.std.specs.List.{AllByRecursion}
use Rattle.parsing.specs.Number.{IsNumber}
use Rattle.parsing.proofs.list.count_numbers.Given as goal

-- the items so far are numbers
abbrev pub invariant-loop-item : goal.invariant-loop-item
invariant-loop-item l = record { numbers : AllByRecursion IsNumber (map (λ x. x.now) l.yielded) }
