use Rattle.std.proofs.Common.{◌≡◌, map, take}
use Rattle.std.specs.List.{AllByRecursion}
use Rattle.parsing.specs.Items.{IsEntry, entry_in}
use Rattle.parsing.proofs.list.plan_of.Given as goal

-- the items so far are entries, and the plan so far has the first 65
abbrev pub invariant-loop-item : goal.invariant-loop-item
invariant-loop-item l = record {
  entries : AllByRecursion IsEntry (map (λ x. x.now) l.yielded);
  plan : l.plan ≡ take 65 (map entry_in (map (λ x. x.now) l.yielded));
}
