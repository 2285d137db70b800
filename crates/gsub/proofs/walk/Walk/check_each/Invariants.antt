use Rattle.std.proofs.Common.{◌≡◌, None}
use Rattle.layout.specs.Faults.{first_in}
use Rattle.gsub.specs.Follow.{each_behind}
use Rattle.gsub.proofs.walk.Walk.check_each.Given as goal

-- no offset so far leads to a fault
abbrev pub invariant-loop-k : goal.invariant-loop-k
invariant-loop-k g l = record {
  same : l.self ≡ l.initial.self;
  none : None ≡ first_in (each_behind l.null l.self.table l.offsets.start.byte l.offsets.array.at l.k (g.C.Target.faults l.child l.self));
}
