use Rattle.std.proofs.Common.{◌≡◌, ◌+◌, None}
use Rattle.layout.specs.Faults.{first_in, in_turn}
use Rattle.gsub.specs.Tables.{lookup_faults_at}
use Rattle.gsub.proofs.walk.Walk.check_lookups.Given as goal

-- no lookup so far has a fault
abbrev pub invariant-loop-k : goal.invariant-loop-k
invariant-loop-k l = record {
  same : l.self ≡ l.initial.self;
  none : None ≡ first_in (in_turn (lookup_faults_at l.self.table l.self.lookups l.list.byte) 2 0 (l.list.byte + 2) l.k);
}
