use Rattle.std.proofs.Common.{◌≡◌, ◌+◌, None}
use Rattle.layout.specs.Faults.{first_in, in_turn}
use Rattle.gsub.specs.Tables.{subtable_faults_at}
use Rattle.gsub.proofs.walk.Walk.check_subtables.Given as goal

-- no subtable so far has a fault
abbrev pub invariant-loop-j : goal.invariant-loop-j
invariant-loop-j l = record {
  same : l.self ≡ l.initial.self;
  none : None ≡ first_in (in_turn (subtable_faults_at l.self.table l.self.lookups l.lookup.number l.lookup.start.byte) 2 0 (l.lookup.start.byte + 6) l.j);
}
