use Rattle.std.proofs.Common.{◌≡◌, ◌≤◌, ◌+◌, ◌-◌, ◌++◌, length, take}
use Rattle.model.specs.Edits.{up_from}
use Rattle.editing.proofs.frame.Frame.add.Given as goal

-- what is left gives the whole
abbrev pub invariant-loop-k : goal.invariant-loop-k
invariant-loop-k l = record {
  long : length l.self.positions ≡ 64;
  few : l.self.count ≤ 64;
  positions : take 64 (take l.self.count l.self.positions ++ up_from (l.first + l.k) (l.n - l.k)) ≡ take 64 (take l.fn.self.count l.fn.self.positions ++ up_from l.first l.n);
  stays : l.self.«end» ≡ l.fn.self.«end»;
}
