use Rattle.std.proofs.Common.{◌≡◌, ◌++◌, map, take, drop}
use Rattle.pick.specs.Lines.{lowered}
use Rattle.pick.proofs.line.copy_lowered.Given as goal

-- the first i records are copied
abbrev pub invariant-loop-i : goal.invariant-loop-i
invariant-loop-i g l = l.buffer ≡ map (lowered g.R.HasCluster.cluster_of g.R.TakesCluster.copy_at l.a) (take l.i l.records) ++ drop l.i l.initial.buffer
