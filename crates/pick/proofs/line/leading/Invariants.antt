use Rattle.std.proofs.Common.{◌≡◌, ◌+◌, drop}
use Rattle.std.specs.List.{prefix_len}
use Rattle.pick.specs.Lines.{within}
use Rattle.pick.proofs.line.leading.Given as goal

-- those so far, and the leading ones of the rest, are the leading ones of all
abbrev pub invariant-loop-n : goal.invariant-loop-n
invariant-loop-n g l = l.n + prefix_len (within g.R.HasCluster.cluster_of l.a l.b) (drop l.n l.records) ≡ prefix_len (within g.R.HasCluster.cluster_of l.a l.b) l.records
