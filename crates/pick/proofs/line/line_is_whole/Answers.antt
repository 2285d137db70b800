use Rattle.pick.proofs.Whole.{whole}
use Rattle.pick.proofs.line.line_is_whole.Goals as goal

pub returns : goal.returns
returns g c = λ a b rs n. whole g.R.HasCluster.cluster_of a b rs n
