use Rattle.model.proofs.Outcomes.{clusters-rise}
use Rattle.model.proofs.clusters_rise.Goals as goal

pub returns : goal.returns
returns c = clusters-rise
