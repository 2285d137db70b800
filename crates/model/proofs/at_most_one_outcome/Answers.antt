use Rattle.model.proofs.Outcomes.{at_most_one}
use Rattle.model.proofs.at_most_one_outcome.Goals as goal

pub returns : goal.returns
returns c = at_most_one
