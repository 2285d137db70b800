use Rattle.model.proofs.Outcomes.{always}
use Rattle.model.proofs.always_an_outcome.Goals as goal

pub returns : goal.returns
returns c = always
