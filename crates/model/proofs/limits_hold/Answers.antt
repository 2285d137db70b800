use Rattle.model.proofs.Outcomes.{limits-hold}
use Rattle.model.proofs.limits_hold.Goals as goal

pub returns : goal.returns
returns c = limits-hold
