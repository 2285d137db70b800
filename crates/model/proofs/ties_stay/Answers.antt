use Rattle.model.proofs.Outcomes.{ties-stay}
use Rattle.model.proofs.ties_stay.Goals as goal

pub returns : goal.returns
returns c = ties-stay
