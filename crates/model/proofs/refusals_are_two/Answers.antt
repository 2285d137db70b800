use Rattle.model.proofs.Outcomes.{refusals-are-two}
use Rattle.model.proofs.refusals_are_two.Goals as goal

pub returns : goal.returns
returns c = refusals-are-two
