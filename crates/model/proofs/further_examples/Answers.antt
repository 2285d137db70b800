use Rattle.model.proofs.Examples.{further}
use Rattle.model.proofs.further_examples.Goals as goal

pub returns : goal.returns
returns c = further
