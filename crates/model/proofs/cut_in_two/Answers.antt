use Rattle.model.proofs.Pieces.{cut-in-two}
use Rattle.model.proofs.cut_in_two.Goals as goal

pub returns : goal.returns
returns c = cut-in-two
