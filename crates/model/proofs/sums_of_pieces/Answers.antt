use Rattle.model.proofs.Sums.{sums-of-pieces}
use Rattle.model.proofs.sums_of_pieces.Goals as goal

pub returns : goal.returns
returns c = sums-of-pieces
