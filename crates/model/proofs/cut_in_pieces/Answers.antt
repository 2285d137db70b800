use Rattle.model.proofs.Pieces.{cut-in-pieces}
use Rattle.model.proofs.cut_in_pieces.Goals as goal

pub returns : goal.returns
returns c = cut-in-pieces
