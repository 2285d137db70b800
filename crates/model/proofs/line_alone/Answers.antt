use Rattle.model.proofs.Lines.{line-alone}
use Rattle.model.proofs.line_alone.Goals as goal

pub returns : goal.returns
returns c = line-alone
