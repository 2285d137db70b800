use Rattle.layout.proofs.Examples.{examples}
use Rattle.layout.proofs.worked.reading_examples.Goals as goal

pub returns : goal.returns
returns c = examples
