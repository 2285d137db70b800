use Rattle.gsub.proofs.Examples.{examples}
use Rattle.gsub.proofs.meaning.meaning_examples.Goals as goal

pub returns : goal.returns
returns c = examples
