use Rattle.gsub.proofs.Examples.{further}
use Rattle.gsub.proofs.meaning.further_meaning_examples.Goals as goal

pub returns : goal.returns
returns c = further
