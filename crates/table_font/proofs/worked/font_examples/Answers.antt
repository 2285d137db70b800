use Rattle.table_font.proofs.Examples.{examples}
use Rattle.table_font.proofs.worked.font_examples.Goals as goal

pub returns : goal.returns
returns c = examples
