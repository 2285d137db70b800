use Rattle.label_font.proofs.Reading.{one-reading}
use Rattle.label_font.proofs.reader.one_reading.Goals as goal

pub returns : goal.returns
returns c = one-reading
