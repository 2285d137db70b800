use Rattle.paragraph.proofs.Example.{refuted, worked}
use Rattle.paragraph.proofs.Nine.{nine}
use Rattle.paragraph.proofs.Sound.{law}
use Rattle.paragraph.proofs.blank.Blank.new.Goals as goal

pub returns-clause-law : goal.returns-clause-law
returns-clause-law c = law

pub returns-clause-worked : goal.returns-clause-worked
returns-clause-worked c = worked

pub returns-clause-refuted : goal.returns-clause-refuted
returns-clause-refuted c = refuted

pub returns-clause-examples : goal.returns-clause-examples
returns-clause-examples c = nine
