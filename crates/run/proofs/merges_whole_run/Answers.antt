use Rattle.run.proofs.Merges.{merges-whole-run}
use Rattle.run.proofs.merges_whole_run.Goals as goal

pub returns : goal.returns
returns c = merges-whole-run
