use Rattle.std.proofs.Common.{sym}
use Rattle.candidates.proofs.Fields.{length-records}
use Rattle.candidates.proofs.found.Records.len.Goals as goal

pub returns : goal.returns
returns c = let rs = c.args.self.now in sym (length-records rs.part.now rs.at rs.count)
