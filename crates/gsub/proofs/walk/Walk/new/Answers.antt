use Rattle.std.proofs.Common.{arith}
use Rattle.gsub.proofs.Remembers.{sound_none}
use Rattle.gsub.proofs.walk.Walk.new.Goals as goal

pub invariant_of-result : goal.invariant_of-result
invariant_of-result c = (sound_none c.args.table.now c.args.lookups c.args.seen.items c.requires, omega arith)
