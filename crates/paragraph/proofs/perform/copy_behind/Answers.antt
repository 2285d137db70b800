use Rattle.std.proofs.Common.{◌+◌, ◌-◌, arith}
use Rattle.paragraph.proofs.Written.{now-is, there-is}
use Rattle.paragraph.proofs.perform.copy_behind.Goals as goal

pub returns : goal.returns
returns g c = λ list old h. (
  there-is c.args.there c.args.count c.min-start.result c.min-count.result (c.min-start.result + c.min-count.result - c.min-start.result) list old c.args.to.now c.args.from.now c.copy_from_slice.new.self h.0 h.1 c.min-start.ensures (omega arith) c.copy_from_slice.ensures.after (omega arith),
  now-is c.args.there c.args.count c.min-start.result c.min-count.result (c.min-start.result + c.min-count.result - c.min-start.result) list old c.args.to.now c.args.from.now c.copy_from_slice.new.self h.0 h.1 c.min-start.ensures (omega arith) c.copy_from_slice.ensures.after (omega arith),
)
