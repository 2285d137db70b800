use Rattle.std.proofs.Common.{arith}
use Rattle.layout.specs.Ranges.{ranges_of}
use Rattle.layout.proofs.Arrays.{last-at}
use Rattle.layout.proofs.Order.{length-ranges}
use Rattle.layout.proofs.array.Laid.last.Goals as goal

pub returns : goal.returns
returns c =
    let array = c.args.self.now.array in
    let n = length-ranges array.kind array.structure.table.now array.at 0 array.count in
    let l = c.in_ok-last.ensures in
    last-at (ranges_of array) c.in_ok-last.last c.entry.result (omega arith) c.entry.ensures.range
