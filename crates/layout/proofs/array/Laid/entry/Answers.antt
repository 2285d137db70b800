use Rattle.std.proofs.Common.{◌≡◌, ◌+◌, sym, ap, ◌∙◌, arith}
use Rattle.layout.specs.Ranges.{range_at}
use Rattle.layout.proofs.Order.{entry_at}
use Rattle.layout.proofs.array.Laid.entry.Goals as goal

pub returns-clause-range : goal.returns-clause-range
returns-clause-range c =
    let array = c.args.self.now.array in
    let e = entry_at array.kind array.structure.table.now array.at 0 array.count c.args.k c.entry_at.result (omega arith) in
    let z : 0 + c.args.k ≡ c.args.k = omega arith in
    c.entry_at.ensures.range ∙ ap (λ u. range_at array.kind array.structure.table.now (array.at + u) c.args.k) c.offset.ensures.size ∙ ap (range_at array.kind array.structure.table.now _) (sym z) ∙ sym e
