use Rattle.std.proofs.Common.{◌≡◌, ◌+◌, ◌-◌, ◌*◌, ◌^◌, ◌≤◌}
use Rattle.layout.specs.Faults.{first_in}
use Rattle.layout.specs.Ranges.{entry_size, ranges_from, ranges_of, order_faults}
use Rattle.layout.proofs.array.Laid.check_order.Given as goal

-- the entries that are left have the same first fault as all
abbrev pub invariant-loop-k : goal.invariant-loop-k
invariant-loop-k l =
    let array = l.self.array in
    (l.at ≡ array.at + entry_size array.kind * l.k) × (l.before ≤ l.low) × (l.low ≤ 2 ^ 32)
    × (first_in (order_faults l.third array.kind array.structure.start l.at l.low l.before (ranges_from array.kind array.structure.table.now l.at l.k (array.count - l.k)))
    ≡ first_in (order_faults l.third array.kind array.structure.start array.at 0 0 (ranges_of array)))
