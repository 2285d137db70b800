use Rattle.std.proofs.Common.{◌≡◌, ◌-◌, ◌≤◌, take, drop, None}
use Rattle.layout.specs.Ranges.{holding, ranges_of}
use Rattle.layout.proofs.array.Rising.find.Given as goal

-- no range before `low` holds x, nor one from `high` on
abbrev pub invariant-loop-low : goal.invariant-loop-low
invariant-loop-low l = (l.low ≤ l.high) × (l.high ≤ l.self.laid.array.count)
    × (holding l.x (take l.low (ranges_of l.self.laid.array)) ≡ None) × (holding l.x (drop l.high (ranges_of l.self.laid.array)) ≡ None)

abbrev pub decreases-loop-low : goal.decreases-loop-low
decreases-loop-low l = l.high - l.low
