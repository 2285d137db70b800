use Rattle.std.proofs.Common.{◌≡◌, ◌+◌, ◌-◌, ◌/◌, length, drop, None, sym, refl, ap, subst, arith}
use Rattle.std.proofs.lemmas.List.{drop_all}
use Rattle.layout.specs.declared.array.RangeArray.{RangeArray}
use Rattle.layout.specs.Ranges.{holding, ranges_of}
use Rattle.layout.proofs.Order.{length-ranges}
use Rattle.layout.proofs.Search.{search-left, search-right, search-found, search-none}
use Rattle.layout.proofs.array.Rising.find.Goals as goal

size : (array : RangeArray) → length (ranges_of array) ≡ array.count
size array = length-ranges array.kind array.structure.table.now array.at 0 array.count

pub loop-low-init : goal.loop-low-init
loop-low-init c =
    let array = c.args.self.now.laid.array in
    let n = size array in
    (omega arith, omega arith, refl, ap (holding c.args.x) (drop_all array.count (ranges_of array) (omega arith)))

pub loop-low-preserved-then-x-range : goal.loop-low-preserved-then-x-range
loop-low-preserved-then-x-range c =
    let array = c.args.self.now.laid.array in
    let n = size array in (
      omega arith,
      omega arith,
      c.loop-low.invariant.2,
      search-left c.args.x (ranges_of array) c.args.self.now.rises (c.loop-low.low + (c.loop-low.high - c.loop-low.low) / 2) (omega arith) c.entry-range.result c.entry-range.ensures.range c.if-x-range.true,
    )

pub loop-low-preserved : goal.loop-low-preserved
loop-low-preserved c =
    let array = c.args.self.now.laid.array in
    let n = size array in (
      omega arith,
      omega arith,
      search-right c.args.x (ranges_of array) c.args.self.now.rises (c.loop-low.low + (c.loop-low.high - c.loop-low.low) / 2) (omega arith) c.entry-range.result c.entry-range.ensures.range c.if-range-x.true,
      c.loop-low.invariant.3,
    )

pub returns-else-range-x-clause-range : goal.returns-else-range-x-clause-range
returns-else-range-x-clause-range c =
    let array = c.args.self.now.laid.array in
    let n = size array in
    sym (search-found c.args.x (ranges_of array) c.args.self.now.rises (c.loop-low.low + (c.loop-low.high - c.loop-low.low) / 2) (omega arith) c.entry-range.result c.entry-range.ensures.range c.if-x-range.false c.if-range-x.false)

pub returns-clause-range : goal.returns-clause-range
returns-clause-range c =
    let rs = ranges_of c.args.self.now.laid.array in
    let e : c.loop-low.high ≡ c.loop-low.low = omega arith in
    sym (search-none c.args.x rs c.loop-low.low c.loop-low.invariant.2 (subst (λ u. holding c.args.x (drop u rs) ≡ None) e c.loop-low.invariant.3))
