use Rattle.std.proofs.Common.{◌+◌, sym, ◌∙◌, mul-suc, arith}
use Rattle.std.proofs.lemmas.Result.{err_from_is_err_and}
use Rattle.layout.specs.Ranges.{entry_size}
use Rattle.layout.specs.Told.{told}
use Rattle.layout.proofs.Order.{order-on, order-stops}
use Rattle.layout.proofs.array.Laid.check_order.Goals as goal

pub returns-in_err-check_entry : goal.returns-in_err-check_entry
returns-in_err-check_entry c =
    let array = c.args.self.now.array in
    let p = err_from_is_err_and c.from_residual.result c.from_residual.ensures.1 in
    let o = order-stops c.args.third array.kind array.structure.table.now array.structure.start c.loop-k.at c.loop-k.low c.loop-k.before c.loop-k.k array.count c.loop-k-test.true
    c.entry_at-range.result c.entry_at-range.ensures.range (told c.in_err-check_entry.field-0.0) c.in_err-check_entry.ensures.answer in
    rw (p.1, p.2) (sym o ∙ c.loop-k.invariant.3)

pub loop-k-preserved : goal.loop-k-preserved
loop-k-preserved c =
    let array = c.args.self.now.array in
    let ordered = c.in_ok-check_entry.ensures.ordered in
    let m = mul-suc (entry_size array.kind) c.loop-k.k in
    let o = order-on c.args.third array.kind array.structure.table.now array.structure.start c.loop-k.at c.loop-k.low c.loop-k.before c.loop-k.k array.count c.loop-k-test.true
    c.entry_at-range.result c.entry_at-range.ensures.range (c.loop-k.at + c.offset-size.result) (omega arith) c.in_ok-check_entry.ensures.answer in
    (omega arith, omega arith, omega arith, rw (c.from-low.ensures, c.from.ensures) (sym o ∙ c.loop-k.invariant.3))
