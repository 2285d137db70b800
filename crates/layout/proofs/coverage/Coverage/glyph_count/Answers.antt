use Rattle.std.proofs.Common.{◌+◌, ap, ◌∙◌, arith}
use Rattle.layout.specs.declared.array.Third.TheVariants.{StartIndex}
use Rattle.layout.specs.Bytes.{u16_at}
use Rattle.layout.specs.Coverages.{kind_of, coverage_ranges}
use Rattle.layout.specs.Ranges.{last_of}
use Rattle.layout.proofs.Arrays.{array-order, counted-array, coverage-counted, count-last}
use Rattle.layout.proofs.coverage.Coverage.glyph_count.Goals as goal

pub returns-in-Some : goal.returns-in-Some
returns-in-Some c =
    let t = c.args.self.now.structure.table.now in
    let s = c.args.self.now.structure.start in
    let kind = kind_of (u16_at t s) in
    let l = c.in-Some.ensures ∙ ap last_of c.ranges-2.ensures in
    let n = count-last kind s (s + 4) (coverage_ranges t s) c.in-Some.range (array-order StartIndex kind t s (s + 4) (u16_at t (s + 2)) (counted-array StartIndex kind t s (coverage-counted t s c.args.self.now.accepted))) l in
    omega arith
