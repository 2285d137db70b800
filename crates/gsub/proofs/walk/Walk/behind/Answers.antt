use Rattle.std.proofs.Common.{arith}
use Rattle.layout.proofs.Past.{u16-inside}
use Rattle.gsub.proofs.walk.Walk.behind.Goals as goal

-- an offset that is not 0 stands in the table, so the structure begins there too
pub invariant_of-result : goal.invariant_of-result
invariant_of-result c =
    let target = c.in_ok-target.ensures.some in
    let structure = c.structure.result in
    let inside = u16-inside structure.table.now c.args.at target.2 in
    let fits = structure.fits in
    let near = c.in_ok-target.ensures.near in
    let begins = c.structure.ensures.start in
    let behind = c.requires in
    record { near = omega arith }
