use Rattle.std.proofs.Common.{◌≡◌, ◌+◌, ◌*◌, None, ap, ◌∙◌}
use Rattle.layout.specs.Bytes.{u32_at}
use Rattle.layout.specs.Coverages.{coverage_faults}
use Rattle.layout.specs.Faults.{first_in}
use Rattle.table_font.proofs.Sets.{set-none}
use Rattle.table_font.proofs.gdef.MarkSets.set_holds.Goals as goal

pub invariant_of-index_of : goal.invariant_of-index_of
invariant_of-index_of c =
    let t = c.args.self.now.structure.table.now in
    let s = c.args.self.now.structure.start in
    let k = c.args.k in
    let set = c.set-structure.result in
    let table = c.set-structure.ensures.table in
    let start : set.start ≡ s + u32_at t (s + 4 + 4 * k) = c.set-structure.ensures.start ∙ ap (λ u. s + u32_at t u) c.byte_of.ensures in
    let none : first_in (coverage_faults set.table.now set.start) ≡ None = rw (table, start) (set-none t s k c.requires.faults c.requires.there) in
    record { accepted = none }
