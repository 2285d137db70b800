use Rattle.std.proofs.Common.{sym, subst}
use Rattle.layout.specs.declared.array.Kind.TheVariants.{Groups}
use Rattle.layout.specs.declared.array.Third.TheVariants.{GlyphsTo65535}
use Rattle.layout.specs.declared.fault.TableName.TheVariants.{Cmap}
use Rattle.layout.specs.Bytes.{u32_at}
use Rattle.layout.specs.Ranges.{Rises}
use Rattle.layout.proofs.Arrays.{array-rises}
use Rattle.table_font.specs.Cmap.{cmap_faults}
use Rattle.table_font.proofs.Accepted.{accepted}
use Rattle.table_font.proofs.Groups.{cmap-array}
use Rattle.table_font.proofs.table.Cmap.groups.Goals as goal

pub invariant_of-result-2 : goal.invariant_of-result-2
invariant_of-result-2 c =
    let t = c.args.self.now.table.now in
    let array = cmap-array t (accepted Cmap t (cmap_faults t) c.args.self.now.accepted) in
    record { rises = subst (Rises 0) (sym c.groups.ensures.ranges) (array-rises GlyphsTo65535 Groups t 0 16 (u32_at t 12) array) }
