use Rattle.std.proofs.Common.{◌≡◌, sym, ap, ◌∙◌, subst}
use Rattle.layout.specs.declared.array.Kind.TheVariants.{Groups}
use Rattle.layout.specs.declared.array.Third.TheVariants.{GlyphsTo65535}
use Rattle.layout.specs.declared.fault.TableName.TheVariants.{Cmap}
use Rattle.layout.specs.Bytes.{u32_at}
use Rattle.layout.specs.Ranges.{holding}
use Rattle.layout.proofs.Arrays.{array-order}
use Rattle.table_font.specs.Cmap.{cmap_faults, groups, Maps}
use Rattle.table_font.proofs.Accepted.{accepted}
use Rattle.table_font.proofs.Groups.{cmap-array, order-maps}
use Rattle.table_font.proofs.table.Cmap.group_of.Goals as goal

pub returns-clause-bound : goal.returns-clause-bound
returns-clause-bound c =
    let t = c.args.self.now.table.now in
    let none = accepted Cmap t (cmap_faults t) c.args.self.now.accepted in
    let found : c.find.result ≡ holding c.args.character (groups t) = c.find.ensures.range ∙ ap (holding c.args.character) c.groups.ensures in
    subst (Maps c.args.character) (sym found) (order-maps Groups 0 16 0 0 (groups t) c.args.character (array-order GlyphsTo65535 Groups t 0 16 (u32_at t 12) (cmap-array t none)))
