-- Tables without faults.
use Rattle.std.proofs.Common.{◌≡◌, ℕ, List, None, sym, ◌∙◌}
use Rattle.layout.specs.declared.fault.Fault.{Fault}
use Rattle.layout.specs.declared.fault.TableName.{TableName}
use Rattle.layout.specs.declared.fault.TableName.TheVariants.{Cmap, Gdef, Hmtx}
use Rattle.layout.specs.Faults.{first_in, own_place, too_long}
use Rattle.layout.proofs.Firsts.{first-behind, none-parts, none-reports}
use Rattle.table_font.specs.Cmap.{cmap_faults}
use Rattle.table_font.specs.Gdef.{gdef_faults}
use Rattle.table_font.specs.Hmtx.{hmtx_faults}
use Rattle.table_font.specs.TableFont.{table_faults, font_faults}

-- a table without faults has a structure without faults
pub accepted : (name : TableName) (t : List ℕ) (faults : List Fault) → first_in (table_faults name t faults) ≡ None → first_in faults ≡ None
accepted name t faults e = none-reports (own_place name) faults (none-parts (too_long name t) _ e).1

-- behind a cmap subtable and a GDEF table without faults
pub third : (cmap gdef hmtx : List ℕ) (n : ℕ) → None ≡ first_in (table_faults Cmap cmap (cmap_faults cmap)) → None ≡ first_in (table_faults Gdef gdef (gdef_faults gdef))
    → first_in (font_faults cmap gdef hmtx n) ≡ first_in (table_faults Hmtx hmtx (hmtx_faults hmtx n))
third cmap gdef hmtx n e f = first-behind (table_faults Cmap cmap (cmap_faults cmap)) _ (sym e) ∙ first-behind (table_faults Gdef gdef (gdef_faults gdef)) _ (sym f)
