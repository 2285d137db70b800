-- The font that three tables mean, and their faults: cmap, GDEF and hmtx in turn, each with its length first.
use Rattle.std.specs.Prelude.{ℕ, List, ◌++◌}
use Rattle.font.specs.Font.{Font}
use Rattle.layout.specs.declared.fault.Report.{Report}
use Rattle.layout.specs.declared.fault.TableName.{TableName}
use Rattle.layout.specs.declared.fault.TableName.TheVariants.{Cmap, Gdef, Hmtx}
use Rattle.layout.specs.declared.fault.Fault.{Fault}
use Rattle.layout.specs.Faults.{reports, own_place, too_long}
use Rattle.table_font.specs.Cmap.{cmap_faults, glyph_of}
use Rattle.table_font.specs.Gdef.{gdef_faults, glyph_class, mark_class_of, in_set}
use Rattle.table_font.specs.Hmtx.{hmtx_faults}

-- The faults of one of the tables.
abbrev pub table_faults : TableName → (table : List ℕ) → List Fault → List Report
table_faults name t faults = too_long name t ++ reports (own_place name) faults

abbrev pub font_faults : (cmap gdef hmtx : List ℕ) → (metrics : ℕ) → List Report
font_faults cmap gdef hmtx n =
    table_faults Cmap cmap (cmap_faults cmap) ++ (table_faults Gdef gdef (gdef_faults gdef) ++ table_faults Hmtx hmtx (hmtx_faults hmtx n))

-- What the tables mean, where they have no fault.
abbrev pub font_of_tables : (cmap gdef : List ℕ) → Font
font_of_tables cmap gdef = record {
  glyph = glyph_of cmap;
  class = glyph_class gdef;
  mark_class = mark_class_of gdef;
  in_mark_set = in_set gdef;
}
