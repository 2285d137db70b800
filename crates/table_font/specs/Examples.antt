-- What small tables mean, and which fault they have, worked out by hand.
use Rattle.std.specs.Prelude.{◌≡◌, ℕ, true, false, List, [], ◌∷◌, Some, None}
use Rattle.layout.specs.Faults.{first_in}
use Rattle.table_font.specs.Cmap.{cmap_faults, glyph_of}
use Rattle.table_font.specs.Gdef.{gdef_faults, glyph_class, in_set, mark_class_of}
use Rattle.table_font.specs.Hmtx.{advance_of, hmtx_faults}

-- A cmap with one group: the characters 65 to 67, from a glyph of two bytes on.
abbrev pub cmap : (high low : ℕ) → List ℕ
cmap high low =
    0 ∷ 12 ∷ 0 ∷ 0 ∷ 0 ∷ 0 ∷ 0 ∷ 28 ∷ 0 ∷ 0 ∷ 0 ∷ 0 ∷ 0 ∷ 0 ∷ 0 ∷ 1 ∷
    0 ∷ 0 ∷ 0 ∷ 65 ∷ 0 ∷ 0 ∷ 0 ∷ 67 ∷ 0 ∷ 0 ∷ high ∷ low ∷ []

-- A GDEF of version 1.2: glyph 5 has class 4, and 6 has 5, which is none; glyph 7 has mark class 9; mark set 1 of 2 has
-- glyph 7, and mark set 0 has none.
abbrev pub gdef : List ℕ
gdef =
    0 ∷ 1 ∷ 0 ∷ 2 ∷ 0 ∷ 14 ∷ 0 ∷ 0 ∷ 0 ∷ 0 ∷ 0 ∷ 24 ∷ 0 ∷ 32 ∷ 0 ∷ 1 ∷ 0 ∷ 5 ∷ 0 ∷ 2 ∷ 0 ∷ 4 ∷ 0 ∷ 5 ∷
    0 ∷ 1 ∷ 0 ∷ 7 ∷ 0 ∷ 1 ∷ 0 ∷ 9 ∷
    0 ∷ 1 ∷ 0 ∷ 2 ∷ 0 ∷ 0 ∷ 0 ∷ 12 ∷ 0 ∷ 0 ∷ 0 ∷ 16 ∷ 0 ∷ 1 ∷ 0 ∷ 0 ∷ 0 ∷ 1 ∷ 0 ∷ 1 ∷ 0 ∷ 7 ∷ []

-- Two metrics: advances 600 and 500.
abbrev pub hmtx : List ℕ
hmtx = 2 ∷ 88 ∷ 0 ∷ 0 ∷ 1 ∷ 244 ∷ 0 ∷ 0 ∷ []

pub record Examples : Type 0 where
  -- CMAP: glyphs follow one another in a group, up to 65,535
  pub first_of_a_group : glyph_of (cmap 0 9) 65 ≡ 9
  pub last_of_a_group : glyph_of (cmap 0 9) 67 ≡ 11
  pub past_the_group : glyph_of (cmap 0 9) 68 ≡ 0
  pub glyph_65535 : first_in (cmap_faults (cmap 255 253)) ≡ None
  pub largest_glyph : glyph_of (cmap 255 253) 67 ≡ 65535
  pub glyph_65536 :
      first_in (cmap_faults (cmap 255 254)) ≡ Some (record { number = 4; start = 0; byte = 24 })
  -- GDEF
  pub no_fault : first_in (gdef_faults gdef) ≡ None
  pub component : glyph_class gdef 5 ≡ 4
  pub class_above_4 : glyph_class gdef 6 ≡ 0
  pub not_listed : glyph_class gdef 7 ≡ 0
  pub mark_class : mark_class_of gdef 7 ≡ 9
  pub no_mark_class : mark_class_of gdef 5 ≡ 0
  pub in_set_1 : in_set gdef 1 7 ≡ true
  pub not_in_set_0 : in_set gdef 0 7 ≡ false
  pub no_set_2 : in_set gdef 2 7 ≡ false
  -- without a table
  pub no_table : first_in (gdef_faults []) ≡ None
  pub no_classes : glyph_class [] 5 ≡ 0
  -- HMTX: glyphs past the metrics have the last advance
  pub two_metrics : first_in (hmtx_faults hmtx 2) ≡ None
  pub first_advance : advance_of hmtx 2 0 ≡ 600
  pub past_the_metrics : advance_of hmtx 2 7 ≡ 500
  pub no_metric :
      first_in (hmtx_faults hmtx 0) ≡ Some (record { number = 4; start = 0; byte = 0 })
  pub metric_outside :
      first_in (hmtx_faults hmtx 3) ≡ Some (record { number = 1; start = 0; byte = 8 })
