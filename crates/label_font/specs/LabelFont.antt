-- What a label font means, by the rows of its file.
use Rattle.std.specs.Prelude.{ℕ, false, cond, List, Some, None, Option, ◌==◌, nat_eq}
use Rattle.label_font.specs.declared.table.LabelRow.{LabelRow}
use Rattle.label_font.specs.declared.table.LabelFont.{LabelFont}
use Rattle.font.specs.Font.{Font, class_number}
use Rattle.font.specs.Search.{first_that}

-- A row of zeros and with no class: what is not listed has these.
abbrev pub no_row : LabelRow
no_row = record { character = 0; glyph = 0; class = None; mark_class = 0; advance = 0 }

-- The rows that a font holds.
abbrev pub rows_of : LabelFont → List LabelRow
rows_of font = font.rows

abbrev pub or_no_row : Option LabelRow → LabelRow
or_no_row None = no_row
or_no_row (Some row) = row

-- The first row with a character; the row of a glyph.
abbrev pub row_of_character : List LabelRow → ℕ → LabelRow
row_of_character rows c = or_no_row (first_that (λ row. nat_eq row.character c) rows)

abbrev pub row_of_glyph : List LabelRow → ℕ → LabelRow
row_of_glyph rows g = or_no_row (first_that (λ row. nat_eq row.glyph g) rows)

-- A row with character 0 maps no character, so character 0 has glyph 0. There are no mark sets.
abbrev pub font_of_label : List LabelRow → Font
font_of_label rows = record {
  glyph = λ c. cond (c == 0) 0 (row_of_character rows c).glyph;
  class = λ g. class_number (row_of_glyph rows g).class;
  mark_class = λ g. (row_of_glyph rows g).mark_class;
  in_mark_set = λ k g. false;
}

abbrev pub label_advance : List LabelRow → ℕ → ℕ
label_advance rows g = (row_of_glyph rows g).advance
