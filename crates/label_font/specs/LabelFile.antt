-- What a label file is, what its rows are, and where its first fault lies.
-- A file is fields, one after the other, five to a row: character, glyph, class, mark class, advance.
use Rattle.std.specs.Prelude.{◌≡◌, ℕ, ◌+◌, ◌<◌, ◌≤◌, List, [], ◌∷◌, ◌++◌, length, ◌≢◌}
use Rattle.std.specs.Str.Parse.{AllDigits, digits_value}
use Rattle.label_font.specs.declared.table.LabelRow.{LabelRow}
use Rattle.font.specs.declared.refusal.LabelField.{LabelField}
use Rattle.font.specs.declared.refusal.LabelField.TheVariants.{Character, Glyph, Class, MarkClass, Advance}
use Rattle.label_font.specs.LabelFont.{no_row}
use Rattle.font.specs.Font.{class_of}
use Rattle.font.specs.Told.{Told, gave, refused, field_number}

-- A place in a file: the rows above, what is known of this row (the rest is blank), and the field that comes next.
pub record Place : Type 0 where
  pub above : List LabelRow
  pub row : LabelRow
  pub next : LabelField

abbrev pub start : Place
start = record { above = []; row = no_row; next = Character }

-- The byte that ends a field: a tab, and after the last a line feed.
abbrev pub ender : LabelField → ℕ
ender Character = 9
ender Glyph = 9
ender Class = 9
ender MarkClass = 9
ender Advance = 10

-- The highest value of a field.
abbrev pub highest : LabelField → ℕ
highest Character = 1114111
highest Glyph = 65535
highest Class = 4
highest MarkClass = 65535
highest Advance = 65535

-- One more than the last row's glyph; n where there is no row.
abbrev pub past_last : ℕ → List LabelRow → ℕ
past_last n [] = n
past_last n (row ∷ rows) = past_last (row.glyph + 1) rows

-- The lowest value of a field: glyphs rise strictly from row to row, so that a row's is g or above.
abbrev pub lowest : LabelField → (g : ℕ) → ℕ
lowest Character g = 0
lowest Glyph g = g
lowest Class g = 0
lowest MarkClass g = 0
lowest Advance g = 0

-- The place after a field with the value v.
abbrev pub after : LabelField → List LabelRow → LabelRow → ℕ → Place
after Character above row v = record { above = above; row = record { character = v; glyph = row.glyph; class = row.class; mark_class = row.mark_class; advance = row.advance }; next = Glyph }
after Glyph above row v = record { above = above; row = record { character = row.character; glyph = v; class = row.class; mark_class = row.mark_class; advance = row.advance }; next = Class }
after Class above row v = record { above = above; row = record { character = row.character; glyph = row.glyph; class = class_of v; mark_class = row.mark_class; advance = row.advance }; next = MarkClass }
after MarkClass above row v = record { above = above; row = record { character = row.character; glyph = row.glyph; class = row.class; mark_class = v; advance = row.advance }; next = Advance }
after Advance above row v = record { above = above ++ record { character = row.character; glyph = row.glyph; class = row.class; mark_class = row.mark_class; advance = v } ∷ []; row = no_row; next = Character }

abbrev pub filled : Place → ℕ → Place
filled p v = after p.next p.above p.row v

-- The text is the next field's and says v: one to seven digits and the byte that ends it. At most 256 rows.
pub record Field (p : Place) (text : List ℕ) (v : ℕ) : Type 0 where
  pub digits : List ℕ
  pub spelt : text ≡ digits ++ ender p.next ∷ []
  pub decimal : AllDigits 10 digits
  pub some : 1 ≤ length digits
  pub few : length digits ≤ 7
  pub says : v ≡ digits_value 10 digits
  pub from : lowest p.next (past_last 0 p.above) ≤ v
  pub to : v ≤ highest p.next
  pub room : length p.above < 256

-- What bytes read as from a place on: the rows of the file, or where its first fault lies.
pub data Reads : Place → List ℕ → Told (List LabelRow) → Type 0 where
  -- they end, and with them a row
  done : {p : Place} {bytes : List ℕ} → bytes ≡ [] → p.next ≡ Character → Reads p bytes (gave p.above)
  -- a field begins them, and behind it they read so
  field : {p : Place} {bytes text rest : List ℕ} {v : ℕ} {t : Told (List LabelRow)} → bytes ≡ text ++ rest → Field p text v → Reads (filled p v) rest t → Reads p bytes t
  -- neither: the fault is in this line and this field, both counted from 1
  fault : {p : Place} {bytes : List ℕ} → (bytes ≡ [] → p.next ≢ Character) → ((text rest : List ℕ) (v : ℕ) → bytes ≡ text ++ rest → Field p text v → ⊥)
      → Reads p bytes (refused 12 ((length p.above + 1) ∷ field_number p.next ∷ []))

-- No bytes read as two things.
abbrev pub OneReading : Type 0
OneReading = (p : Place) (bytes : List ℕ) (s t : Told (List LabelRow)) → Reads p bytes s → Reads p bytes t → s ≡ t
