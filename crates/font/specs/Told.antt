-- What a refusal tells: its number and the values that come with it.
use Rattle.std.specs.Prelude.{ℕ, List, [], ◌∷◌, Ok, Err, Result, ◌++◌, codes, decimal}
use Rattle.font.specs.declared.refusal.LabelField.{LabelField}
use Rattle.font.specs.declared.refusal.LabelField.TheVariants.{Character, Glyph, Class, MarkClass, Advance}
use Rattle.font.specs.declared.refusal.Refusal.{Refusal}
use Rattle.font.specs.declared.refusal.Refusal.TheVariants.{RunTooLong, Label, TooManyPairs}

-- An answer as the contracts have it: a value, or a refusal by its number and its values.
pub data Told (X : Type 0) : Type 0 where
  gave : X → Told X
  refused : (number : ℕ) (values : List ℕ) → Told X

-- A field's number in the row of a label file.
abbrev pub field_number : LabelField → ℕ
field_number Character = 1
field_number Glyph = 2
field_number Class = 3
field_number MarkClass = 4
field_number Advance = 5

-- A label file's fault tells its line and its field, both from 1.
abbrev pub told : {X : Type 0} → Result X Refusal → Told X
told (Ok x) = gave x
told (Err RunTooLong) = refused 6 []
told (Err (Label line field)) = refused 12 (line ∷ field_number field ∷ [])
told (Err TooManyPairs) = refused 13 []

-- The same, for a call that hands its value over in memory.
abbrev pub told_with : {X Y : Type 0} → Y → Result X Refusal → Told Y
told_with y (Ok x) = gave y
told_with y (Err e) = told (Err e)

-- A refusal's number; 0 for none.
abbrev pub number_of : {X : Type 0} → Told X → ℕ
number_of (gave x) = 0
number_of (refused number values) = number

-- How a refusal is printed: its number, and the line and the field of a label file's fault.
abbrev pub refusal_text : Refusal → List ℕ
refusal_text RunTooLong = codes "refused 6"
refusal_text (Label line field) = codes "refused 12 line " ++ (decimal line ++ (codes " field " ++ decimal (field_number field)))
refusal_text TooManyPairs = codes "refused 13"
