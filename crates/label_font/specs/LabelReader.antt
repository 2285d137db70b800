-- What one byte does to the reader of label files.
use Rattle.std.specs.Prelude.{ℕ, ◌+◌, ◌-◌, ◌*◌, Bool, false, cond, ◌&&◌, List, [], ◌∷◌, length, Some, None, Ok, Err, Option, Result, ◌==◌, nat_le, nat_lt}
use Rattle.font.specs.declared.refusal.Refusal.{Refusal}
use Rattle.font.specs.declared.refusal.Refusal.TheVariants.{Label}
use Rattle.label_font.specs.declared.table.LabelRow.{LabelRow}
use Rattle.font.specs.declared.refusal.LabelField.{LabelField}
use Rattle.font.specs.declared.refusal.LabelField.TheVariants.{Character, Glyph, Class, MarkClass, Advance}
use Rattle.label_font.specs.declared.reader.Reader.{Reader}
use Rattle.label_font.specs.LabelFile.{Place, ender, highest, lowest, past_last, after}

abbrev pub fault_at : Reader → Refusal
fault_at r = Label r.line r.next

-- One more digit may come.
abbrev pub has_room : Reader → Bool
has_room r = nat_lt r.count 7 && nat_lt r.value 1000000

abbrev pub grown : Reader → (digit : ℕ) → Reader
grown r d = record { next = r.next; count = r.count + 1; value = r.value * 10 + d; row = r.row; line = r.line; lowest = r.lowest }

-- The digits so far make a field of low to high.
abbrev pub is_field : Reader → (low high : ℕ) → Bool
is_field r low high = nat_le 1 r.count && (nat_le low r.value && (nat_le r.value high && nat_le r.line 256))

-- The place behind the field, with the row that it ends, if any, as the only one above.
abbrev pub behind : Reader → Place
behind r = after r.next [] r.row r.value

abbrev pub moved : Reader → Place → Reader
moved r p = record { next = p.next; count = 0; value = 0; row = p.row; line = r.line + length p.above; lowest = past_last r.lowest p.above }

abbrev pub grows : Reader → ℕ → Bool
grows r b = (nat_le 48 b && nat_le b 57) && has_room r

abbrev pub ends : Reader → ℕ → Bool
ends r b = b == ender r.next && is_field r (lowest r.next r.lowest) (highest r.next)

abbrev pub stepped : Reader → ℕ → Reader
stepped r b = cond (grows r b) (grown r (b - 48)) (cond (ends r b) (moved r (behind r)) r)

abbrev pub first_row : List LabelRow → Option LabelRow
first_row [] = None
first_row (row ∷ rows) = Some row

abbrev pub step_answer : Reader → ℕ → Result (Option LabelRow) Refusal
step_answer r b = cond (grows r b) (Ok None) (cond (ends r b) (Ok (first_row (behind r).above)) (Err (fault_at r)))

-- At the end of the bytes.
abbrev pub ends_at : LabelField → ℕ → Bool
ends_at Character n = n == 0
ends_at Glyph n = false
ends_at Class n = false
ends_at MarkClass n = false
ends_at Advance n = false

abbrev pub finish_answer : Reader → Result Unit Refusal
finish_answer r = cond (ends_at r.next r.count) (Ok tt) (Err (fault_at r))
