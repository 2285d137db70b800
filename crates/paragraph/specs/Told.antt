-- What the code answers, in the words of the calls.
use Rattle.std.specs.Prelude.{◌≡◌, ℕ, List, length, Ok, Err, Result}
use Rattle.font.specs.Font.{Font}
use Rattle.model.specs.declared.Entry.{Entry}
use Rattle.model.specs.declared.Glyph.{Glyph}
use Rattle.model.specs.Shaping.{Outcome, Shaped as ShapedText, refused, shaped}
use Rattle.shaping.specs.declared.refusal.Refusal.{Refusal as ShapingRefusal}
use Rattle.shaping.specs.declared.refusal.Refusal.TheVariants.{Plan as ShapingPlan, Size as ShapingSize, HitLimit as ShapingHitLimit, Room as ShapingRoom}
use Rattle.shaping.specs.declared.shape.Laid.{Laid}
use Rattle.shaping.specs.Shape.{refusal_number as shaping_number}
use Rattle.paragraph.specs.declared.blank.Blank.{Blank}
use Rattle.paragraph.specs.declared.line.Line.{Line}
use Rattle.paragraph.specs.declared.line.Line.TheVariants.{Kept, Owed}
use Rattle.paragraph.specs.declared.refusal.Refusal.{Refusal}
use Rattle.paragraph.specs.declared.refusal.Refusal.TheVariants.{Plan, Size, HitLimit, Room, Ends, WrongSlip, SlipsOwed}
use Rattle.paragraph.specs.declared.shaped.Shaped.{Shaped}
use Rattle.paragraph.specs.declared.slip.Slip.{Slip}
use Rattle.paragraph.specs.Calls.{Answer, Comes, Inputs, Memory, Paragraph, denied, done, first_refusal, gives, is_blank, is_shaped, kept, left_by, owes, paid, returned, unpaid}

abbrev pub refusal_number : Refusal → ℕ
refusal_number Plan = 5
refusal_number Size = 6
refusal_number HitLimit = 7
refusal_number Room = 8
refusal_number Ends = 9
refusal_number WrongSlip = 10
refusal_number SlipsOwed = 11

abbrev pub of_shaping : ShapingRefusal → Refusal
of_shaping ShapingPlan = Plan
of_shaping ShapingSize = Size
of_shaping ShapingHitLimit = HitLimit
of_shaping ShapingRoom = Room

abbrev pub memory : List Glyph → List ℕ → Memory
memory run marks = record { run = run; marks = marks }

abbrev pub inputs_of : Font → (advance : ℕ → ℕ) → (table : List ℕ) → List Entry → (text : List ℕ) → (limit : ℕ) → Inputs
inputs_of font advance t plan text limit = record { source = record { font = font; advance = advance }; table = t; plan = plan; text = text; limit = limit }

-- Glyph count and hits, or a refusal.
abbrev pub Tells : Result Laid ShapingRefusal → Outcome → Type 0
Tells (Ok laid) o = (w : ShapedText) × (o ≡ shaped w) × (laid.glyphs ≡ length w.run) × (laid.hits ≡ w.hits)
Tells (Err refusal) o = o ≡ refused (shaping_number refusal)

abbrev pub Filled : Inputs → (limit : ℕ) → (text : List ℕ) → Memory → Result Laid ShapingRefusal → Memory → Type 0
Filled x limit text m r m' = (o : Outcome) × Comes x limit text m o × Tells r o × (m' ≡ left_by (first_refusal x limit text m) o m)

abbrev pub shape_told : Result Shaped (Blank × Refusal) → Answer
shape_told (Ok k) = done
shape_told (Err p) = denied (refusal_number p.1)

abbrev pub shape_left : Result Shaped (Blank × Refusal) → Paragraph
shape_left (Ok k) = is_shaped k
shape_left (Err p) = is_blank p.0.number

abbrev pub line_told : (a b : ℕ) → Result Line Refusal → Answer
line_told a b (Ok (Kept first count)) = gives (kept a b first count)
line_told a b (Ok (Owed s)) = owes s
line_told a b (Err refusal) = denied (refusal_number refusal)

abbrev pub pay_told : Slip → Result Laid (Slip × Refusal) → (own : Memory) → Answer
pay_told s (Ok laid) own = gives (paid s.first s.last laid.glyphs laid.hits own)
pay_told s (Err p) own = unpaid (refusal_number p.1) p.0 own

abbrev pub waive_told : Result (Unit {0}) (Slip × Refusal) → Answer
waive_told (Ok u) = done
waive_told (Err p) = returned (refusal_number p.1) p.0

abbrev pub clear_told : Result Blank (Shaped × Refusal) → Answer
clear_told (Ok b) = done
clear_told (Err p) = denied (refusal_number p.1)

abbrev pub clear_left : Result Blank (Shaped × Refusal) → Paragraph
clear_left (Ok b) = is_blank b.number
clear_left (Err p) = is_shaped p.0
