-- A worked history, so that the law is not empty; and what the law refuses. Glyphs: f = 1, i = 2, the ligature fi = 4, x = 5; each is 100 wide.
use Rattle.std.specs.Prelude.{◌≡◌, ℕ, false, List, [], ◌∷◌, None}
use Rattle.layout.specs.Faults.{first_in}
use Rattle.gsub.specs.Tables.{gsub_faults}
use Rattle.model.specs.declared.Glyph.{Glyph}
use Rattle.model.specs.Examples.{◌∶◌}
use Rattle.model.specs.Laws.{Cuts, pieces, run_width}
use Rattle.paragraph.specs.declared.shaped.Shaped.{Shaped}
use Rattle.paragraph.specs.declared.slip.Slip.{Slip}
use Rattle.paragraph.specs.Calls.{Answer, Call, Inputs, Line, Memory, clear, denied, done, gives, is_shaped, kept, line, owes, paid, pay, returned, shape, unpaid, waive}
use Rattle.paragraph.specs.Step.{glyphs_of, marks_of}
use Rattle.paragraph.specs.Law.{Course, History, Outlasts, Right}

-- One lookup of type 4: f i becomes fi.
abbrev pub table : List ℕ
table =
    0 ∷ 1 ∷ 0 ∷ 0 ∷ 0 ∷ 0 ∷ 0 ∷ 0 ∷ 0 ∷ 10 ∷ 0 ∷ 1 ∷ 0 ∷ 4 ∷ 0 ∷ 4 ∷ 0 ∷ 0 ∷ 0 ∷ 1 ∷ 0 ∷ 8 ∷ 0 ∷ 1 ∷ 0 ∷ 8 ∷ 0 ∷ 1 ∷ 0 ∷ 14 ∷
    0 ∷ 1 ∷ 0 ∷ 1 ∷ 0 ∷ 1 ∷ 0 ∷ 1 ∷ 0 ∷ 4 ∷ 0 ∷ 4 ∷ 0 ∷ 2 ∷ 0 ∷ 2 ∷ []

-- The text f i x, at hit limit 10.
abbrev pub fix : Inputs
fix = record {
  source = record { font = record { glyph = λ c. c; class = λ g. 0; mark_class = λ g. 0; in_mark_set = λ k g. false }; advance = λ g. 100 };
  table = table;
  plan = record { lookup = 0; alternate = 1 } ∷ [];
  text = 1 ∷ 2 ∷ 5 ∷ [];
  limit = 10;
}

abbrev pub paragraph : (owed : ℕ) → Shaped
paragraph owed = record { number = 7; length = 3; count = 2; hits = 1; limit = 10; owed = owed }

abbrev pub slip : Slip
slip = record { number = 7; first = 0; last = 1 }

abbrev pub fresh : Memory
fresh = record { run = 0 ∶ 0 ∷ 0 ∶ 0 ∷ 0 ∶ 0 ∷ []; marks = 9 ∷ 9 ∷ 9 ∷ 9 ∷ [] }

abbrev pub full : Memory
full = record { run = 4 ∶ 0 ∷ 5 ∶ 2 ∷ 0 ∶ 0 ∷ []; marks = 0 ∷ 2 ∷ 0 ∷ 0 ∷ [] }

abbrev pub no_room : (mark : ℕ) → Memory
no_room mark = record { run = []; marks = mark ∷ [] }

abbrev pub room_for_two : Glyph → List ℕ → Memory
room_for_two g marks = record { run = g ∷ 0 ∶ 0 ∷ []; marks = marks }

-- The last call first: shaped; the line of fi kept; a line of f alone that is owed; clear refused; pay refused, since it has no room; paid; and waived when nothing is owed any more.
abbrev pub calls : List (Call × Answer)
calls =
    (waive slip, returned 10 slip)
    ∷ (pay slip (room_for_two (0 ∶ 0) (8 ∷ 8 ∷ [])), gives (paid 0 1 1 0 (room_for_two (1 ∶ 0) (0 ∷ 0 ∷ []))))
    ∷ (pay slip (no_room 8), unpaid 8 slip (no_room 0))
    ∷ (clear, denied 11)
    ∷ (line 0 1, owes slip)
    ∷ (line 0 2, gives (kept 0 2 0 1))
    ∷ (shape, done)
    ∷ []

abbrev pub course : List Line → Course
course lines = record { inputs = fix; filled = full; memory = full; lines = lines }

pub record Worked : Type 0 where
  -- the table has no fault
  pub accepted : first_in (gsub_faults table) ≡ None
  -- these calls are a history, and so are they with a clear and a second shape behind them
  pub history : History 7 calls (is_shaped (paragraph 0)) (course (paid 0 1 1 0 (room_for_two (1 ∶ 0) (0 ∷ 0 ∷ [])) ∷ kept 0 2 0 1 ∷ []))
  pub again : History 7 ((shape, done) ∷ (clear, done) ∷ calls) (is_shaped (paragraph 0)) (course [])
  -- the text may be cut at 0, at 2 and at its end
  pub cuts : Cuts (marks_of (paragraph 0) full) 0 3 (0 ∷ 2 ∷ 3 ∷ [])
  pub parts : pieces 0 (0 ∷ 2 ∷ 3 ∷ []) (1 ∷ 2 ∷ 5 ∷ []) ≡ [] ∷ (1 ∷ 2 ∷ []) ∷ (5 ∷ []) ∷ [] ∷ []
  pub width : run_width (λ g. 100) (glyphs_of (paragraph 0) full) ≡ 200

-- The same paragraph with no tie in its marks.
abbrev pub untied : Memory
untied = record { run = full.run; marks = 0 ∷ 0 ∷ 0 ∷ 0 ∷ [] }

pub record Refuted : Type 0 where
  -- the ligature is not what f alone is shaped to
  pub wrong_line : Right fix full (kept 0 1 0 1) → ⊥
  -- with all marks 0 the text could be cut inside the ligature, and the law does not hold of that
  pub no_ties : Outlasts (paragraph 0) (record { inputs = fix; filled = untied; memory = untied; lines = [] }) → ⊥
