-- The calls of a paragraph: what they are given, what they answer, and what shaping comes to in memory that is lent.
use Rattle.std.specs.Prelude.{◌≡◌, ℕ, ◌-◌, List, ◌++◌, length, replicate, Some, None, Option}
use Rattle.font.specs.Font.{Font}
use Rattle.gsub.specs.Meaning.{gsub_means}
use Rattle.gsub.specs.Tables.{lookup_count}
use Rattle.model.specs.declared.Entry.{Entry}
use Rattle.model.specs.declared.Glyph.{Glyph}
use Rattle.model.specs.Limits.{refused_first}
use Rattle.model.specs.Shaping.{Outcome, Shapes, refused, shaped}
use Rattle.paragraph.specs.declared.shaped.Shaped.{Shaped}
use Rattle.paragraph.specs.declared.slip.Slip.{Slip}

-- What a measured source means: a font, and an advance for each glyph. It is one thing, so that no width is that of another font.
pub record Measured : Type 0 where
  pub font : Font
  pub advance : ℕ → ℕ

-- All that shape reads; the table by its bytes. (A table in the code is one that was found without faults; what is said of a paragraph holds of any bytes.)
pub record Inputs : Type 0 where
  pub source : Measured
  pub table : List ℕ
  pub plan : List Entry
  pub text : List ℕ
  pub limit : ℕ

-- A run and marks, lent to a call.
pub record Memory : Type 0 where
  pub run : List Glyph
  pub marks : List ℕ

-- Blank, made with a number; or shaped: its text's length, its glyph count, hits and hit limit, and how many slips are owed.
pub data Paragraph : Type 0 where
  is_blank : (number : ℕ) → Paragraph
  is_shaped : Shaped → Paragraph

-- Pay is lent memory of its own.
pub data Call : Type 0 where
  shape : Call
  line : (a b : ℕ) → Call
  pay : Slip → (own : Memory) → Call
  waive : Slip → Call
  clear : Call

-- A line given out, of the characters from a to before b: kept in the paragraph's records, or paid for, with what pay left.
pub data Line : Type 0 where
  kept : (a b first count : ℕ) → Line
  paid : (a b count hits : ℕ) → (own : Memory) → Line

-- What a call answers: it is done; a line; a slip that is owed from then on; a refusal. A refused pay or waive hands the slip back, and pay tells what it left.
pub data Answer : Type 0 where
  done : Answer
  gives : Line → Answer
  owes : Slip → Answer
  denied : (number : ℕ) → Answer
  returned : (number : ℕ) → Slip → Answer
  unpaid : (number : ℕ) → Slip → (own : Memory) → Answer

module _ (x : Inputs) (limit : ℕ) (text : List ℕ) (m : Memory) where
  -- What is refused before anything is shaped.
  abbrev pub first_refusal : Option ℕ
  first_refusal = refused_first (length text) (length m.run) (length m.marks) limit (lookup_count x.table) x.plan

  abbrev pub by_first : Option ℕ → Outcome → Type 0
  by_first (Some n) o = o ≡ refused n
  by_first None o = Shapes (record { font = x.source.font; table = gsub_means x.table; plan = x.plan; limit = limit; room = length m.run }) text o

  -- What shaping characters comes to, by a hit limit and in memory that is lent.
  abbrev pub Comes : Outcome → Type 0
  Comes = by_first first_refusal

-- The records and zeros behind them, and likewise the marks.
abbrev pub filled : Outcome → Memory → Memory
filled (refused n) m = record { run = replicate (length m.run) (record { glyph = 0; cluster = 0 }); marks = replicate (length m.marks) 0 }
filled (shaped r) m =
    record { run = r.run ++ replicate (length m.run - length r.run) (record { glyph = 0; cluster = 0 }); marks = r.marks ++ replicate (length m.marks - length r.marks) 0 }

-- What shaping leaves: nothing changes where it was refused before it began.
abbrev pub left_by : (first : Option ℕ) → Outcome → Memory → Memory
left_by (Some n) o m = m
left_by None o m = filled o m
