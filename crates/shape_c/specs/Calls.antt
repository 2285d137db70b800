-- What a call from C is given, what it comes to, and what it leaves in the memory lent to it.
use Rattle.std.specs.Prelude.{◌≡◌, ℕ, List, length, ◌++◌, replicate, None, Some, Option}
use Rattle.gsub.specs.Tables.{gsub_faults, lookup_count}
use Rattle.layout.specs.Faults.{first_in}
use Rattle.layout.specs.declared.fault.Report.{Report}
use Rattle.model.specs.declared.Entry.{Entry}
use Rattle.model.specs.declared.Glyph.{Glyph}
use Rattle.model.specs.Limits.{refused_first}
use Rattle.model.specs.Shaping.{Outcome, Shapes}
use Rattle.shaping.specs.Attempts.{inputs_of}
use Rattle.shaping.specs.Shape.{marks_left, run_left}
use Rattle.table_font.specs.TableFont.{font_faults, font_of_tables}

-- What a call is given to read.
pub record Call : Type 0 where
  pub gsub : List ℕ
  pub cmap : List ℕ
  pub gdef : List ℕ
  pub plan : List Entry
  pub limit : ℕ
  pub text : List ℕ

-- An hmtx table of one metric, which has no fault: no advance is asked for.
abbrev pub one_metric : List ℕ
one_metric = replicate 4 0

-- The faults of GSUB, then those of cmap, then those of GDEF.
unfoldable pub faults_in_turn : (gsub cmap gdef : List ℕ) → List Report
faults_in_turn gsub cmap gdef = gsub_faults gsub ++ font_faults cmap gdef one_metric 1

abbrev pub first_fault : Call → Option Report
first_fault call = first_in (faults_in_turn call.gsub call.cmap call.gdef)

-- What is refused before anything is shaped, into a run of so many records and so many marks.
abbrev pub first_refusal : Call → (room places : ℕ) → Option ℕ
first_refusal call room places =
    refused_first (length call.text) room places call.limit (lookup_count call.gsub) call.plan

-- What the text is shaped to over what the tables mean: an outcome of its own, or a refusal by the hit limit or the room.
abbrev pub ShapesTo : Call → (room : ℕ) → Outcome → Type 0
ShapesTo call room o =
    Shapes (inputs_of (font_of_tables call.cmap call.gdef) call.gsub call.plan call.limit room) call.text o

-- What a call comes to: a table's fault, a refusal before the text is shaped, or what it is shaped to.
pub data End : Type 0 where
  faulty : Report → End
  barred : (number : ℕ) → End
  ended : Outcome → End

-- Tables come first, then what is refused before shaping.
abbrev pub ComesBy : (fault : Option Report) (refusal : Option ℕ) (To : Outcome → Type 0) → End → Type 0
ComesBy (Some f) refusal To e = e ≡ faulty f
ComesBy None (Some n) To e = e ≡ barred n
ComesBy None None To e = (o : Outcome) × To o × (e ≡ ended o)

abbrev pub Comes : Call → (room places : ℕ) → End → Type 0
Comes call room places e =
    ComesBy (first_fault call) (first_refusal call room places) (ShapesTo call room) e

-- Run and marks stay as they were, unless the text was shaped or stopped: then zeros lie past the result.
abbrev pub run_after : End → List Glyph → List Glyph
run_after (faulty f) run = run
run_after (barred n) run = run
run_after (ended o) run = run_left o (length run)

abbrev pub marks_after : End → List ℕ → List ℕ
marks_after (faulty f) marks = marks
marks_after (barred n) marks = marks
marks_after (ended o) marks = marks_left o (length marks)
