-- What a call from C answers.
use Rattle.std.specs.Prelude.{ℕ, length}
use Rattle.layout.specs.Told.{number_or_none}
use Rattle.layout.specs.declared.fault.Report.{Report}
use Rattle.layout.specs.declared.fault.TableName.{TableName}
use Rattle.layout.specs.declared.fault.TableName.TheVariants.{Gsub, Cmap, Gdef, Hmtx}
use Rattle.model.specs.Shaping.{refused, shaped}
use Rattle.shape_c.specs.declared.answer.Answer.{Answer}
use Rattle.shape_c.specs.Calls.{End, faulty, barred, ended}
use Rattle.shaping.specs.Shape.{Answer as ShapingAnswer, gave, refused as told_refused}

-- A table's number; 0 is none. No call gives an hmtx table.
abbrev pub table_number : TableName → ℕ
table_number Gsub = 1
table_number Cmap = 2
table_number Gdef = 3
table_number Hmtx = 4

-- Kind 0: how many glyphs there are, and how many hits it took.
abbrev pub shaped_answer : (glyphs hits : ℕ) → Answer
shaped_answer glyphs hits = record {
  kind = 0;
  number = 0;
  table = 0;
  lookup = 65535;
  subtable = 65535;
  hits = hits;
  glyphs = glyphs;
  structure = 0;
  byte = 0;
}

-- Kind 1: a table's fault, with all that it tells.
abbrev pub faulty_answer : Report → Answer
faulty_answer f = record {
  kind = 1;
  number = f.fault.number;
  table = table_number f.place.table;
  lookup = number_or_none f.place.lookup;
  subtable = number_or_none f.place.subtable;
  hits = 0;
  glyphs = 0;
  structure = f.fault.start;
  byte = f.fault.byte;
}

-- Kind 2: a refusal, by its number.
abbrev pub refused_answer : ℕ → Answer
refused_answer n = record {
  kind = 2;
  number = n;
  table = 0;
  lookup = 65535;
  subtable = 65535;
  hits = 0;
  glyphs = 0;
  structure = 0;
  byte = 0;
}

-- The right answer, by what a call comes to.
abbrev pub answer_of : End → Answer
answer_of (faulty f) = faulty_answer f
answer_of (barred n) = refused_answer n
answer_of (ended (refused n)) = refused_answer n
answer_of (ended (shaped r)) = shaped_answer (length r.run) r.hits

-- What is told of shaping over tables without a fault.
abbrev pub answered : ShapingAnswer → Answer
answered (told_refused n) = refused_answer n
answered (gave glyphs hits) = shaped_answer glyphs hits
