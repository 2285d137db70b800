use Rattle.std.proofs.Common.{List, drop}
use Rattle.label_font.specs.declared.table.LabelRow.{LabelRow}
use Rattle.label_font.specs.LabelFile.{Reads, start}
use Rattle.label_font.specs.LabelFont.{rows_of}
use Rattle.font.specs.Told.{Told}
use Rattle.label_font.proofs.Reading.{Knows, ReadsFrom}
use Rattle.label_font.proofs.table.LabelFont.fill.Given as goal

-- what is left reads, from the rows and the reader so far, as the whole does
abbrev pub invariant-loop-byte : goal.invariant-loop-byte
invariant-loop-byte l = record {
  knows : Knows (rows_of l.self) l.reader;
  left : (t : Told (List LabelRow)) → ReadsFrom (rows_of l.self) l.reader (drop l.byte-index l.bytes) t → Reads start l.bytes t;
}
