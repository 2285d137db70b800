-- Coverages: which glyphs a subtable is for, and the index of each. Format 1 lists glyphs, format 2 ranges of them.
use Rattle.std.specs.Prelude.{ℕ, ◌+◌, ◌-◌, cond, List, ◌++◌, Some, None, Option, ◌==◌}
use Rattle.layout.specs.declared.array.Kind.{Kind}
use Rattle.layout.specs.declared.array.Kind.TheVariants.{Glyphs, Records}
use Rattle.layout.specs.declared.array.Range.{Range}
use Rattle.layout.specs.declared.array.Third.TheVariants.{StartIndex}
use Rattle.layout.specs.Bytes.{u16_at}
use Rattle.layout.specs.declared.fault.Fault.{Fault}
use Rattle.layout.specs.Faults.{format_faults}
use Rattle.layout.specs.Ranges.{counted_ranges, counted_faults, holding}

abbrev pub kind_of : (format : ℕ) → Kind
kind_of f = cond (f == 1) Glyphs Records

-- The ranges of the coverage at s: format, count, and from byte 4 on the entries.
abbrev pub coverage_ranges : (table : List ℕ) → (s : ℕ) → List Range
coverage_ranges t s = counted_ranges (kind_of (u16_at t s)) t s

-- Its faults: format, count and the array's extent; then, entry by entry, order and start index.
abbrev pub coverage_faults : (table : List ℕ) → (s : ℕ) → List Fault
coverage_faults t s = format_faults t s 2 ++ counted_faults StartIndex (kind_of (u16_at t s)) t s

-- The index of a glyph: its range's start index, and how far into the range it is.
abbrev pub index_in : (glyph : ℕ) → Option Range → Option ℕ
index_in g None = None
index_in g (Some r) = Some (r.value + (g - r.first))

-- The index of a glyph, if the coverage at s has it.
abbrev pub coverage_index : (table : List ℕ) → (s glyph : ℕ) → Option ℕ
coverage_index t s g = index_in g (holding g (coverage_ranges t s))
