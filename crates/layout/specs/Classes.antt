-- Class definitions: a number for each glyph, 0 for those that are not listed. Format 1 lists the classes of glyphs in a row, format 2 ranges of glyphs with a class.
use Rattle.std.specs.Prelude.{ℕ, ◌+◌, ◌-◌, ◌*◌, cond, ◌&&◌, List, ◌++◌, Some, None, Option, ◌==◌, nat_le, nat_lt}
use Rattle.layout.specs.declared.array.Kind.TheVariants.{Records}
use Rattle.layout.specs.declared.array.Range.{Range}
use Rattle.layout.specs.declared.array.Third.TheVariants.{Any}
use Rattle.layout.specs.Bytes.{u16_at}
use Rattle.layout.specs.declared.fault.Fault.{Fault}
use Rattle.layout.specs.Faults.{extent, format_faults}
use Rattle.layout.specs.Ranges.{counted_ranges, counted_faults, holding}

-- The ranges of format 2: count, and from byte 4 on the entries.
abbrev pub class_ranges : (table : List ℕ) → (s : ℕ) → List Range
class_ranges t s = counted_ranges Records t s

-- Format 1: the first glyph, the count and the array lie in the table.
abbrev pub list_faults : (table : List ℕ) → (s : ℕ) → List Fault
list_faults t s = extent t s (s + 2) 2 2 ++ extent t s (s + 6) 2 (u16_at t (s + 4))

-- Format 2: the count and the array lie in the table; then the order of the ranges.
abbrev pub range_faults : (table : List ℕ) → (s : ℕ) → List Fault
range_faults t s = counted_faults Any Records t s

-- The faults of the class definition at s.
abbrev pub class_faults : (table : List ℕ) → (s : ℕ) → List Fault
class_faults t s = format_faults t s 2 ++ cond (u16_at t s == 1) (list_faults t s) (range_faults t s)

-- Format 1: entry k is the class of the k-th glyph from the first on.
abbrev pub listed_class : (table : List ℕ) → (s glyph : ℕ) → ℕ
listed_class t s g =
    cond (nat_le (u16_at t (s + 2)) g && nat_lt g (u16_at t (s + 2) + u16_at t (s + 4)))
    (u16_at t (s + (6 + 2 * (g - u16_at t (s + 2))))) 0

-- A range's value; 0 where there is none.
abbrev pub value_in : Option Range → ℕ
value_in None = 0
value_in (Some r) = r.value

-- The class of a glyph by the class definition at s.
abbrev pub class_at : (table : List ℕ) → (s glyph : ℕ) → ℕ
class_at t s g = cond (u16_at t s == 1) (listed_class t s g) (value_in (holding g (class_ranges t s)))

-- The same where an offset, counted from `base`, leads to the class definition. With offset 0 every glyph has class 0.
abbrev pub class_behind : (table : List ℕ) → (offset base glyph : ℕ) → ℕ
class_behind t offset base g = cond (offset == 0) 0 (class_at t (base + offset) g)
