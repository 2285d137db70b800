-- A GDEF table: the class of a glyph, the mark class of a mark, and sets of marks. Empty bytes mean that there is none.
use Rattle.std.specs.Prelude.{ℕ, ◌+◌, ◌*◌, Bool, cond, not, ◌&&◌, ◌||◌, List, [], ◌++◌, length, is_some, ◌==◌, nat_le, nat_lt}
use Rattle.table_font.specs.declared.gdef.Classes.{Classes}
use Rattle.table_font.specs.declared.gdef.Classes.TheVariants.{OfGlyphs, OfMarks}
use Rattle.layout.specs.Bytes.{u16_at, u32_at}
use Rattle.layout.specs.Classes.{class_faults, class_behind}
use Rattle.layout.specs.Coverages.{coverage_faults, coverage_index}
use Rattle.layout.specs.declared.fault.Fault.{Fault}
use Rattle.layout.specs.Faults.{unless, extent, counted_extent, format_faults, in_turn, if_there}

-- The offset of the class definition of glyphs, and of marks.
abbrev pub classes_offset : (table : List ℕ) → Classes → ℕ
classes_offset t OfGlyphs = u16_at t 4
classes_offset t OfMarks = u16_at t 10

-- The offset of the mark sets, which are there from minor version 2 on; 0 for none.
abbrev pub mark_sets_offset : (table : List ℕ) → ℕ
mark_sets_offset t = cond (nat_le 2 (u16_at t 2)) (u16_at t 12) 0

-- One of the mark sets at s: a coverage, whose offset of 32 bits at byte i counts from s and may not be 0.
abbrev pub set_faults_at : (table : List ℕ) → (s i : ℕ) → List Fault
set_faults_at t s i = unless (not (u32_at t i == 0)) 2 s i ++ coverage_faults t (s + u32_at t i)

-- The faults of the mark sets at s: format 1, count, and the coverages.
abbrev pub mark_sets_faults : (table : List ℕ) → (s : ℕ) → List Fault
mark_sets_faults t s =
    format_faults t s 1 ++ (counted_extent t s (s + 2) 4 ++ in_turn (λ k i. set_faults_at t s i) 4 0 (s + 4) (u16_at t (s + 2)))

-- The faults of the header: major version 1; minor version 0, 2 or 3; four offsets, and from minor version 2 on a fifth.
abbrev pub header_faults : (table : List ℕ) → List Fault
header_faults t =
    extent t 0 0 2 1
    ++ (unless (u16_at t 0 == 1) 2 0 0
    ++ (extent t 0 2 2 1
    ++ (unless (u16_at t 2 == 0 || (u16_at t 2 == 2 || u16_at t 2 == 3)) 2 0 2
    ++ extent t 0 4 2 (cond (nat_le 2 (u16_at t 2)) 5 4))))

-- Then what the offsets lead to: glyph classes, mark classes, mark sets. An offset of 0 leads nowhere. Attachments and carets are not followed.
abbrev pub followed_faults : (table : List ℕ) → List Fault
followed_faults t =
    if_there (u16_at t 4) 0 (class_faults t) ++ (if_there (u16_at t 10) 0 (class_faults t) ++ if_there (mark_sets_offset t) 0 (mark_sets_faults t))

abbrev pub gdef_faults : (table : List ℕ) → List Fault
gdef_faults t = cond (length t == 0) [] (header_faults t ++ followed_faults t)

-- The class of a glyph; a class above 4 reads as 0.
abbrev pub glyph_class : (table : List ℕ) → (glyph : ℕ) → ℕ
glyph_class t g = cond (nat_le (class_behind t (u16_at t 4) 0 g) 4) (class_behind t (u16_at t 4) 0 g) 0

abbrev pub mark_class_of : (table : List ℕ) → (glyph : ℕ) → ℕ
mark_class_of t g = class_behind t (u16_at t 10) 0 g

-- Where set k of the mark sets at s starts, and whether it holds a glyph.
abbrev pub set_start : (table : List ℕ) → (s k : ℕ) → ℕ
set_start t s k = s + u32_at t (s + 4 + 4 * k)

abbrev pub set_holds : (table : List ℕ) → (s k glyph : ℕ) → Bool
set_holds t s k g = nat_lt k (u16_at t (s + 2)) && is_some (coverage_index t (set_start t s k) g)

abbrev pub in_set : (table : List ℕ) → (k glyph : ℕ) → Bool
in_set t k g = not (mark_sets_offset t == 0) && set_holds t (mark_sets_offset t) k g
