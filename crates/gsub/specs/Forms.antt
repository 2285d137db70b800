-- The forms of subtables: one for each pair of a type and a format. Type 7 has none: it only moves a
-- subtable of another type.
use Rattle.std.specs.Prelude.{◌≡◌, ℕ, Bool, true, false, cond, ◌&&◌, List, Some, None, Option, ◌==◌}
use Rattle.gsub.specs.declared.subtable.Decided.{Decided}
use Rattle.gsub.specs.declared.subtable.Decided.TheVariants.{Own, Extension}
use Rattle.gsub.specs.declared.subtable.Subtable.{Subtable}
use Rattle.gsub.specs.declared.subtable.Subtable.TheVariants.{Delta, Single, Multiple, Alternate, Ligature, GlyphRules, ClassRules, CoverageRule, Reverse}

-- `chain` holds of type 6, whose rules have backtracks and lookaheads.
pub data Form : Type 0 where
  delta : Form
  single : Form
  multiple : Form
  alternate : Form
  ligature : Form
  glyph_rules : (chain : Bool) → Form
  class_rules : (chain : Bool) → Form
  coverage_rule : (chain : Bool) → Form
  reverse : Form

-- The form by type and format; none where there is no such format.
abbrev pub form_of : (type format : ℕ) → Option Form
form_of ty f =
    cond (ty == 1 && f == 1) (Some delta)
    (cond (ty == 1 && f == 2) (Some single)
    (cond (ty == 2 && f == 1) (Some multiple)
    (cond (ty == 3 && f == 1) (Some alternate)
    (cond (ty == 4 && f == 1) (Some ligature)
    (cond (ty == 5 && f == 1) (Some (glyph_rules false))
    (cond (ty == 5 && f == 2) (Some (class_rules false))
    (cond (ty == 5 && f == 3) (Some (coverage_rule false))
    (cond (ty == 6 && f == 1) (Some (glyph_rules true))
    (cond (ty == 6 && f == 2) (Some (class_rules true))
    (cond (ty == 6 && f == 3) (Some (coverage_rule true))
    (cond (ty == 8 && f == 1) (Some reverse) None)))))))))))

-- The type whose subtables have a form.
abbrev pub type_of : Form → ℕ
type_of delta = 1
type_of single = 1
type_of multiple = 2
type_of alternate = 3
type_of ligature = 4
type_of (glyph_rules chain) = cond chain 6 5
type_of (class_rules chain) = cond chain 6 5
type_of (coverage_rule chain) = cond chain 6 5
type_of reverse = 8

-- The form of a subtable in the code.
abbrev pub form_is : Subtable → Form
form_is (Delta part) = delta
form_is (Single part) = single
form_is (Multiple part) = multiple
form_is (Alternate part) = alternate
form_is (Ligature part) = ligature
form_is (GlyphRules chain part) = glyph_rules chain
form_is (ClassRules chain part) = class_rules chain
form_is (CoverageRule chain part) = coverage_rule chain
form_is (Reverse part) = reverse

-- The form, and whether it is an extension, by what was decided; an extension has no form.
abbrev pub own_form : Option Subtable → Option Form
own_form None = None
own_form (Some s) = Some (form_is s)

abbrev pub formed : Option Decided → Option Form
formed None = None
formed (Some Extension) = None
formed (Some (Own s)) = Some (form_is s)

abbrev pub moves : Option Decided → Bool
moves None = false
moves (Some Extension) = true
moves (Some (Own s)) = false

-- Its part of the table.
abbrev pub part_is : Subtable → List ℕ
part_is (Delta part) = part.now
part_is (Single part) = part.now
part_is (Multiple part) = part.now
part_is (Alternate part) = part.now
part_is (Ligature part) = part.now
part_is (GlyphRules chain part) = part.now
part_is (ClassRules chain part) = part.now
part_is (CoverageRule chain part) = part.now
part_is (Reverse part) = part.now

abbrev pub HasPart : List ℕ → Option Decided → Type 0
HasPart t None = Unit {0}
HasPart t (Some Extension) = Unit {0}
HasPart t (Some (Own s)) = part_is s ≡ t
