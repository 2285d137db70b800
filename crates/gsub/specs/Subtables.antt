-- The faults of a subtable, by its type and format: format, counts and extents, lookup numbers, then what its offsets lead to.
use Rattle.std.specs.Prelude.{ℕ, ◌+◌, ◌*◌, Bool, true, false, List, ◌++◌, Some, None, Option, nat_le}
use Rattle.layout.specs.Bytes.{u16_at}
use Rattle.layout.specs.Classes.{class_faults}
use Rattle.layout.specs.Coverages.{coverage_faults, coverage_ranges}
use Rattle.layout.specs.declared.fault.Fault.{Fault}
use Rattle.layout.specs.Faults.{unless, extent, counted_extent}
use Rattle.layout.specs.Ranges.{size}
use Rattle.gsub.specs.Forms.{Form, delta, single, multiple, alternate, ligature, glyph_rules, class_rules, coverage_rule, reverse, form_of}
use Rattle.gsub.specs.Follow.{Faults, behind, each_behind, list_faults}
use Rattle.gsub.specs.declared.arrays.Array.{Array}
use Rattle.gsub.specs.declared.rules.RuleArrays.{RuleArrays}
use Rattle.gsub.specs.declared.arrays.Entries.TheVariants.{All, ButFirst}
use Rattle.gsub.specs.Rules.{past, array_at, rule_of, counts_of, counted_array, records_of, rule_faults, context_coverages}

-- The coverage of the subtable at s, whose offset stands at byte s + 2.
abbrev pub coverage_of : (table : List ℕ) → (s : ℕ) → List Fault
coverage_of t s = behind false t s (s + 2) (coverage_faults t)

-- An array that is indexed by the coverage, and whose count stands at byte i, has at least as many entries as glyphs are covered.
abbrev pub enough : (table : List ℕ) → (s i : ℕ) → List Fault
enough t s i = unless (nat_le (size (coverage_ranges t (s + u16_at t (s + 2)))) (u16_at t i)) 4 s i

-- Coverage, count and an array that is indexed by the coverage.
abbrev pub indexed : (table : List ℕ) → (s : ℕ) → List Fault
indexed t s = extent t s (s + 2) 2 2 ++ (extent t s (s + 6) 2 (u16_at t (s + 4)) ++ (coverage_of t s ++ enough t s (s + 4)))

-- The same where the array has offsets.
abbrev pub sets_faults : (null : Bool) → (table : List ℕ) → (s : ℕ) → Faults → List Fault
sets_faults null t s faults = indexed t s ++ each_behind null t s (s + 6) (u16_at t (s + 4)) faults

-- Sets of type 2 (1 to 64 glyphs) and of type 3 (any number).
abbrev pub sequence_faults : (table : List ℕ) → (s : ℕ) → List Fault
sequence_faults t s = counted_array t s s 1 All

abbrev pub alternates_faults : (table : List ℕ) → (s : ℕ) → List Fault
alternates_faults t s = counted_extent t s s 2

-- A ligature: its glyph, how many components it has (1 to 64), and the components from the second on. A set of type 4 lists ligatures.
abbrev pub ligature_faults : (table : List ℕ) → (s : ℕ) → List Fault
ligature_faults t s = extent t s s 2 1 ++ counted_array t s (s + 2) 1 ButFirst

abbrev pub ligature_set_faults : (table : List ℕ) → (s : ℕ) → List Fault
ligature_set_faults t s = list_faults t s (ligature_faults t)

-- How many class definitions stand in a subtable of format 2: of the input alone, or of backtrack, input and lookahead.
abbrev pub class_count : (chain : Bool) → ℕ
class_count false = 1
class_count true = 3

-- A rule set lists rules.
abbrev pub rule_set_faults : (rule : Faults) → (table : List ℕ) → (s : ℕ) → List Fault
rule_set_faults rule t s = list_faults t s rule

module _ (t : List ℕ) (s : ℕ) where
  -- Types 5 and 6, format 2: coverage, n class definitions, and a rule set for each class of the input. A class definition or a set may be missing.
  abbrev pub class_sets : (n : ℕ) → (sets : Faults) → List Fault
  class_sets n sets =
      extent t s (s + 2) 2 (n + 2)
      ++ (extent t s (s + 6 + 2 * n) 2 (u16_at t (s + 4 + 2 * n))
      ++ (coverage_of t s ++ (each_behind true t s (s + 4) n (class_faults t) ++ each_behind true t s (s + 6 + 2 * n) (u16_at t (s + 4 + 2 * n)) sets)))

  -- Type 8: coverage; backtrack and lookahead coverages, 0 to 64 each; a glyph for each index. It is a rule whose input is the glyph alone, and without records.
  abbrev pub reverse_rule : RuleArrays
  reverse_rule =
      let backtrack : Array = array_at t (s + 4) All in
      let none : Array = record { at = s; count = 0 } in
      record { backtrack = backtrack; input = none; lookahead = array_at t (past backtrack) All; records = none }

  abbrev pub reverse_arrays : List Fault
  reverse_arrays =
      extent t s (s + 2) 2 1
      ++ (counted_array t s (s + 4) 0 All
      ++ (counted_array t s (past reverse_rule.backtrack) 0 All ++ counted_extent t s (past reverse_rule.lookahead) 2))

  abbrev pub reverse_faults : List Fault
  reverse_faults = reverse_arrays ++ (coverage_of t s ++ (enough t s (past reverse_rule.lookahead) ++ context_coverages t s reverse_rule))

module _ (t : List ℕ) (lookups s : ℕ) where
  -- Format 3: one rule whose entries are coverages.
  abbrev pub one_rule : (counts : List Fault) → RuleArrays → List Fault
  one_rule counts r = counts ++ (records_of t lookups s r ++ context_coverages t s r)

  -- The faults of a form behind the format. Type 1, format 1, has a coverage and a delta; format 2 a glyph for each index. Types 5 and 6, format 1, have a rule set for each index, and one may be missing.
  abbrev pub form_faults : Form → List Fault
  form_faults delta = extent t s (s + 2) 2 2 ++ coverage_of t s
  form_faults single = indexed t s
  form_faults multiple = sets_faults false t s (sequence_faults t)
  form_faults alternate = sets_faults false t s (alternates_faults t)
  form_faults ligature = sets_faults false t s (ligature_set_faults t)
  form_faults (glyph_rules chain) = sets_faults true t s (rule_set_faults (rule_faults chain t lookups) t)
  form_faults (class_rules chain) = class_sets t s (class_count chain) (rule_set_faults (rule_faults chain t lookups) t)
  form_faults (coverage_rule chain) = one_rule (counts_of chain t s (s + 2) All) (rule_of chain t (s + 2) All)
  form_faults reverse = reverse_faults t s

  abbrev pub by_form : Option Form → List Fault
  by_form None = unless false 2 s s
  by_form (Some form) = form_faults form

  -- The faults of a subtable of a type from 1 to 6, or 8: the format, then what its form asks.
  abbrev pub subtable_faults : (type : ℕ) → List Fault
  subtable_faults ty = extent t s s 2 1 ++ by_form (form_of ty (u16_at t s))
