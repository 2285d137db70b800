-- What a subtable without faults means, by its part of the table, from its first byte on: for a glyph, and an alternate value, an ordered list of candidates.
use Rattle.std.specs.Prelude.{ℕ, zero, suc, ◌+◌, ◌-◌, ◌*◌, ◌%◌, Bool, true, false, cond, ◌&&◌, List, [], ◌∷◌, map, is_some, Some, None, Option, ◌==◌, nat_le, nat_lt}
use Rattle.layout.specs.Bytes.{u16_at}
use Rattle.layout.specs.Classes.{class_behind}
use Rattle.layout.specs.Coverages.{coverage_index}
use Rattle.model.specs.Lookups.{LookupRecord, put, join, nest, Candidate}
use Rattle.gsub.specs.Forms.{Form, delta, single, multiple, alternate, ligature, glyph_rules, class_rules, coverage_rule, reverse, form_of}
use Rattle.gsub.specs.declared.arrays.Array.{Array}
use Rattle.gsub.specs.declared.rules.RuleArrays.{RuleArrays}
use Rattle.gsub.specs.declared.arrays.Entries.TheVariants.{All, ButFirst}
use Rattle.gsub.specs.Rules.{past, array_at, rule_of}
use Rattle.gsub.specs.Subtables.{class_count}

-- n fields from byte i on, and those of an array.
abbrev pub fields : (part : List ℕ) → (i n : ℕ) → List ℕ
fields t i zero = []
fields t i (suc n) = u16_at t i ∷ fields t (i + 2) n

abbrev pub entries_of : (part : List ℕ) → Array → List ℕ
entries_of t a = fields t a.at a.count

-- What an entry asks of a glyph: that it is the glyph of the entry, that it has the entry's class, or that the entry's coverage has it.
abbrev pub Test : Type 0
Test = (entry glyph : ℕ) → Bool

abbrev pub same_glyph : Test
same_glyph e g = g == e

abbrev pub same_class : (part : List ℕ) → (offset : ℕ) → Test
same_class t offset e g = class_behind t offset 0 g == e

abbrev pub covered : (part : List ℕ) → Test
covered t e g = is_some (coverage_index t e g)

-- The records of a rule.
abbrev pub records_from : (part : List ℕ) → (i n : ℕ) → List LookupRecord
records_from t i zero = []
records_from t i (suc n) = record { index = u16_at t i; lookup = u16_at t (i + 2) } ∷ records_from t (i + 4) n

-- The candidate that a rule is: a test for each of its three lists, and the input entries from the second on.
abbrev pub rule_candidate : (part : List ℕ) → (backtrack input lookahead : Test) → List ℕ → RuleArrays → Candidate
rule_candidate t b i a input r =
    record {
      pattern = record {
        backtrack = map b (entries_of t r.backtrack);
        input = map i input;
        lookahead = map a (entries_of t r.lookahead);
      };
      action = nest (records_from t r.records.at r.records.count);
    }

-- A candidate that puts glyphs and looks at nothing around it.
abbrev pub puts : List ℕ → Candidate
puts gs = record { pattern = record { backtrack = []; input = []; lookahead = [] }; action = put gs }

-- The rules of a rule set, each at an offset from the set; none where the set's own offset is 0.
abbrev pub rules_of : (make : (start : ℕ) → Candidate) → (set : ℕ) → List ℕ → List Candidate
rules_of make q [] = []
rules_of make q (o ∷ os) = make (q + o) ∷ rules_of make q os

abbrev pub set_rules : (part : List ℕ) → (make : (start : ℕ) → Candidate) → (set : ℕ) → List Candidate
set_rules t make q = rules_of make q (fields t (q + 2) (u16_at t q))

abbrev pub rule_set : (part : List ℕ) → (make : (start : ℕ) → Candidate) → (offset : ℕ) → List Candidate
rule_set t make offset = cond (offset == 0) [] (set_rules t make offset)

-- A ligature: its further components are the input.
abbrev pub ligature_at : (part : List ℕ) → (start : ℕ) → Candidate
ligature_at t l =
    record {
      pattern = record { backtrack = []; input = map same_glyph (fields t (l + 4) (u16_at t (l + 2) - 1)); lookahead = [] };
      action = join (u16_at t l);
    }

-- A rule of a set, of type 6 if it chains, else of type 5: it leaves its first input entry out.
abbrev pub rule_at : (part : List ℕ) → (chain : Bool) → (backtrack input lookahead : Test) → (start : ℕ) → Candidate
rule_at t chain b i a r = rule_candidate t b i a (entries_of t (rule_of chain t r ButFirst).input) (rule_of chain t r ButFirst)

-- Format 2: the bytes of the offsets of the class definitions of input and lookahead; that of the backtrack stands at byte 4. Type 5 has one for all.
abbrev pub input_classes : (chain : Bool) → ℕ
input_classes false = 4
input_classes true = 6

abbrev pub lookahead_classes : (chain : Bool) → ℕ
lookahead_classes false = 4
lookahead_classes true = 8

-- What follows from the index of the glyph in the coverage; nothing where it is not covered.
abbrev pub where_covered : Option ℕ → (ℕ → List Candidate) → List Candidate
where_covered None f = []
where_covered (Some i) f = f i

module _ (t : List ℕ) where
  -- Entry i of an array from byte 6 on: a glyph, or the start of a set.
  abbrev pub entry : ℕ → ℕ
  entry i = u16_at t (6 + 2 * i)

  -- The index of a glyph in the subtable's coverage.
  abbrev pub index : (glyph : ℕ) → Option ℕ
  index g = coverage_index t (u16_at t 2) g

  -- Type 2: the glyphs of the set at the index.
  abbrev pub multiple_of : (index : ℕ) → List Candidate
  multiple_of i = puts (fields t (entry i + 2) (u16_at t (entry i))) ∷ []

  -- Type 3: the chosen alternate, counted from 1; nothing where there are not so many.
  abbrev pub alternate_of : (value index : ℕ) → List Candidate
  alternate_of v i = cond (nat_le 1 v && nat_le v (u16_at t (entry i))) (puts (u16_at t (entry i + 2 * v) ∷ []) ∷ []) []

  -- Type 4: the ligatures of the set at the index.
  abbrev pub ligatures_of : (index : ℕ) → List Candidate
  ligatures_of i = set_rules t (ligature_at t) (entry i)

  -- Types 5 and 6, format 1: the rules of the set at the index, whose entries are glyphs.
  abbrev pub by_glyph : (chain : Bool) → (index : ℕ) → List Candidate
  by_glyph chain i = rule_set t (rule_at t chain same_glyph same_glyph same_glyph) (entry i)

  -- Format 2: the rules of the set of an input class, if there are so many sets; their entries are classes. The count of the sets stands behind the class definitions. And those for a glyph.
  abbrev pub class_rules_of : (chain : Bool) → (class : ℕ) → List Candidate
  class_rules_of chain k =
      let n : ℕ = class_count chain in
      cond (nat_lt k (u16_at t (4 + 2 * n)))
      (rule_set t (rule_at t chain (same_class t (u16_at t 4)) (same_class t (u16_at t (input_classes chain))) (same_class t (u16_at t (lookahead_classes chain)))) (u16_at t (6 + 2 * n + 2 * k)))
      []

  abbrev pub by_class : (chain : Bool) → (glyph : ℕ) → List Candidate
  by_class chain g = class_rules_of chain (class_behind t (u16_at t (input_classes chain)) 0 g)

  -- Format 3: one rule, whose entries are coverages; the glyph is in the first.
  abbrev pub by_coverage : RuleArrays → (glyph : ℕ) → List Candidate
  by_coverage r g = cond (covered t (u16_at t r.input.at) g) (rule_candidate t (covered t) (covered t) (covered t) (fields t (r.input.at + 2) (r.input.count - 1)) r ∷ []) []

  -- Type 8: the glyph at the index, where coverages stand around.
  abbrev pub reverse_of : (index : ℕ) → List Candidate
  reverse_of i =
      let back : Array = array_at t 4 All in
      let ahead : Array = array_at t (past back) All in
      record {
        pattern = record { backtrack = map (covered t) (entries_of t back); input = []; lookahead = map (covered t) (entries_of t ahead) };
        action = put (u16_at t (past ahead + 2 + 2 * i) ∷ []);
      } ∷ []

  -- The candidates of a form, for an alternate value and a glyph. Type 1 adds a delta modulo 65,536, or puts the entry at the index.
  abbrev pub form_candidates : Form → (value glyph : ℕ) → List Candidate
  form_candidates delta v g = where_covered (index g) (λ i. puts ((g + u16_at t 4) % 65536 ∷ []) ∷ [])
  form_candidates single v g = where_covered (index g) (λ i. puts (entry i ∷ []) ∷ [])
  form_candidates multiple v g = where_covered (index g) multiple_of
  form_candidates alternate v g = where_covered (index g) (alternate_of v)
  form_candidates ligature v g = where_covered (index g) ligatures_of
  form_candidates (glyph_rules chain) v g = where_covered (index g) (by_glyph chain)
  form_candidates (class_rules chain) v g = where_covered (index g) (λ i. by_class chain g)
  form_candidates (coverage_rule chain) v g = by_coverage (rule_of chain t 2 All) g
  form_candidates reverse v g = where_covered (index g) reverse_of

  abbrev pub by_form : Option Form → (value glyph : ℕ) → List Candidate
  by_form None v g = []
  by_form (Some form) v g = form_candidates form v g

  -- The candidates of a subtable of a type from 1 to 6, or 8.
  abbrev pub subtable_candidates : (type value glyph : ℕ) → List Candidate
  subtable_candidates ty v g = by_form (form_of ty (u16_at t 0)) v g
