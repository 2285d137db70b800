-- What is known of a subtable without faults, as far as its candidates rest on it: its coverage, and what entries ask, can be asked; no match has more than 64 input glyphs or puts more than 64.
use Rattle.std.specs.Prelude.{◌≡◌, ◌≢◌, ℕ, ◌+◌, ◌-◌, ◌*◌, ◌<◌, ◌≤◌, Bool, List, Some}
use Rattle.layout.specs.Bytes.{u16_at}
use Rattle.gsub.specs.declared.arrays.Entries.TheVariants.{All}
use Rattle.gsub.specs.declared.rules.RuleArrays.{RuleArrays}
use Rattle.gsub.specs.Rules.{array_at, past, rule_of}
use Rattle.gsub.specs.Subtables.{class_count}
use Rattle.gsub.specs.Candidates.{entry, index, input_classes, lookahead_classes}
use Rattle.gsub.specs.Forms.{Form, delta, single, multiple, alternate, ligature, glyph_rules, class_rules, coverage_rule, reverse}
use Rattle.candidates.specs.Asked.{AllCover, Classifies, Covers}
use Rattle.candidates.specs.Sets.{FewInputs, ligature_inputs, rule_inputs}

module _ (t : List ℕ) where
  -- The subtable's coverage.
  abbrev pub Covered : Type 0
  Covered = Covers t (u16_at t 2)

  -- Every set that the coverage leads to.
  abbrev pub EachSet : (Set : (start : ℕ) → Type 0) → Type 0
  EachSet Set = (g i : ℕ) → index t g ≡ Some i → Set (entry t i)

  -- One that may be missing.
  abbrev pub IfThere : (Set : (start : ℕ) → Type 0) → (start : ℕ) → Type 0
  IfThere Set s = s ≢ 0 → Set s

  -- The sets of classes.
  pub record Classed (chain : Bool) : Type 0 where
    pub backtrack : Classifies t (u16_at t 4)
    pub input : Classifies t (u16_at t (input_classes chain))
    pub lookahead : Classifies t (u16_at t (lookahead_classes chain))
    pub sets : (k : ℕ) → k < u16_at t (4 + 2 * class_count chain) → IfThere (FewInputs t (rule_inputs t chain)) (u16_at t (6 + 2 * class_count chain + 2 * k))

  -- The coverages of format 3: that of the glyph itself, and those of further input.
  pub record Context (r : RuleArrays) : Type 0 where
    pub few : r.input.count ≤ 64
    pub backtrack : AllCover t r.backtrack
    pub own : Covers t (u16_at t r.input.at)
    pub input : AllCover t (record { at = r.input.at + 2; count = r.input.count - 1 })
    pub lookahead : AllCover t r.lookahead

  abbrev pub Sound : Form → Type 0
  Sound delta = Covered
  Sound single = Covered
  Sound multiple = Covered × EachSet (λ s. u16_at t s ≤ 64)
  Sound alternate = Covered
  Sound ligature = Covered × EachSet (FewInputs t (ligature_inputs t))
  Sound (glyph_rules chain) = Covered × EachSet (IfThere (FewInputs t (rule_inputs t chain)))
  Sound (class_rules chain) = Covered × Classed chain
  Sound (coverage_rule chain) = Context (rule_of chain t 2 All)
  Sound reverse = Covered × AllCover t (array_at t 4 All) × AllCover t (array_at t (past (array_at t 4 All)) All)
