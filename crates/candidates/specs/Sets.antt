-- The rules of a set, and what is known of those of a table without faults.
use Rattle.std.specs.Prelude.{◌≡◌, ℕ, ◌+◌, ◌-◌, ◌*◌, ◌<◌, ◌≤◌, Bool, List}
use Rattle.layout.specs.Bytes.{u16_at}
use Rattle.model.specs.Lookups.{Candidate}
use Rattle.gsub.specs.declared.arrays.Array.{Array}
use Rattle.gsub.specs.declared.arrays.Entries.TheVariants.{ButFirst}
use Rattle.gsub.specs.Rules.{rule_of}
use Rattle.gsub.specs.Candidates.{input_classes, ligature_at, lookahead_classes, rule_at}
use Rattle.candidates.specs.declared.asks.Asks.{Asks}
use Rattle.candidates.specs.declared.asks.Asks.TheVariants.{Class}
use Rattle.candidates.specs.declared.rules.Rules.{Rules}
use Rattle.candidates.specs.declared.rules.Rules.TheVariants.{Ligatures, Context}
use Rattle.candidates.specs.Asked.{Askable, test_of}

-- The candidate that a rule is.
abbrev pub rule_made : (part : List ℕ) → Rules → (start : ℕ) → Candidate
rule_made t Ligatures q = ligature_at t q
rule_made t (Context chain b i a) q = rule_at t chain (test_of t b) (test_of t i) (test_of t a) q

-- The rules of a set of classes.
abbrev pub class_kind : (part : List ℕ) → (chain : Bool) → Rules
class_kind t chain = Context chain (Class (u16_at t 4)) (Class (u16_at t (input_classes chain))) (Class (u16_at t (lookahead_classes chain)))

-- How many further input glyphs it has.
abbrev pub ligature_inputs : (part : List ℕ) → (start : ℕ) → ℕ
ligature_inputs t q = u16_at t (q + 2) - 1

abbrev pub rule_inputs : (part : List ℕ) → (chain : Bool) → (start : ℕ) → ℕ
rule_inputs t chain q = (rule_of chain t q ButFirst).input.count

abbrev pub inputs_made : (part : List ℕ) → Rules → (start : ℕ) → ℕ
inputs_made t Ligatures q = ligature_inputs t q
inputs_made t (Context chain b i a) q = rule_inputs t chain q

-- No rule of the set has more than 63.
abbrev pub FewInputs : (part : List ℕ) → (inputs : ℕ → ℕ) → (set : ℕ) → Type 0
FewInputs t inputs s = (k : ℕ) → k < u16_at t s → inputs (s + u16_at t (s + 2 + 2 * k)) ≤ 63

-- What rules ask can be asked, of any array.
abbrev pub Asking : (part : List ℕ) → Asks → Type 0
Asking t asks = (a : Array) → Askable t asks a

pub record RulesAsking (t : List ℕ) (b i a : Asks) : Type 0 where
  pub backtrack : Asking t b
  pub input : Asking t i
  pub lookahead : Asking t a

pub record SoundSet (t : List ℕ) (rules : Rules) (s : ℕ) : Type 0 where
  pub few : FewInputs t (inputs_made t rules) s
  pub asking : (chain : Bool) (b i a : Asks) → rules ≡ Context chain b i a → RulesAsking t b i a
