-- What a walk remembers: for each byte of the table, the kinds of structures that start there and were found without faults.
use Rattle.std.specs.Prelude.{◌≡◌, ℕ, ◌^◌, Bool, true, false, not, List, None, ◌==◌, bit_and, slice_index, refl}
use Rattle.layout.specs.Classes.{class_faults}
use Rattle.layout.specs.Coverages.{coverage_faults}
use Rattle.layout.specs.declared.fault.Fault.{Fault}
use Rattle.layout.specs.Faults.{first_in}
use Rattle.gsub.specs.declared.seen.Kind.{Kind}
use Rattle.gsub.specs.declared.seen.Kind.TheVariants.{Coverage, Classes, LigatureSet, RuleSet, ChainRuleSet, Single, Multiple, Alternate, Ligature, Context, Chain, Reverse, Lookup}
use Rattle.gsub.specs.Rules.{rule_faults}
use Rattle.gsub.specs.Subtables.{subtable_faults, ligature_set_faults, rule_set_faults}
use Rattle.gsub.specs.Tables.{bare_lookup_faults}

-- The faults of a structure of a kind that starts at s, of a subtable those of its type. They
-- depend on nothing else, so one walk is enough.
abbrev pub faults_of : Kind → (table : List ℕ) → (lookups s : ℕ) → List Fault
faults_of Coverage t n s = coverage_faults t s
faults_of Classes t n s = class_faults t s
faults_of LigatureSet t n s = ligature_set_faults t s
faults_of RuleSet t n s = rule_set_faults (rule_faults false t n) t s
faults_of ChainRuleSet t n s = rule_set_faults (rule_faults true t n) t s
faults_of Single t n s = subtable_faults t n s 1
faults_of Multiple t n s = subtable_faults t n s 2
faults_of Alternate t n s = subtable_faults t n s 3
faults_of Ligature t n s = subtable_faults t n s 4
faults_of Context t n s = subtable_faults t n s 5
faults_of Chain t n s = subtable_faults t n s 6
faults_of Reverse t n s = subtable_faults t n s 8
faults_of Lookup t n s = bare_lookup_faults t n s

-- A rule set's kind, by whether its rules chain.
abbrev pub rule_set_kind : (chain : Bool) → Kind
rule_set_kind false = RuleSet
rule_set_kind true = ChainRuleSet

pub rule-set-faults : (chain : Bool) (t : List ℕ) (n s : ℕ) → faults_of (rule_set_kind chain) t n s ≡ rule_set_faults (rule_faults chain t n) t s
rule-set-faults false t n s = refl
rule-set-faults true t n s = refl

-- The bit that stands for a kind.
abbrev pub index : Kind → ℕ
index Coverage = 0
index Classes = 1
index LigatureSet = 2
index RuleSet = 3
index ChainRuleSet = 4
index Single = 5
index Multiple = 6
index Alternate = 7
index Ligature = 8
index Context = 9
index Chain = 10
index Reverse = 11
index Lookup = 12

abbrev pub remembered : (seen : List ℕ) → Kind → (s : ℕ) → Bool
remembered seen kind s = not (bit_and (slice_index seen s) (2 ^ index kind) == 0)

-- Nothing is remembered.
abbrev pub NothingSeen : (seen : List ℕ) → Type 0
NothingSeen seen = (s : ℕ) → slice_index seen s ≡ 0

-- Nothing is remembered that has a fault.
unfoldable pub Sound : (table : List ℕ) → (lookups : ℕ) → (seen : List ℕ) → Type 0
Sound t n seen = (kind : Kind) (s : ℕ) → remembered seen kind s ≡ true → first_in (faults_of kind t n s) ≡ None
