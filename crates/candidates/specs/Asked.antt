-- What the entries of an array ask, and when it can be asked: what they lead to has no faults.
use Rattle.std.specs.Prelude.{◌≡◌, ◌≢◌, ℕ, ◌+◌, ◌*◌, ◌^◌, ◌<◌, Bool, List, map, None}
use Rattle.layout.specs.Bytes.{u16_at}
use Rattle.layout.specs.Classes.{class_faults}
use Rattle.layout.specs.Coverages.{coverage_faults}
use Rattle.layout.specs.Faults.{first_in}
use Rattle.gsub.specs.declared.arrays.Array.{Array}
use Rattle.gsub.specs.declared.rules.RuleArrays.{RuleArrays}
use Rattle.gsub.specs.Rules.{past}
use Rattle.gsub.specs.Candidates.{Test, covered, entries_of, same_class, same_glyph}
use Rattle.candidates.specs.declared.asks.Asks.{Asks}
use Rattle.candidates.specs.declared.asks.Asks.TheVariants.{Glyph, Class, Coverage}

abbrev pub test_of : (part : List ℕ) → Asks → Test
test_of t Glyph = same_glyph
test_of t (Class offset) = same_class t offset
test_of t Coverage = covered t

abbrev pub tests_of : (part : List ℕ) → Asks → Array → List (ℕ → Bool)
tests_of t asks a = map (test_of t asks) (entries_of t a)

-- The coverage, and the class definition at an offset, which may be 0.
abbrev pub Covers : (part : List ℕ) → (offset : ℕ) → Type 0
Covers t o = first_in (coverage_faults t o) ≡ None

abbrev pub Classifies : (part : List ℕ) → (offset : ℕ) → Type 0
Classifies t o = o ≢ 0 → first_in (class_faults t o) ≡ None

-- The coverages that an array leads to.
abbrev pub AllCover : (part : List ℕ) → Array → Type 0
AllCover t a = (k : ℕ) → k < a.count → Covers t (u16_at t (a.at + 2 * k))

pub record Askable (t : List ℕ) (asks : Asks) (a : Array) : Type 0 where
  pub classes : (offset : ℕ) → asks ≡ Class offset → Classifies t offset
  pub coverages : asks ≡ Coverage → AllCover t a

-- No array of a rule reaches far, so that positions behind it fit.
pub record Near (r : RuleArrays) : Type 0 where
  pub backtrack : past r.backtrack < 2 ^ 40
  pub input : past r.input < 2 ^ 40
  pub lookahead : past r.lookahead < 2 ^ 40
  pub records : r.records.at + 4 * r.records.count < 2 ^ 40
