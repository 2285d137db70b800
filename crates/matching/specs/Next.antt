-- What a lookup passes over, by its flag and its mark set alone, and the next glyph that it does not pass over.
use Rattle.std.specs.Prelude.{◌≡◌, ℕ, ◌+◌, Bool, false, cond, List, [], ◌∷◌, Some, None, Option}
use Rattle.font.specs.Font.{Font}
use Rattle.model.specs.declared.Glyph.{Glyph}
use Rattle.model.specs.Lookups.{Lookup, passes_over}
use Rattle.matching.specs.declared.passing.Next.{Next}

-- `passes_over` asks a lookup for these two and for nothing else.
abbrev pub skips : Font → (flag mark_set glyph : ℕ) → Bool
skips font flag set g = passes_over font (record { flag = flag; mark_set = set; backward = false; candidates = λ v h. [] }) g

-- So it is what any lookup with this flag and this mark set passes over.
abbrev pub SkipsAsLookups : Type 0
SkipsAsLookups = (font : Font) (k : Lookup) (g : ℕ) → skips font k.flag k.mark_set g ≡ passes_over font k g

-- So many glyphs more are passed over.
abbrev pub later_by : ℕ → Option Next → Option Next
later_by n None = None
later_by n (Some next) = Some (record { gap = n + next.gap; glyph = next.glyph })

-- The first glyph of a list that is not passed over.
abbrev pub next_in : (skips : ℕ → Bool) → List Glyph → Option Next
next_in skips [] = None
next_in skips (g ∷ gs) = cond (skips g.glyph) (later_by 1 (next_in skips gs)) (Some (record { gap = 0; glyph = g }))
