-- A match in a run, and what becomes of the run where its glyphs are joined.
use Rattle.std.specs.Prelude.{ℕ, suc, ◌<◌, List, ◌∷◌, ◌++◌, length, take, drop}
use Rattle.model.specs.declared.Glyph.{Glyph}
use Rattle.model.specs.Lookups.{Met, far}
use Rattle.model.specs.Edits.{at_cluster, without}
use Rattle.matching.specs.Seek.{Outward, glyph_at, mets_at}
use Rattle.run.specs.Runs.{merged_from}

-- A glyph at p, and further ones with these indices, which rise, counted from the glyph behind p.
abbrev pub LiesIn : List Glyph → (p : ℕ) → (met : List ℕ) → Type 0
LiesIn gs p met = (p < length gs) × Outward 0 (length (drop (suc p) gs)) met

-- Those further glyphs.
abbrev pub further : List Glyph → (p : ℕ) → (met : List ℕ) → List Met
further gs p met = mets_at (drop (suc p) gs) 0 met

-- A ligature stands at p, and the glyphs met behind it go.
abbrev pub ligated : (ligature cluster : ℕ) → List Met → (p : ℕ) → List Glyph → List Glyph
ligated n c ms p gs = take p gs ++ (at_cluster c n ∷ without ms (drop (suc p) gs))

-- Before that, clusters become the first component's, from p on and as long as they are at most the last component's.
-- Where clusters never fall, these are all that lie from the one to the other.
abbrev pub joined : (ligature : ℕ) → List Met → (p : ℕ) → List Glyph → List Glyph
joined n ms p gs =
    let own = (glyph_at gs p).cluster in ligated n own ms p (merged_from p own (far own ms) gs)
