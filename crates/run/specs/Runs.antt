-- What changes make of the glyphs of a run.
use Rattle.std.specs.Prelude.{ℕ, suc, cond, List, [], ◌∷◌, ◌++◌, map, take, drop, nat_le, slice_index_or}
use Rattle.model.specs.declared.Glyph.{Glyph}
use Rattle.model.specs.Edits.{at_cluster}

-- What stands in memory behind the glyphs of a run that was closed.
abbrev pub blank : Glyph
blank = at_cluster 0 0

-- The glyph at i gives way to others, which have its cluster.
abbrev pub replaced : (i : ℕ) (new : List ℕ) → List Glyph → List Glyph
replaced i new gs = take i gs ++ (map (at_cluster (slice_index_or gs i blank).cluster) new ++ drop (suc i) gs)

-- As long as a glyph's cluster is at most hi, it becomes lo.
abbrev pub merged_while : (lo hi : ℕ) → List Glyph → List Glyph
merged_while lo hi [] = []
merged_while lo hi (g ∷ gs) = cond (nat_le g.cluster hi) (at_cluster lo g.glyph ∷ merged_while lo hi gs) (g ∷ gs)

-- The same from position i on.
abbrev pub merged_from : (i lo hi : ℕ) → List Glyph → List Glyph
merged_from i lo hi gs = take i gs ++ merged_while lo hi (drop i gs)
