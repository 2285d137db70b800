-- What a source means under a layer of stand-in characters.
use Rattle.std.specs.Prelude.{ℕ, cond, List, Some, None, Option, ◌==◌, nat_eq}
use Rattle.font.specs.declared.pairs.Pair.{Pair}
use Rattle.font.specs.declared.pairs.PairTable.{PairTable}
use Rattle.font.specs.Font.{Font}
use Rattle.font.specs.Search.{first_that}

-- The pairs that a table holds, in the order in which they were added.
abbrev pub pairs_of : PairTable → List Pair
pairs_of table = table.pairs

-- The glyph of a pair's stand-in; 0 where there is no pair.
abbrev pub glyph_by : (ℕ → ℕ) → Option Pair → ℕ
glyph_by below None = 0
glyph_by below (Some pair) = below pair.stand_in

-- Where the font below has glyph 0, the glyph below of the stand-in in the first pair with the character.
abbrev pub stand_in_glyph : (below : ℕ → ℕ) → List Pair → ℕ → ℕ
stand_in_glyph below pairs c = cond (below c == 0) (glyph_by below (first_that (λ pair. nat_eq pair.character c) pairs)) (below c)

-- All other questions pass down.
abbrev pub stand_in_font : Font → List Pair → Font
stand_in_font below pairs = record {
  glyph = stand_in_glyph below.glyph pairs;
  class = below.class;
  mark_class = below.mark_class;
  in_mark_set = below.in_mark_set;
}
