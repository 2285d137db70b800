-- What a font source means, and the width of a run of glyphs.
use Rattle.std.specs.Prelude.{ℕ, ◌+◌, Bool, cond, List, [], ◌∷◌, Some, None, Option, ◌==◌}
use Rattle.font.specs.declared.glyph_class.GlyphClass.{GlyphClass}
use Rattle.font.specs.declared.glyph_class.GlyphClass.TheVariants.{Base, Ligature, Mark, Component}

-- What shaping asks of a font: four functions, each with an answer for every number.
pub record Font : Type 0 where
  -- the glyph of a character; 0 where the font has none
  pub glyph : ℕ → ℕ
  -- the class of a glyph: 0 none, 1 base, 2 ligature, 3 mark, 4 component
  pub class : ℕ → ℕ
  -- the mark attachment class of a glyph
  pub mark_class : ℕ → ℕ
  -- whether mark set k holds the glyph g
  pub in_mark_set : (k g : ℕ) → Bool

-- A class as its number; 0 for none.
abbrev pub class_number : Option GlyphClass → ℕ
class_number None = 0
class_number (Some Base) = 1
class_number (Some Ligature) = 2
class_number (Some Mark) = 3
class_number (Some Component) = 4

-- The class that a number stands for; 0 and what is above 4 stand for none.
abbrev pub class_of : ℕ → Option GlyphClass
class_of n = cond (n == 1) (Some Base) (cond (n == 2) (Some Ligature) (cond (n == 3) (Some Mark) (cond (n == 4) (Some Component) None)))

-- The width of glyphs is the sum of their advances.
abbrev pub width : (advance : ℕ → ℕ) → List ℕ → ℕ
width advance [] = 0
width advance (g ∷ gs) = advance g + width advance gs
