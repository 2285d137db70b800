-- The first run, a character at a time.
use Rattle.std.proofs.Common.{◌≡◌, ℕ, suc, ◌+◌, ◌<◌, List, [], ◌∷◌, ◌++◌, length, drop, get_or, sym, ap, ◌∙◌, append_assoc, arith}
use Rattle.std.proofs.lemmas.List.{drop_more}
use Rattle.font.specs.Font.{Font}
use Rattle.model.specs.declared.Glyph.{Glyph}
use Rattle.model.specs.Edits.{at_cluster}
use Rattle.model.specs.Shaping.{laid}

pub laid-more : (font : Font) (gs new : List Glyph) (n i g : ℕ) (text : List ℕ) → i < length text → g ≡ font.glyph (get_or text i 0) → new ≡ gs ++ at_cluster n g ∷ []
    → gs ++ laid font n (drop i text) ≡ laid font 0 text → new ++ laid font (n + 1) (drop (i + 1) text) ≡ laid font 0 text
laid-more font gs new n i g text h e p so_far =
    let one : n + 1 ≡ suc n = omega arith in
    ap (λ l. l ++ laid font (n + 1) (drop (i + 1) text)) p
    ∙ append_assoc gs (at_cluster n g ∷ []) (laid font (n + 1) (drop (i + 1) text))
    ∙ ap (λ k. gs ++ at_cluster n g ∷ laid font k (drop (i + 1) text)) one
    ∙ ap (λ k. gs ++ at_cluster n k ∷ laid font (suc n) (drop (i + 1) text)) e
    ∙ ap (λ l. gs ++ laid font n l) (sym (drop_more text i 0 h)) ∙ so_far
