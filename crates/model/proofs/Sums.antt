-- Glyph count, hits and width of a text are the sums of its pieces'.
use Rattle.std.proofs.Common.{◌≡◌, ℕ, ◌+◌, ◌-◌, List, [], ◌∷◌, ◌++◌, map, length, drop, sum_by, sym, refl, ap, ◌∙◌, ap₂, add_assoc, zero-add}
use Rattle.std.proofs.lemmas.List.{length-append, length-map}
use Rattle.std.proofs.lemmas.List.Sums.{sum_by-cons}
use Rattle.model.specs.declared.Glyph.{Glyph}
use Rattle.model.specs.Shaping.{Inputs, Shaped, shaped}
use Rattle.model.specs.Laws.{Alone, SumsOfPieces, pieces, raise, run_width, together}
use Rattle.model.proofs.Outcomes.{at_most_one}
use Rattle.model.proofs.Pieces.{cut-in-pieces}

-- the pieces determine the parts
alone-once : (inputs : Inputs) (ts : List (List ℕ)) (ps qs : List Shaped) → Alone inputs ts ps → Alone inputs ts qs → ps ≡ qs
alone-once inputs [] [] [] h k = refl
alone-once inputs [] [] (q ∷ qs) h k = absurd k
alone-once inputs [] (p ∷ ps) qs h k = absurd h
alone-once inputs (t ∷ ts) [] qs h k = absurd h
alone-once inputs (t ∷ ts) (p ∷ ps) [] h k = absurd k
alone-once inputs (t ∷ ts) (p ∷ ps) (q ∷ qs) h k =
    let one : shaped p ≡ shaped q = at_most_one inputs t (shaped p) (shaped q) h.0 k.0 in
    let first : p ≡ q = cc in
    ap₂ {C = List Shaped} (λ x l. x ∷ l) first (alone-once inputs ts ps qs h.1 k.1)

width-append : (advance : ℕ → ℕ) (gs hs : List Glyph) → run_width advance (gs ++ hs) ≡ run_width advance gs + run_width advance hs
width-append advance [] hs = sym (zero-add (run_width advance hs))
width-append advance (g ∷ gs) hs = ap (λ n. advance g.glyph + n) (width-append advance gs hs) ∙ sym (add_assoc (advance g.glyph) (run_width advance gs) (run_width advance hs))

width-raise : (advance : ℕ → ℕ) (a : ℕ) (gs : List Glyph) → run_width advance (map (raise a) gs) ≡ run_width advance gs
width-raise advance a [] = refl
width-raise advance a (g ∷ gs) = ap (λ n. advance g.glyph + n) (width-raise advance a gs)

-- p as it stands at character a, with q behind it
abbrev followed : ℕ → Shaped → Shaped → Shaped
followed a p q = record { run = map (raise a) p.run ++ q.run; marks = p.marks ++ q.marks; hits = p.hits + q.hits }

-- a measure that adds up over parts in order
sum-parts : (m : Shaped → ℕ) → m (together [] []) ≡ 0 → ((a : ℕ) (p q : Shaped) → m (followed a p q) ≡ m p + m q) → (inputs : Inputs) (cs : List ℕ) (a : ℕ) (text : List ℕ) (ps : List Shaped) → Alone inputs (pieces a cs text) ps → m (together (a ∷ cs) ps) ≡ sum_by m ps
sum-parts m zeros adds inputs [] a text [] h = absurd h
sum-parts m zeros adds inputs [] a text (p ∷ q ∷ ps) h = absurd h.1
sum-parts m zeros adds inputs [] a text (p ∷ []) h = adds a p (together [] []) ∙ ap (λ v. m p + v) zeros ∙ sym (sum_by-cons m p [])
sum-parts m zeros adds inputs (c ∷ cs) a text [] h = absurd h
sum-parts m zeros adds inputs (c ∷ cs) a text (p ∷ ps) h =
    adds a p (together (c ∷ cs) ps) ∙ ap (λ v. m p + v) (sum-parts m zeros adds inputs cs c (drop (c - a) text) ps h.1) ∙ sym (sum_by-cons m p ps)

pub sums-of-pieces : SumsOfPieces
sums-of-pieces inputs text w cuts ps p h k =
    let law = cut-in-pieces inputs text w cuts p h in
    let same : law.0 ≡ ps = alone-once inputs (pieces 0 cuts text) law.0 ps law.1 k in
    let is : w ≡ together (0 ∷ cuts) ps = law.2 ∙ ap (together (0 ∷ cuts)) same in
    let sum : (m : Shaped → ℕ) → m (together [] []) ≡ 0 → ((a : ℕ) (p q : Shaped) → m (followed a p q) ≡ m p + m q) → m w ≡ sum_by m ps = λ m zeros adds. ap m is ∙ sum-parts m zeros adds inputs cuts 0 text ps k in (
      sum (λ p. length p.run) refl (λ a p q. simp (length-append, length-map)),
      sum (λ p. p.hits) refl (λ a p q. refl),
      λ advance. sum (λ p. run_width advance p.run) refl (λ a p q. width-append advance (map (raise a) p.run) q.run ∙ ap (λ v. v + run_width advance q.run) (width-raise advance a p.run)),
    )
