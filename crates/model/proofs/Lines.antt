-- A line between two free places is its characters shaped alone.
use Rattle.std.proofs.Common.{◌≡◌, ℕ, ◌+◌, ◌-◌, ◌<◌, ◌≤◌, List, [], ◌∷◌, ◌++◌, map, length, take, drop, sym, ap, ◌∙◌, subst, zero-le, arith, length-drop}
use native.Mathlib.Nat.{sub-zero}
use Rattle.std.specs.List.{AllByRecursion}
use Rattle.std.proofs.lemmas.List.{drop_at, length-take-le, take_at}
use Rattle.std.proofs.ByRecursion.{All-append, All-weaker}
use Rattle.model.specs.declared.Glyph.{Glyph}
use Rattle.model.specs.Shaping.{Inputs, Shaped, Shapes, shaped}
use Rattle.model.specs.Laws.{Alone, LineAlone, pieces, raise, together}
use Rattle.model.proofs.Choose.{clusters-raise}
use Rattle.model.proofs.Chain.{clusters-any}
use Rattle.model.proofs.Cut.{raise-none}
use Rattle.model.proofs.Outcomes.{clusters-rise, limits-hold}
use Rattle.model.proofs.Pieces.{cut-in-pieces}

-- the text in three pieces, of which the line is the second
module _ (inputs : Inputs) (text : List ℕ) (w : Shaped) (a b : ℕ) (rise : a ≤ b) (within : b ≤ length text) where
  abbrev Line : Type 0
  Line =
      (before : List Glyph) × (line : Shaped) × (after : List Glyph) × Shapes inputs (take (b - a) (drop a text)) (shaped line)
      × (w.run ≡ before ++ (map (raise a) line.run ++ after)) × (line.marks ≡ take (b - a) (drop a w.marks))
      × AllByRecursion (λ g. g.cluster < a) before × AllByRecursion (λ g. a + g.cluster < b) line.run × AllByRecursion (λ g. b ≤ g.cluster) after

  three : (p q r : Shaped) → Shapes inputs (take a text) (shaped p) → Shapes inputs (take (b - a) (drop a text)) (shaped q) → w ≡ together (0 ∷ a ∷ b ∷ []) (p ∷ q ∷ r ∷ []) → Line
  three p q r hp hq e =
      let size : length (take a text) ≡ a = length-take-le a text (omega arith) in
      let long : length (take (b - a) (drop a text)) ≡ b - a = length-take-le (b - a) (drop a text) (simp length-drop (omega arith)) in
      let first : length p.marks ≡ a = (limits-hold inputs (take a text) p hp).2 ∙ size in
      let own : length q.marks ≡ b - a = (limits-hold inputs (take (b - a) (drop a text)) q hq).2 ∙ long in
      let tail : List ℕ = r.marks ++ [] in
      let line≡ : take (b - a) (drop a w.marks) ≡ q.marks =
      ap (λ v. take (b - a) (drop a v.marks)) e ∙ ap (take (b - a)) (drop_at p.marks (q.marks ++ tail) a first) ∙ take_at q.marks tail (b - a) own in
      let low = (clusters-rise inputs (take a text) p hp).1 in
      let mid = (clusters-rise inputs (take (b - a) (drop a text)) q hq).1 in (
        p.run,
        q,
        map (raise b) r.run ++ [],
        hq,
        ap (λ v. v.run) e ∙ ap (λ u. u ++ (map (raise a) q.run ++ (map (raise b) r.run ++ []))) (raise-none p.run),
        sym line≡,
        All-weaker _ _ (λ g u. omega arith) p.run low,
        All-weaker _ _ (λ g u. omega arith) q.run mid,
        All-append _ (map (raise b) r.run) [] (clusters-raise (λ c. Unit {0}) (λ c. b ≤ c) b (λ c u. omega arith) r.run (clusters-any r.run)) tt,
      )

  by_parts : (ps : List Shaped) → Alone inputs (pieces 0 (a ∷ b ∷ []) text) ps → w ≡ together (0 ∷ a ∷ b ∷ []) ps → Line
  by_parts [] h e = absurd h
  by_parts (p ∷ []) h e = absurd h.1
  by_parts (p ∷ q ∷ []) h e = absurd h.1.1
  by_parts (p ∷ q ∷ r ∷ s ∷ ps) h e = absurd h.1.1.1
  by_parts (p ∷ q ∷ r ∷ []) h e =
      three p q r (subst (λ n. Shapes inputs (take n text) (shaped p)) (sub-zero a) h.0) (subst (λ n. Shapes inputs (take (b - a) (drop n text)) (shaped q)) (sub-zero a) h.1.0) e

pub line-alone : LineAlone
line-alone inputs text w a b p rise within f g =
    let law = cut-in-pieces inputs text w (a ∷ b ∷ []) p (zero-le, omega arith, f, (rise, within, g, tt)) in
    by_parts inputs text w a b rise within law.0 law.1 law.2
