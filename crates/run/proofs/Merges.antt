-- Merging glyph by glyph from a position on, and in the whole run.
use Rattle.std.proofs.Common.{◌≡◌, ℕ, zero, suc, ◌<◌, ◌≤◌, Bool, true, false, cond, ◌&&◌, leb, List, [], ◌∷◌, ◌++◌, map, take, drop, refl, sym, ap, ap₂, ◌∙◌, arith}
use mathlib.Core.List.{map-append}
use Rattle.std.specs.List.{AllByRecursion}
use Rattle.std.proofs.ByRecursion.{All-weaker}
use Rattle.std.proofs.lemmas.Bool.{leb-false}
use Rattle.std.proofs.lemmas.List.{take-append-drop}
use Rattle.model.specs.declared.Glyph.{Glyph}
use Rattle.model.specs.Edits.{at_cluster, merged}
use Rattle.model.specs.Laws.{Rising}
use Rattle.run.specs.Runs.{merged_while}
use Rattle.run.specs.Laws.{MergesWholeRun}

rising-drop : (k : ℕ) (gs : List Glyph) → Rising gs → Rising (drop k gs)
rising-drop zero gs h = h
rising-drop (suc k) [] h = tt
rising-drop (suc k) (g ∷ gs) h = rising-drop k gs h.1

merged-same : (lo hi : ℕ) (gs : List Glyph) → AllByRecursion (λ g. merged lo hi g ≡ g) gs → map (merged lo hi) gs ≡ gs
merged-same lo hi [] h = refl
merged-same lo hi (g ∷ gs) h = ap₂ (λ x l. x ∷ l) h.0 (merged-same lo hi gs h.1)

merged-low : (lo hi : ℕ) (g : Glyph) → g.cluster ≤ lo → merged lo hi g ≡ g
merged-low lo hi g h = ap (λ c. at_cluster c g.glyph) (same lo hi g.cluster h)
  where
    same : (lo hi c : ℕ) → c ≤ lo → cond (leb lo c && leb c hi) lo c ≡ c
    same lo hi c h = grind arith

merged-high : (lo hi : ℕ) (g : Glyph) → hi < g.cluster → merged lo hi g ≡ g
merged-high lo hi g h = ap (λ c. at_cluster c g.glyph) (same lo hi g.cluster h)
  where
    same : (lo hi c : ℕ) → hi < c → cond (leb lo c && leb c hi) lo c ≡ c
    same lo hi c h = grind arith

merged-within : (lo hi : ℕ) (g : Glyph) → lo ≤ g.cluster → leb g.cluster hi ≡ true → merged lo hi g ≡ at_cluster lo g.glyph
merged-within lo hi g h k = ap (λ c. at_cluster c g.glyph) (same lo hi g.cluster h k)
  where
    same : (lo hi c : ℕ) → lo ≤ c → leb c hi ≡ true → cond (leb lo c && leb c hi) lo c ≡ lo
    same lo hi c h k = grind arith

-- the first glyph that is above hi ends it, since those behind it are no lower
while-all : (lo hi : ℕ) (gs : List Glyph) → Rising gs → AllByRecursion (λ g. lo ≤ g.cluster) gs → merged_while lo hi gs ≡ map (merged lo hi) gs
while-all lo hi [] r h = refl
while-all lo hi (g ∷ gs) r h = by (while-all lo hi gs r.1 h.1) (leb g.cluster hi) refl
  where
    by : merged_while lo hi gs ≡ map (merged lo hi) gs → (t : Bool) → leb g.cluster hi ≡ t → cond t (at_cluster lo g.glyph ∷ merged_while lo hi gs) (g ∷ gs) ≡ merged lo hi g ∷ map (merged lo hi) gs
    by rest true e = ap₂ (λ x l. x ∷ l) (sym (merged-within lo hi g h.0 e)) rest
    by rest false e =
        let above : hi < g.cluster = leb-false g.cluster hi e in
        ap₂ (λ x l. x ∷ l) (sym (merged-high lo hi g above))
        (sym (merged-same lo hi gs (All-weaker _ _ (λ x u. merged-high lo hi x (omega arith)) gs r.0)))

pub merges-whole-run : MergesWholeRun
merges-whole-run i lo hi gs r before h =
    ap₂ (λ k l. k ++ l) (sym (merged-same lo hi (take i gs) (All-weaker _ _ (merged-low lo hi) (take i gs) before))) (while-all lo hi (drop i gs) (rising-drop i gs r) h) ∙ sym (map-append (merged lo hi) (take i gs) (drop i gs)) ∙ ap (map (merged lo hi)) (take-append-drop i gs)
