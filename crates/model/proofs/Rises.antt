-- The clusters of a run never fall.
use Rattle.std.proofs.Common.{◌≡◌, ℕ, zero, suc, ◌<◌, ◌≤◌, Bool, true, false, cond, ◌&&◌, leb, ◌⊎◌, List, [], ◌∷◌, ◌++◌, map, take, drop, sym, refl, subst, inl, inr, arith}
use Rattle.std.specs.List.{AllByRecursion}
use Rattle.std.proofs.ByRecursion.{All-append, All-drop, All-map, All-take, All-weaker}
use Rattle.std.proofs.lemmas.Bool.{and_cases, and_parts, leb-false, leb-true}
use Rattle.model.specs.declared.Glyph.{Glyph}
use Rattle.font.specs.Font.{Font}
use Rattle.model.specs.Lookups.{Action, Met, far, join, nest, put}
use Rattle.model.specs.Edits.{at_cluster, changed, merged, without}
use Rattle.model.specs.Shaping.{Inputs, State, laid}
use Rattle.model.specs.Laws.{Rising}
use Rattle.model.proofs.Seek.{Clusters}
use Rattle.model.proofs.Chain.{Strike, next-drop}
use Rattle.model.proofs.Keeps.{at_in, strike-own, without_in}

-- P of what is left of a list
all-next : {A : Type 0} (P : A → Type 0) (k : ℕ) (xs : List A) → AllByRecursion P (drop k xs) → AllByRecursion P (drop (suc k) xs)
all-next P zero [] h = tt
all-next P zero (x ∷ xs) h = h.1
all-next P (suc k) [] h = tt
all-next P (suc k) (x ∷ xs) h = all-next P k xs h

rising-drop : (k : ℕ) (gs : List Glyph) → Rising gs → Rising (drop k gs)
rising-drop zero gs h = h
rising-drop (suc k) [] h = tt
rising-drop (suc k) (g ∷ gs) h = rising-drop k gs h.1

-- what follows the first k glyphs may be replaced by what has all that it had
rising_part : (k : ℕ) (gs hs : List Glyph) → Rising gs → Rising hs → ((Q : ℕ → Type 0) → Clusters Q (drop k gs) → Clusters Q hs) → Rising (take k gs ++ hs)
rising_part zero gs hs h r f = r
rising_part (suc k) [] hs h r f = r
rising_part (suc k) (g ∷ gs) hs h r f = (All-append _ (take k gs) hs (All-take _ k gs h.0) (f (λ c. g.cluster ≤ c) (All-drop _ k gs h.0)), rising_part k gs hs h.1 r f)

rising-without : (ms : List Met) (gs : List Glyph) → Rising gs → Rising (without ms gs)
rising-without [] gs h = h
rising-without (m ∷ ms) gs h =
    rising_part m.gap gs (without ms (drop (suc m.gap) gs)) h (rising-without ms (drop (suc m.gap) gs) (rising-drop (suc m.gap) gs h))
    (λ Q u. without_in _ ms (drop (suc m.gap) gs) (all-next _ m.gap gs u))

merged-rises : (lo hi c d : ℕ) → c ≤ d → cond (leb lo c && leb c hi) lo c ≤ cond (leb lo d && leb d hi) lo d
merged-rises lo hi c d h = by (leb lo c && leb c hi) (leb lo d && leb d hi) refl refl
  where
    by : (t u : Bool) → (leb lo c && leb c hi) ≡ t → (leb lo d && leb d hi) ≡ u → cond t lo c ≤ cond u lo d
    by true true e f = let r : lo ≤ lo = omega arith in r
    by true false e f = let low : lo ≤ c = leb-true lo c (and_parts (leb lo c) (leb c hi) e).0 in let r : lo ≤ d = omega arith in r
    by false true e f =
        let low : lo ≤ d = leb-true lo d (and_parts (leb lo d) (leb d hi) f).0 in
        let high : d ≤ hi = leb-true d hi (and_parts (leb lo d) (leb d hi) f).1 in
        out (and_cases (leb lo c) (leb c hi) e) high
      where
        out : (leb lo c ≡ false) ⊎ (leb c hi ≡ false) → d ≤ hi → c ≤ lo
        out (inl z) high = let under : c < lo = leb-false lo c z in omega arith
        out (inr z) high = let above : hi < c = leb-false c hi z in omega arith
    by false false e f = h

rising-merged : (lo hi : ℕ) (gs : List Glyph) → Rising gs → Rising (map (merged lo hi) gs)
rising-merged lo hi [] h = tt
rising-merged lo hi (g ∷ gs) h = (All-map _ (merged lo hi) gs (All-weaker _ _ (λ d. merged-rises lo hi g.cluster d.cluster) gs h.0), rising-merged lo hi gs h.1)

-- new glyphs with one cluster, before glyphs that have none below it
rising-put : (own : ℕ) (ns : List ℕ) (after : List Glyph) → Clusters (λ c. own ≤ c) after → Rising after → Rising (map (at_cluster own) ns ++ after)
rising-put own [] after l h = h
rising-put own (n ∷ ns) after l h =
    (All-append _ (map (at_cluster own) ns) after (at_in (λ c. own ≤ c) own ns (omega arith)) l, rising-put own ns after l h)

changed-rising : (x : Action) (own : ℕ) (ms : List Met) (p : ℕ) (gs : List Glyph) (g : Glyph) (after : List Glyph) → drop p gs ≡ g ∷ after → own ≡ g.cluster → Rising gs → Rising (changed x own ms p gs)
changed-rising (put ns) own ms p gs g after e o h =
    let rest : Rising (g ∷ after) = subst Rising e (rising-drop p gs h) in
    let low : Clusters (λ c. own ≤ c) after = subst (λ u. Clusters (λ c. u ≤ c) after) (sym o) rest.0 in
    rw (next-drop gs p g after e) (rising_part p gs (map (at_cluster own) ns ++ after) h (rising-put own ns after low rest.1)
    (λ Q u. let v = subst (Clusters Q) e u in All-append _ (map (at_cluster own) ns) after (at_in Q own ns (subst Q (sym o) v.0)) v.1))
changed-rising (join n) own ms p gs g after e o h =
    let rest : Rising (g ∷ after) = subst Rising e (rising-drop p gs h) in
    let low : Clusters (λ c. own ≤ c) after = subst (λ u. Clusters (λ c. u ≤ c) after) (sym o) rest.0 in
    rw (next-drop gs p g after e)
    (rising-merged own (far own ms) (take p gs ++ (at_cluster own n ∷ without ms after))
    (rising_part p gs (at_cluster own n ∷ without ms after) h (without_in _ ms after low, rising-without ms after rest.1)
    (λ Q u. let v = subst (Clusters Q) e u in (subst Q (sym o) v.0, without_in _ ms after v.1))))
changed-rising (nest rs) own ms p gs g after e o h = h

pub strike-rising : (inputs : Inputs) (p : ℕ) (s s' : State) → Strike inputs p s s' → Rising s.run → Rising s'.run
strike-rising inputs p s s' k h =
    subst (λ u. Rising u.run) (sym k.is) (changed-rising k.match.action k.match.own k.match.others p s.run k.first k.after k.rest (strike-own inputs p s s' k) h)

laid-low : (font : Font) (k n : ℕ) (t : List ℕ) → k ≤ n → Clusters (λ c. k ≤ c) (laid font n t)
laid-low font k n [] h = tt
laid-low font k n (c ∷ t) h = (h, laid-low font k (suc n) t (omega arith))

pub laid-rising : (font : Font) (n : ℕ) (t : List ℕ) → Rising (laid font n t)
laid-rising font n [] = tt
laid-rising font n (c ∷ t) = (laid-low font n (suc n) t (omega arith), laid-rising font (suc n) t)
