-- Clusters merged and glyphs removed, where a ligature stands at its first component.
use Rattle.std.proofs.Common.{◌≡◌, ℕ, zero, suc, ◌+◌, ◌-◌, ◌<◌, ◌≤◌, Bool, true, false, cond, ◌&&◌, if◌then◌else◌, leb, nat_lt, nat_le, List, [], ◌∷◌, ◌++◌, map, length, get_or, take, drop, refl, sym, ap, ap₂, ◌∙◌, append_assoc, arith, length-append, length-take}
use Rattle.std.proofs.lemmas.Bool.{lt-ltb, le-leb}
use Rattle.std.proofs.lemmas.List.{drop_more, get_or_at, take-map, drop-map, map-append, take-append-drop}
use lib.Seq.{take_at, drop_at}
use Rattle.std.specs.List.{AllByRecursion}
use Rattle.model.specs.declared.Glyph.{Glyph}
use Rattle.model.specs.Lookups.{Met, far, join}
use Rattle.model.specs.Edits.{at_cluster, changed, merged, without}
use Rattle.model.specs.Laws.{Rising}
use Rattle.matching.specs.Seek.{glyph_at, mets_at}
use Rattle.run.specs.Runs.{merged_from, merged_while, replaced}
use Rattle.run.proofs.Merges.{merges-whole-run}
use Rattle.editing.specs.Joins.{joined, ligated}
use Rattle.editing.proofs.Tables.{length-put}

length-while : (lo hi : ℕ) (gs : List Glyph) → length (merged_while lo hi gs) ≡ length gs
length-while lo hi [] = refl
length-while lo hi (g ∷ gs) = by (leb g.cluster hi) (length-while lo hi gs)
  where
    by : (t : Bool) → length (merged_while lo hi gs) ≡ length gs → length (cond t (at_cluster lo g.glyph ∷ merged_while lo hi gs) (g ∷ gs)) ≡ suc (length gs)
    by true e = ap suc e
    by false e = refl

pub length-merged : (i lo hi : ℕ) (gs : List Glyph) → length (merged_from i lo hi gs) ≡ length gs
length-merged i lo hi gs =
    length-append (take i gs) (merged_while lo hi (drop i gs)) ∙ ap (λ n. length (take i gs) + n) (length-while lo hi (drop i gs))
    ∙ sym (length-append (take i gs) (drop i gs)) ∙ ap length (take-append-drop i gs)

all-get : (P : Glyph → Type 0) (gs : List Glyph) (k : ℕ) → AllByRecursion P gs → k < length gs → P (glyph_at gs k)
all-get P [] k h l = absurd (omega arith)
all-get P (g ∷ gs) zero h l = h.0
all-get P (g ∷ gs) (suc k) h l = all-get P gs k h.1 (omega arith)

-- no glyph before one has a higher cluster, and none from it on a lower one
low : (gs : List Glyph) (p : ℕ) → Rising gs → p < length gs → AllByRecursion (λ g. g.cluster ≤ (glyph_at gs p).cluster) (take p gs)
low [] p r l = absurd (omega arith)
low (g ∷ gs) zero r l = tt
low (g ∷ gs) (suc p) r l = (all-get (λ h. g.cluster ≤ h.cluster) gs p r.0 (omega arith), low gs p r.1 (omega arith))

high : (gs : List Glyph) (p : ℕ) → Rising gs → p < length gs → AllByRecursion (λ g. (glyph_at gs p).cluster ≤ g.cluster) (drop p gs)
high [] p r l = absurd (omega arith)
high (g ∷ gs) zero r l = (omega arith, r.0)
high (g ∷ gs) (suc p) r l = high gs p r.1 (omega arith)

pub merged-whole : (gs : List Glyph) (p hi : ℕ) → Rising gs → p < length gs → merged_from p (glyph_at gs p).cluster hi gs ≡ map (merged (glyph_at gs p).cluster hi) gs
merged-whole gs p hi r l = merges-whole-run p (glyph_at gs p).cluster hi gs r (low gs p r l) (high gs p r l)

without-map : (f : Glyph → Glyph) (ms : List Met) (gs : List Glyph) → without ms (map f gs) ≡ map f (without ms gs)
without-map f [] gs = refl
without-map f (m ∷ ms) gs =
    ap₂ (λ l r. l ++ without ms r) (take-map f m.gap gs) (drop-map f (suc m.gap) gs)
    ∙ ap (λ r. map f (take m.gap gs) ++ r) (without-map f ms (drop (suc m.gap) gs))
    ∙ sym (map-append f (take m.gap gs) (without ms (drop (suc m.gap) gs)))

same : (t : Bool) (n : ℕ) → cond t n n ≡ n
same true n = refl
same false n = refl

-- the first component keeps its cluster
own-kept : (gs : List Glyph) (p hi : ℕ) → p < length gs → (glyph_at (merged_from p (glyph_at gs p).cluster hi gs) p).cluster ≡ (glyph_at gs p).cluster
own-kept gs p hi l =
    let own : ℕ = (glyph_at gs p).cluster in
    let blank : Glyph = record { glyph = 0; cluster = 0 } in
    let rest : List Glyph = drop (p + 1) gs in
    let long : length (take p gs) ≡ p = simp length-take (omega (arith, l)) in
    let first : drop p gs ≡ glyph_at gs p ∷ rest = drop_more gs p blank l in
    ap (λ g. g.cluster) (ap (λ xs. glyph_at (take p gs ++ merged_while own hi xs) p) first ∙ by (glyph_at gs p) rest (leb own hi) long)
    ∙ same-cluster (leb own hi) (glyph_at gs p)
  where
    first-of : Bool → ℕ → Glyph → Glyph
    first-of t c g = cond t (at_cluster c g.glyph) g

    same-cluster : (t : Bool) (g : Glyph) → (first-of t g.cluster g).cluster ≡ g.cluster
    same-cluster true g = refl
    same-cluster false g = refl

    by : (g : Glyph) (rest : List Glyph) (t : Bool) → length (take p gs) ≡ p
        → glyph_at (take p gs ++ cond t (at_cluster (glyph_at gs p).cluster g.glyph ∷ merged_while (glyph_at gs p).cluster hi rest) (g ∷ rest)) p ≡ first-of t (glyph_at gs p).cluster g
    by g rest true long = get_or_at (take p gs) (at_cluster (glyph_at gs p).cluster g.glyph) (merged_while (glyph_at gs p).cluster hi rest) (record { glyph = 0; cluster = 0 }) p long
    by g rest false long = get_or_at (take p gs) g rest (record { glyph = 0; cluster = 0 }) p long

-- replaced and removed: the ligature stands
ligated-at : (gs : List Glyph) (p n c : ℕ) (ms : List Met) → p < length gs → (glyph_at gs p).cluster ≡ c
    → take (p + 1) (replaced p (n ∷ []) gs) ++ without ms (drop (p + 1) (replaced p (n ∷ []) gs)) ≡ ligated n c ms p gs
ligated-at gs p n c ms l e =
    let first : List Glyph = take p gs ++ at_cluster c n ∷ [] in
    let rest : List Glyph = drop (suc p) gs in
    let split : replaced p (n ∷ []) gs ≡ first ++ rest =
    ap (λ k. take p gs ++ (at_cluster k n ∷ rest)) e ∙ sym (append_assoc (take p gs) (at_cluster c n ∷ []) rest) in
    let long : length first ≡ p + 1 = simp (length-append, length-take) (omega (arith, l)) in
    ap₂ (λ a b. a ++ without ms b) (ap (take (p + 1)) split ∙ take_at first rest (p + 1) long) (ap (drop (p + 1)) split ∙ drop_at first rest (p + 1) long)
    ∙ append_assoc (take p gs) (at_cluster c n ∷ []) (without ms rest)

-- merged first: the glyphs are joined
pub joined-at : (gs gs' : List Glyph) (p n : ℕ) (ms : List Met) → p < length gs → gs' ≡ merged_from p (glyph_at gs p).cluster (far (glyph_at gs p).cluster ms) gs
    → take (p + 1) (replaced p (n ∷ []) gs') ++ without ms (drop (p + 1) (replaced p (n ∷ []) gs')) ≡ joined n ms p gs
joined-at gs gs' p n ms l e =
    let own : ℕ = (glyph_at gs p).cluster in
    let hi : ℕ = far own ms in
    let long : length gs' ≡ length gs = ap length e ∙ length-merged p own hi gs in
    let kept : (glyph_at gs' p).cluster ≡ own = ap (λ xs. (glyph_at xs p).cluster) e ∙ own-kept gs p hi l in
    ligated-at gs' p n own ms (omega (arith, long, l)) kept ∙ ap (ligated n own ms p) e

-- in a run whose clusters never fall that is the definitions' change
pub joined-changed : (gs : List Glyph) (p n : ℕ) (ms : List Met) → Rising gs → p < length gs → joined n ms p gs ≡ changed (join n) (glyph_at gs p).cluster ms p gs
joined-changed gs p n ms r l =
    let own : ℕ = (glyph_at gs p).cluster in
    let M : Glyph → Glyph = merged own (far own ms) in
    let lig : at_cluster own n ≡ M (at_cluster own n) = ap (λ k. at_cluster k n) (sym (same (leb own own && leb own (far own ms)) own)) in
    ap (ligated n own ms p) (merged-whole gs p (far own ms) r l)
    ∙ ap₂ (λ a b. a ++ b) (take-map M p gs) (ap₂ (λ g b. g ∷ b) lig (ap (without ms) (drop-map M (suc p) gs) ∙ without-map M ms (drop (suc p) gs)))
    ∙ sym (map-append M (take p gs) (at_cluster own n ∷ without ms (drop (suc p) gs)))

-- the last of the glyphs met is the farthest
pub far-last : (gs : List Glyph) (own i : ℕ) (qs : List ℕ) → 0 < length qs → far own (mets_at gs i qs) ≡ (glyph_at gs (get_or qs (length qs - 1) 0)).cluster
far-last gs own i [] l = absurd (omega arith)
far-last gs own i (q ∷ []) l = refl
far-last gs own i (q ∷ (r ∷ qs)) l =
    let one : length (q ∷ (r ∷ qs)) - 1 ≡ suc (length (r ∷ qs) - 1) = omega arith in
    far-last gs (glyph_at gs q).cluster (suc q) (r ∷ qs) (omega arith) ∙ ap (λ k. (glyph_at gs (get_or (q ∷ (r ∷ qs)) k 0)).cluster) (sym one)

-- a glyph gives way to another
pub one-replaced : (gs gs' : List Glyph) (p n room : ℕ) (done : Bool) → p < length gs → length gs ≤ room → done ≡ (nat_lt p (length gs) && nat_le (length gs + 1) (room + 1)) → gs' ≡ (if done then replaced p (n ∷ []) gs else gs)
    → (gs' ≡ replaced p (n ∷ []) gs) × (length gs' ≡ length gs)
one-replaced gs gs' p n room done l fits answer e =
    let yes : done ≡ true = answer ∙ ap₂ (λ s t. s && t) (lt-ltb p (length gs) l) (le-leb (length gs + 1) (room + 1) (omega arith)) in
    let is : gs' ≡ replaced p (n ∷ []) gs = e ∙ ap (λ b. if b then replaced p (n ∷ []) gs else gs) yes in
    let long = length-put (at_cluster (glyph_at gs p).cluster) gs (n ∷ []) p l in
    (is, omega (arith, long, ap length is))
