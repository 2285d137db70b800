-- A run that stands inside another: what lies before and behind a position, and what a change makes of it.
use Rattle.std.proofs.Common.{◌≡◌, ℕ, suc, ◌+◌, ◌<◌, ◌≤◌, Bool, true, false, cond, ◌&&◌, leb, List, [], ◌∷◌, ◌++◌, map, reverse, length, take, drop, refl, ap, ◌∙◌, ap₂, append_assoc, add-suc, arith}
use mathlib.Core.List.{map-append, map-map, reverse_aux}
use lib.Seq.{drop-append-add, drop-append-le, take-append-add, take-append-le}
use Rattle.std.specs.List.{AllByRecursion}
use Rattle.std.proofs.lemmas.List.{drop-map, length-map, reverse-append, take-map}
use Rattle.std.proofs.ByRecursion.{All-weaker}
use Rattle.model.specs.declared.Glyph.{Glyph}
use Rattle.model.specs.Lookups.{Action, Met, far, join, nest, put}
use Rattle.model.specs.Edits.{at_cluster, changed, merged, without}
use Rattle.model.specs.Laws.{raise}
use Rattle.model.proofs.Seek.{Clusters, Good, good-far, raise_met}
use Rattle.model.proofs.Choose.{Above, Below, far-raise}
use Rattle.model.proofs.Shift.{leb-shift}

pub map-reverse : {A B : Type 0} (f : A → B) (xs : List A) → reverse (map f xs) ≡ map f (reverse xs)
map-reverse f xs = go xs []
  where
    go : (xs ys : List _) → reverse_aux (map f xs) (map f ys) ≡ map f (reverse_aux xs ys)
    go [] ys = refl
    go (x ∷ xs) ys = go xs (x ∷ ys)

pub all-reverse : {A : Type 0} (P : A → Type 0) (xs : List A) → AllByRecursion P xs → AllByRecursion P (reverse xs)
all-reverse P xs h = go xs [] h tt
  where
    go : (xs ys : List _) → AllByRecursion P xs → AllByRecursion P ys → AllByRecursion P (reverse_aux xs ys)
    go [] ys h k = k
    go (x ∷ xs) ys h k = go xs (x ∷ ys) h.1 (h.0, k)

merged-out : (lo hi : ℕ) (xs : List Glyph) → Clusters (λ p. leb lo p && leb p hi ≡ false) xs → map (merged lo hi) xs ≡ xs
merged-out lo hi [] h = refl
merged-out lo hi (x ∷ xs) h = rw (h.0, merged-out lo hi xs h.1)

merged-raise : (a lo hi : ℕ) (g : Glyph) → merged (a + lo) (a + hi) (raise a g) ≡ raise a (merged lo hi g)
merged-raise a lo hi g = ap (at_cluster' g.glyph) (rw (leb-shift a lo g.cluster, leb-shift a g.cluster hi) (by (leb lo g.cluster && leb g.cluster hi)))
  where
    at_cluster' : ℕ → ℕ → Glyph
    at_cluster' n p = record { glyph = n; cluster = p }

    by : (t : Bool) → cond t (a + lo) (a + g.cluster) ≡ a + cond t lo g.cluster
    by true = refl
    by false = refl

merged-map : (a lo hi : ℕ) (gs : List Glyph) → map (merged (a + lo) (a + hi)) (map (raise a) gs) ≡ map (raise a) (map (merged lo hi) gs)
merged-map a lo hi [] = refl
merged-map a lo hi (g ∷ gs) = ap₂ (λ x l. x ∷ l) (merged-raise a lo hi g) (merged-map a lo hi gs)

early : (a own hi p : ℕ) → p < a → leb (a + own) p && leb p hi ≡ false
early a own hi p h = grind arith

late : (lo a f n p : ℕ) → f < n → a + n ≤ p → leb lo p && leb p (a + f) ≡ false
late lo a f n p k h = grind arith

module _ (a : ℕ) (xs ys : List Glyph) where
  abbrev pub whole : List Glyph → List Glyph
  whole ms = xs ++ (map (raise a) ms ++ ys)

  pub take_whole : (i : ℕ) (ms : List Glyph) → i ≤ length ms → take (length xs + i) (whole ms) ≡ xs ++ map (raise a) (take i ms)
  take_whole i ms h =
      let long : i ≤ length (map (raise a) ms) = simp length-map h in
      take-append-add xs (map (raise a) ms ++ ys) i ∙ ap (λ l. xs ++ l) (take-append-le i (map (raise a) ms) ys long ∙ take-map (raise a) i ms)

  pub drop-whole : (i : ℕ) (ms : List Glyph) → i ≤ length ms → drop (length xs + i) (whole ms) ≡ map (raise a) (drop i ms) ++ ys
  drop-whole i ms h =
      let long : i ≤ length (map (raise a) ms) = simp length-map h in
      drop-append-add xs (map (raise a) ms ++ ys) i ∙ drop-append-le i (map (raise a) ms) ys long ∙ ap (λ l. l ++ ys) (drop-map (raise a) i ms)

  pub before-whole : (i : ℕ) (ms : List Glyph) → i ≤ length ms → reverse (take (length xs + i) (whole ms)) ≡ map (raise a) (reverse (take i ms)) ++ reverse xs
  before-whole i ms h = ap reverse (take_whole i ms h) ∙ reverse-append xs (map (raise a) (take i ms)) ∙ ap (λ l. l ++ reverse xs) (map-reverse (raise a) (take i ms))

  without-whole : (Q : ℕ → Type 0) (ms : List Met) (gs : List Glyph) → Good Q ms gs → without (map (raise_met a) ms) (map (raise a) gs ++ ys) ≡ map (raise a) (without ms gs) ++ ys
  without-whole Q [] gs h = refl
  without-whole Q (m ∷ ms) gs h =
      let short : m.gap ≤ length (map (raise a) gs) = simp length-map (omega arith) in
      let long : suc m.gap ≤ length (map (raise a) gs) = simp length-map h.0 in
      rw (take-append-le, drop-append-le, take-map, drop-map, without-whole Q ms (drop (suc m.gap) gs) h.2, map-append, append_assoc)

  merged-whole : (lo hi : ℕ) (ts us : List Glyph) → map (merged (a + lo) (a + hi)) xs ≡ xs → map (merged (a + lo) (a + hi)) ys ≡ ys → map (merged (a + lo) (a + hi)) (xs ++ map (raise a) ts ++ (map (raise a) us ++ ys)) ≡ whole (map (merged lo hi) (ts ++ us))
  merged-whole lo hi ts us h k = simp (map-append, append_assoc, merged-map, h, k)

  module _ (n cut : ℕ) (below : Clusters (Below a cut) xs) (above : Clusters (Above (a + n) cut) ys) where
    pub changed-whole : (x : Action) (own : ℕ) (ms : List Met) (i : ℕ) (gs : List Glyph) → i < length gs → own < n → Good (λ p. p < n) ms (drop (suc i) gs) → changed x (a + own) (map (raise_met a) ms) (length xs + i) (whole gs) ≡ whole (changed x own ms i gs)
    changed-whole (put ns) own ms i gs h k g =
        rw (take_whole i gs (omega arith), ← (add-suc (length xs) i), drop-whole (suc i) gs h) (simp (append_assoc, map-append, map-map))
    changed-whole (join c) own ms i gs h k g =
        let f : far own ms < n = good-far (λ p. p < n) own ms (drop (suc i) gs) k g in
        rw (far-raise, take_whole i gs (omega arith), ← (add-suc (length xs) i), drop-whole (suc i) gs h, without-whole (λ p. p < n) ms (drop (suc i) gs) g)
        (merged-whole own (far own ms) (take i gs) (at_cluster own c ∷ without ms (drop (suc i) gs))
        (merged-out _ _ xs (All-weaker _ _ (λ x u. early a own (a + far own ms) x.cluster u.0) xs below))
        (merged-out _ _ ys (All-weaker _ _ (λ x u. late (a + own) a (far own ms) n x.cluster f u.0) ys above)))
    changed-whole (nest rs) own ms i gs h k g = refl
