-- Break marks, one glyph more at a time.
use Rattle.std.proofs.Common.{◌≡◌, ℕ, zero, suc, ◌+◌, ◌<◌, ◌≤◌, Bool, true, false, cond, not, ◌||◌, eqb, List, [], ◌∷◌, ◌++◌, map, length, get_or, set, take, Some, refl, sym, ap, ap₂, ◌∙◌, add-zero, zero-add, arith}
use Rattle.std.proofs.lemmas.Bool.{eq-eqb, ne_eqb}
use Rattle.std.specs.List.{slice_get}
use Rattle.std.proofs.lemmas.List.{take_all, take_more}
use Rattle.std.proofs.lemmas.Option.{slice_get_within, get_or_from_slice_get}
use Rattle.model.specs.declared.Glyph.{Glyph}
use Rattle.model.specs.Shaping.{State, has, marks}
use Rattle.ties.specs.Ties.{noted, tied_in}

abbrev state : List Glyph → (ℕ → Bool) → ℕ → State
state gs tied h = record { run = gs; tied = tied; hits = h }

has-last : (c : ℕ) (gs : List Glyph) (g : Glyph) → has c (gs ++ g ∷ []) ≡ (has c gs || eqb g.cluster c)
has-last c [] g = by (eqb g.cluster c)
  where
    by : (t : Bool) → (t || false) ≡ t
    by true = refl
    by false = refl
has-last c (x ∷ gs) g = by (eqb x.cluster c) (has-last c gs g)
  where
    by : (t : Bool) → has c (gs ++ g ∷ []) ≡ (has c gs || eqb g.cluster c) → (t || has c (gs ++ g ∷ [])) ≡ ((t || has c gs) || eqb g.cluster c)
    by true e = refl
    by false e = e

or-true : (t : Bool) → (t || true) ≡ true
or-true true = refl
or-true false = refl

or-none : (t : Bool) → (t || false) ≡ t
or-none true = refl
or-none false = refl

module _ (gs : List Glyph) (g : Glyph) (tied : ℕ → Bool) (h : ℕ) where
  apart : (c : ℕ) → (g.cluster ≡ c → ⊥) → has c (gs ++ g ∷ []) ≡ has c gs
  apart c n = has-last c gs g ∙ ap (λ t. has c gs || t) (ne_eqb g.cluster c n) ∙ or-none (has c gs)

  here : (c : ℕ) → g.cluster ≡ c → has c (gs ++ g ∷ []) ≡ true
  here c e = has-last c gs g ∙ ap (λ k. has c gs || eqb k c) e ∙ ap (λ t. has c gs || t) (eq-eqb c c refl) ∙ or-true (has c gs)

  -- clusters behind the glyph's are marked as before
  marks-behind : (c n : ℕ) → g.cluster < c → marks (state (gs ++ g ∷ []) tied h) c n ≡ marks (state gs tied h) c n
  marks-behind c zero l = refl
  marks-behind c (suc n) l =
      ap₂ {C = List ℕ} (λ t ms. cond (tied c) (cond t 1 2) 0 ∷ ms) (apart c (λ e. omega arith)) (marks-behind (suc c) n (omega arith))

  noted-first : (t u : Bool) (ms : List ℕ) → noted 0 (cond t (cond u 1 2) 0 ∷ ms) ≡ cond t 1 0 ∷ ms
  noted-first true true ms = refl
  noted-first true false ms = refl
  noted-first false u ms = refl

  noted-rest : (m k : ℕ) (ms : List ℕ) → noted (suc k) (m ∷ ms) ≡ m ∷ noted k ms
  noted-rest m k ms = by (eqb (get_or ms k 0) 0)
    where
      by : (t : Bool) → cond t (m ∷ ms) (m ∷ set ms k 1) ≡ m ∷ cond t ms (set ms k 1)
      by true = refl
      by false = refl

  pub marks-noted : (c n k : ℕ) → g.cluster ≡ c + k → noted k (marks (state gs tied h) c n) ≡ marks (state (gs ++ g ∷ []) tied h) c n
  marks-noted c zero k e = refl
  marks-noted c (suc n) zero e =
      noted-first (tied c) (has c gs) (marks (state gs tied h) (suc c) n)
      ∙ ap₂ {C = List ℕ} (λ t ms. cond (tied c) (cond t 1 2) 0 ∷ ms) (sym (here c (omega (arith, e)))) (sym (marks-behind (suc c) n (omega (arith, e))))
  marks-noted c (suc n) (suc k) e =
      noted-rest (cond (tied c) (cond (has c gs) 1 2) 0) k (marks (state gs tied h) (suc c) n)
      ∙ ap₂ {C = List ℕ} (λ t ms. cond (tied c) (cond t 1 2) 0 ∷ ms) (sym (apart c (λ i. omega (arith, e, i)))) (marks-noted (suc c) n k (omega (arith, e)))

-- with no glyph, what is tied is marked 2
untouched : (tied : ℕ → Bool) (h c : ℕ) (ms : List ℕ) → ((k : ℕ) → tied (c + k) ≡ not (eqb (get_or ms k 0) 0)) → marks (state [] tied h) c (length ms) ≡ map (λ m. cond (eqb m 0) 0 2) ms
untouched tied h c [] e = refl
untouched tied h c (m ∷ ms) e =
    let first : tied c ≡ not (eqb m 0) = ap tied (sym (add-zero c)) ∙ e 0 in
    ap₂ {C = List ℕ} (λ t l. cond t 2 0 ∷ l) first (untouched tied h (suc c) ms (λ k. let on : suc c + k ≡ c + suc k = omega arith in ap tied on ∙ e (suc k)))
    ∙ ap (λ x. x ∷ map (λ m. cond (eqb m 0) 0 2) ms) (by (eqb m 0))
  where
    by : (t : Bool) → ◌≡◌ {A = ℕ} (cond (not t) 2 0) (cond t 0 2)
    by true = refl
    by false = refl

pub marks-tied : (ms : List ℕ) (h : ℕ) → map (λ m. cond (eqb m 0) 0 2) ms ≡ marks (state [] (tied_in ms) h) 0 (length ms)
marks-tied ms h = sym (untouched (tied_in ms) h 0 ms (λ k. ap (tied_in ms) (zero-add k)))

module _ (gs : List Glyph) (tied : ℕ → Bool) (h n i : ℕ) (ms : List ℕ) (so_far : ms ≡ marks (state (take i gs) tied h) 0 n) where
  pub noted-more : (g : Glyph) → slice_get gs i ≡ Some g → noted g.cluster ms ≡ marks (state (take (i + 1) gs) tied h) 0 n
  noted-more g e =
      let more : take i gs ++ g ∷ [] ≡ take (i + 1) gs =
      sym (take_more gs i g (slice_get_within gs i g e) ∙ ap (λ x. take i gs ++ x ∷ []) (get_or_from_slice_get gs i g g e)) in
      ap (noted g.cluster) so_far ∙ marks-noted (take i gs) g tied h 0 n g.cluster (sym (zero-add g.cluster)) ∙ ap (λ l. marks (state l tied h) 0 n) more

  pub noted-all : length gs ≤ i → ms ≡ marks (state gs tied h) 0 n
  noted-all le = so_far ∙ ap (λ l. marks (state l tied h) 0 n) (take_all i gs le)
