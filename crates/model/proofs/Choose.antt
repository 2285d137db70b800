-- What is chosen in a part of a run, and what in the whole.
use Rattle.std.proofs.Common.{◌≡◌, ℕ, ◌+◌, ◌<◌, ◌≤◌, Bool, ◌⊎◌, List, [], ◌∷◌, ◌++◌, map, sym, refl, ap, subst, inl, inr, arith}
use mathlib.Core.Option
use mathlib.Core.Option.{Option, none, some}
use Rattle.std.proofs.lemmas.List.{take-map}
use Rattle.std.proofs.ByRecursion.{All-append, All-weaker}
use Rattle.model.specs.declared.Glyph.{Glyph}
use Rattle.model.specs.Lookups.{Candidate, Match, Met, choose, far, matched, or_else}
use Rattle.model.specs.Laws.{raise}
use Rattle.model.proofs.Seek.{Clusters, Far, Reach, raise_met, seek-all, seek-reach}

abbrev pub raise_match : ℕ → Match → Match
raise_match a m = record { action = m.action; others = map (raise_met a) m.others; own = a + m.own; lo = a + m.lo; hi = a + m.hi }

pub far-raise : (a own : ℕ) (ms : List Met) → far (a + own) (map (raise_met a) ms) ≡ a + far own ms
far-raise a own [] = refl
far-raise a own (m ∷ ms) = far-raise a m.cluster ms

pub clusters-raise : (P Q : ℕ → Type 0) (a : ℕ) → ((p : ℕ) → P p → Q (a + p)) → (xs : List Glyph) → Clusters P xs → Clusters Q (map (raise a) xs)
clusters-raise P Q a h [] k = tt
clusters-raise P Q a h (x ∷ xs) k = (h _ k.0, clusters-raise P Q a h xs k.1)

abbrev pub Below : ℕ → ℕ → ℕ → Type 0
Below a cut p = (p < a) × (cut ≡ a)

abbrev pub Above : ℕ → ℕ → ℕ → Type 0
Above z cut p = (z ≤ p) × (cut ≡ z)

-- `lo` and `hi` lie on the two sides of the cut
abbrev pub Crosses : ℕ → Match → Type 0
Crosses cut m = (m.lo < cut) × (cut ≤ m.hi)

abbrev pub Cross : ℕ → Option Match → Type 0
Cross cut none = ⊥
Cross cut (some m) = Crosses cut m

module _ (skips : ℕ → Bool) (a n cut : ℕ) (xs ys : List Glyph) (below : Clusters (Below a cut) xs) (above : Clusters (Above (a + n) cut) ys) where
  -- what is chosen in the part, and what in the whole
  abbrev pub Same : Option Match → Option Match → Type 0
  Same o o' = Cross cut o' ⊎ (o' ≡ Option.map (raise_match a) o)

  same_or : (o o' u u' : Option Match) → Same o o' → Same u u' → Same (or_else o u) (or_else o' u')
  same_or o none u u' (inl x) k = absurd x
  same_or o (some m) u u' (inl x) k = inl x
  same_or none o' u u' (inr e) k = subst (λ v. Same u (or_else v u')) (sym e) k
  same_or (some m) o' u u' (inr e) k = inr (ap (λ v. or_else v u') e)

  abbrev pub After : ℕ → Option (List Met) → Option (List Met) → Type 0
  After = Reach (Above (a + n) cut) skips a ys above

  abbrev pub Before : ℕ → Option (List Met) → Option (List Met) → Type 0
  Before = Reach (Below a cut) skips a xs below

  same-matched : (c : Candidate) (own : ℕ) (o b o' b' : Option (List Met)) → After (a + own) o o' → Before (a + own) b b' → Far (λ p. a ≤ p) (a + own) o' → Far (λ p. p < a + n) (a + own) b' → Same (matched c own o b) (matched c (a + own) o' b')
  same-matched c own none b none b' h k f g = inr refl
  same-matched c own none b (some ms) none h k f g = inr refl
  same-matched c own none b (some ms) (some bs) h k f g = inl (omega arith, omega arith)
  same-matched c own (some ms) none none b' h k f g = inr refl
  same-matched c own (some ms) none (some ms') none h k f g = inr refl
  same-matched c own (some ms) none (some ms') (some bs) h k f g = inl (omega arith, omega arith)
  same-matched c own (some ms) (some bs) o' b' h k f g = inr (rw (h, k) (simp (far-raise, take-map)))

  module _ (before after : List Glyph) (own : ℕ) (in-before : Clusters (λ p. p < n) before) (in_after : Clusters (λ p. p < n) after) (in-own : own < n) where
    pub choose-same : (cs : List Candidate) → Same (choose skips cs before own after) (choose skips cs (map (raise a) before ++ xs) (a + own) (map (raise a) after ++ ys))
    choose-same [] = inr refl
    choose-same (c ∷ cs) =
        same_or _ _ _ _
        (same-matched c own _ _ _ _
        (seek-reach (Above (a + n) cut) skips a ys above (c.pattern.input ++ c.pattern.lookahead) after (a + own))
        (seek-reach (Below a cut) skips a xs below c.pattern.backtrack before (a + own))
        (seek-all (λ p. a ≤ p) skips (c.pattern.input ++ c.pattern.lookahead) (map (raise a) after ++ ys) (a + own) (omega arith) (All-append _ (map (raise a) after) ys (clusters-raise (λ p. p < n) (λ p. a ≤ p) a (λ p u. omega arith) after in_after) (All-weaker _ _ (λ g u. omega arith) ys above)))
        (seek-all (λ p. p < a + n) skips c.pattern.backtrack (map (raise a) before ++ xs) (a + own) (omega arith) (All-append _ (map (raise a) before) xs (clusters-raise (λ p. p < n) (λ p. p < a + n) a (λ p u. omega arith) before in-before) (All-weaker _ _ (λ g u. omega arith) xs below))))
        (choose-same cs)
