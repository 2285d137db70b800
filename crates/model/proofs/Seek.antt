-- What a search finds in a longer run.
use Rattle.std.proofs.Common.{◌≡◌, ℕ, zero, suc, ◌+◌, ◌<◌, Bool, true, false, cond, List, [], ◌∷◌, ◌++◌, map, length, take, drop, refl, ap, arith}
use mathlib.Core.Option
use mathlib.Core.Option.{Option, none, some}
use Rattle.std.specs.List.{AllByRecursion}
use Rattle.model.specs.declared.Glyph.{Glyph}
use Rattle.model.specs.Lookups.{Met, far, later, seek}
use Rattle.model.specs.Laws.{raise}

abbrev pub Clusters : (ℕ → Type 0) → List Glyph → Type 0
Clusters Q = AllByRecursion (λ g. Q g.cluster)

abbrev pub raise_met : ℕ → Met → Met
raise_met a m = record { gap = m.gap; cluster = a + m.cluster }

-- a search at a glyph, by its two tests
abbrev pub found : ℕ → Option (List Met) → Option (List Met)
found c o = Option.map (λ ms. record { gap = 0; cluster = c } ∷ ms) o

abbrev pub seek_on : Bool → Bool → ℕ → Option (List Met) → Option (List Met) → Option (List Met)
seek_on t u c past met = cond t (later past) (cond u (found c met) none)

-- Q of the farthest cluster met
abbrev pub Far : (ℕ → Type 0) → ℕ → Option (List Met) → Type 0
Far Q own none = Unit {0}
Far Q own (some ms) = Q (far own ms)

module _ (Q : ℕ → Type 0) (skips : ℕ → Bool) where
  far-later : (own : ℕ) (o : Option (List Met)) → Far Q own o → Far Q own (later o)
  far-later own none h = tt
  far-later own (some []) h = h
  far-later own (some (m ∷ ms)) h = h

  far-found : (own p : ℕ) (o : Option (List Met)) → Far Q p o → Far Q own (found p o)
  far-found own p none h = tt
  far-found own p (some ms) h = h

  far-on : (t u : Bool) (own p : ℕ) (o o' : Option (List Met)) → Far Q own o → Far Q p o' → Far Q own (seek_on t u p o o')
  far-on true u own p o o' h k = far-later own o h
  far-on false true own p o o' h k = far-found own p o' k
  far-on false false own p o o' h k = tt

  -- from a cluster that has Q, among clusters that have Q
  pub seek-all : (es : List (ℕ → Bool)) (xs : List Glyph) (own : ℕ) → Q own → Clusters Q xs → Far Q own (seek skips es xs)
  seek-all [] xs own q h = q
  seek-all (e ∷ es) [] own q h = tt
  seek-all (e ∷ es) (g ∷ xs) own q h =
      far-on (skips g.glyph) (e g.glyph) own g.cluster _ _ (seek-all (e ∷ es) xs own q h.1) (seek-all es xs g.cluster h.0 h.1)

  -- from any cluster, where there is an entry to meet
  pub seek-some : (e : ℕ → Bool) (es : List (ℕ → Bool)) (xs : List Glyph) (own : ℕ) → Clusters Q xs → Far Q own (seek skips (e ∷ es) xs)
  seek-some e es [] own h = tt
  seek-some e es (g ∷ xs) own h =
      far-on (skips g.glyph) (e g.glyph) own g.cluster _ _ (seek-some e es xs own h.1) (seek-all es xs g.cluster h.0 h.1)

  module _ (a : ℕ) (ys : List Glyph) (beyond : Clusters Q ys) where
    -- what a search in `xs` finds, and what it finds in `xs` raised, with `ys` behind
    abbrev pub Reach : ℕ → Option (List Met) → Option (List Met) → Type 0
    Reach own (some ms) o = o ≡ some (map (raise_met a) ms)
    Reach own none none = Unit {0}
    Reach own none (some ms) = Q (far own ms)

    reach_far : (own : ℕ) (o : Option (List Met)) → Far Q own o → Reach own none o
    reach_far own none h = tt
    reach_far own (some ms) h = h

    reach-later : (own : ℕ) (o o' : Option (List Met)) → Reach own o o' → Reach own (later o) (later o')
    reach-later own none none h = tt
    reach-later own none (some []) h = h
    reach-later own none (some (m ∷ ms)) h = h
    reach-later own (some []) o' h = ap later h
    reach-later own (some (m ∷ ms)) o' h = ap later h

    reach-found : (own p : ℕ) (o o' : Option (List Met)) → Reach (a + p) o o' → Reach own (found p o) (found (a + p) o')
    reach-found own p none none h = tt
    reach-found own p none (some ms) h = h
    reach-found own p (some ms) o' h = ap (found (a + p)) h

    reach-on : (t u : Bool) (own p : ℕ) (o₁ o₂ o₃ o₄ : Option (List Met)) → Reach own o₁ o₃ → Reach (a + p) o₂ o₄ → Reach own (seek_on t u p o₁ o₂) (seek_on t u (a + p) o₃ o₄)
    reach-on true u own p o₁ o₂ o₃ o₄ h k = reach-later own o₁ o₃ h
    reach-on false true own p o₁ o₂ o₃ o₄ h k = reach-found own p o₂ o₄ k
    reach-on false false own p o₁ o₂ o₃ o₄ h k = tt

    pub seek-reach : (es : List (ℕ → Bool)) (xs : List Glyph) (own : ℕ) → Reach own (seek skips es xs) (seek skips es (map (raise a) xs ++ ys))
    seek-reach [] xs own = refl
    seek-reach (e ∷ es) [] own = reach_far own _ (seek-some e es ys own beyond)
    seek-reach (e ∷ es) (g ∷ xs) own =
        reach-on (skips g.glyph) (e g.glyph) own g.cluster (seek skips (e ∷ es) xs) (seek skips es xs) (seek skips (e ∷ es) (map (raise a) xs ++ ys)) (seek skips es (map (raise a) xs ++ ys)) (seek-reach (e ∷ es) xs own) (seek-reach es xs (a + g.cluster))

-- the glyphs met stand in the list, with clusters that have Q
abbrev pub Good : (ℕ → Type 0) → List Met → List Glyph → Type 0
Good Q [] xs = Unit {0}
Good Q (m ∷ ms) xs = (m.gap < length xs) × Q m.cluster × Good Q ms (drop (suc m.gap) xs)

abbrev pub GoodIf : (ℕ → Type 0) → Option (List Met) → List Glyph → Type 0
GoodIf Q none xs = Unit {0}
GoodIf Q (some ms) xs = Good Q ms xs

module _ (Q : ℕ → Type 0) where
  good-on : (t u : Bool) (g : Glyph) (xs : List Glyph) (o o' : Option (List Met)) → Q g.cluster → GoodIf Q o xs → GoodIf Q o' xs → GoodIf Q (seek_on t u g.cluster o o') (g ∷ xs)
  good-on true u g xs none o' q h k = tt
  good-on true u g xs (some []) o' q h k = tt
  good-on true u g xs (some (m ∷ ms)) o' q h k = (omega arith, h.1, h.2)
  good-on false true g xs o none q h k = tt
  good-on false true g xs o (some ms) q h k = (omega arith, q, k)
  good-on false false g xs o o' q h k = tt

  pub seek-good : (skips : ℕ → Bool) (es : List (ℕ → Bool)) (xs : List Glyph) → Clusters Q xs → GoodIf Q (seek skips es xs) xs
  seek-good skips [] xs h = tt
  seek-good skips (e ∷ es) [] h = tt
  seek-good skips (e ∷ es) (g ∷ xs) h =
      good-on (skips g.glyph) (e g.glyph) g xs (seek skips (e ∷ es) xs) (seek skips es xs) h.0 (seek-good skips (e ∷ es) xs h.1) (seek-good skips es xs h.1)

  pub good-take : (k : ℕ) (ms : List Met) (xs : List Glyph) → Good Q ms xs → Good Q (take k ms) xs
  good-take zero ms xs h = tt
  good-take (suc k) [] xs h = tt
  good-take (suc k) (m ∷ ms) xs h = (h.0, h.1, good-take k ms _ h.2)

  pub good-far : (own : ℕ) (ms : List Met) (xs : List Glyph) → Q own → Good Q ms xs → Q (far own ms)
  good-far own [] xs q h = q
  good-far own (m ∷ ms) xs q h = good-far m.cluster ms _ h.1 h.2
