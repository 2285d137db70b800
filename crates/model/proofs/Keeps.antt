-- What each change keeps, and so every attempt.
use Rattle.std.proofs.Common.{◌≡◌, ℕ, suc, ◌<◌, ◌≤◌, Bool, true, false, ◌&&◌, leb, List, [], ◌∷◌, map, reverse, length, take, drop, sym, refl, subst, zero-le, arith}
use mathlib.Core.Option.{some}
use Rattle.std.specs.List.{AllByRecursion}
use Rattle.std.proofs.ByRecursion.{All-append, All-drop, All-take}
use Rattle.std.proofs.lemmas.Bool.{cond_both, or_left}
use Rattle.model.specs.declared.Glyph.{Glyph}
use Rattle.model.specs.Lookups.{Action, Met, far, join, nest, passes_over, put}
use Rattle.model.specs.Edits.{at_cluster, changed, merged, without}
use Rattle.model.specs.Shaping.{Attempt, Inputs, State, barred, hit, miss}
use Rattle.model.proofs.Seek.{Clusters}
use Rattle.model.proofs.Change.{all-reverse}
use Rattle.model.proofs.Frames.{Valid, valid-from, valid-weaker}
use Rattle.model.proofs.Chain.{Comes, GoodMatch, Makes, Strike, chain-keeps, choose-good, clusters-any, inside-from, more}

pub without_in : (P : Glyph → Type 0) (ms : List Met) (gs : List Glyph) → AllByRecursion P gs → AllByRecursion P (without ms gs)
without_in P [] gs k = k
without_in P (m ∷ ms) gs k = All-append _ (take m.gap gs) _ (All-take _ m.gap gs k) (without_in P ms (drop (suc m.gap) gs) (All-drop _ (suc m.gap) gs k))

-- Clusters that have Q.
module _ (Q : ℕ → Type 0) where
  pub at_in : (own : ℕ) (ns : List ℕ) → Q own → Clusters Q (map (at_cluster own) ns)
  at_in own [] h = tt
  at_in own (n ∷ ns) h = (h, at_in own ns h)

  merged-in : (own hi : ℕ) (gs : List Glyph) → Q own → Clusters Q gs → Clusters Q (map (merged own hi) gs)
  merged-in own hi [] h k = tt
  merged-in own hi (g ∷ gs) h k =
      (cond_both (leb own g.cluster && leb g.cluster hi) own g.cluster Q (λ e. h) (λ e. k.0), merged-in own hi gs h k.1)

  pub changed-in : (x : Action) (own : ℕ) (ms : List Met) (i : ℕ) (gs : List Glyph) → Q own → Clusters Q gs → Clusters Q (changed x own ms i gs)
  changed-in (put ns) own ms i gs h k =
      All-append _ (take i gs) _ (All-take _ i gs k) (All-append _ (map (at_cluster own) ns) _ (at_in own ns h) (All-drop _ (suc i) gs k))
  changed-in (join c) own ms i gs h k =
      merged-in own (far own ms) _ h (All-append _ (take i gs) (at_cluster own c ∷ without ms (drop (suc i) gs)) (All-take _ i gs k) (h, without_in _ ms _ (All-drop _ (suc i) gs k)))
  changed-in (nest rs) own ms i gs h k = k

  -- what was matched has Q too
  strike-match : (inputs : Inputs) (p : ℕ) (s s' : State) (k : Strike inputs p s s') → Clusters Q s.run → GoodMatch Q k.first.cluster k.after (some k.match)
  strike-match inputs p s s' k h =
      let rest = subst (Clusters Q) k.rest (All-drop _ p s.run h) in
      subst (GoodMatch Q k.first.cluster k.after) k.chosen (choose-good Q (passes_over inputs.font k.lookup) (k.lookup.candidates k.alternate k.first.glyph) (reverse (take p s.run)) k.first.cluster k.after rest.0 (all-reverse _ (take p s.run) (All-take _ p s.run h)) rest.1)

  pub strike-hi : (inputs : Inputs) (p : ℕ) (s s' : State) (k : Strike inputs p s s') → Clusters Q s.run → Q k.match.hi
  strike-hi inputs p s s' k h = (strike-match inputs p s s' k h).2

  pub strike-in : (inputs : Inputs) (p : ℕ) (s s' : State) → Strike inputs p s s' → Clusters Q s.run → Clusters Q s'.run
  strike-in inputs p s s' k h =
      let own : Q k.match.own = subst Q (sym (strike-match inputs p s s' k h).0) (subst (Clusters Q) k.rest (All-drop _ p s.run h)).0 in
      subst (λ u. Clusters Q u.run) (sym k.is) (changed-in k.match.action k.match.own k.match.others p s.run own h)

pub strike-own : (inputs : Inputs) (p : ℕ) (s s' : State) (k : Strike inputs p s s') → k.match.own ≡ k.first.cluster
strike-own inputs p s s' k = (strike-match (λ c. Unit {0}) inputs p s s' k (clusters-any s.run)).0

-- what stays tied and is free after was free before
pub untied : (t u : Bool) → (t ≡ true → u ≡ true) → u ≡ false → t ≡ false
untied true u h e = let tied = h refl in cc
untied false u h e = refl

-- The cut is free after an attempt that was not refused.
abbrev pub Calm : ℕ → Attempt → Type 0
Calm cut miss = Unit {0}
Calm cut (barred k) = ⊥
Calm cut (hit s e es) = s.tied cut ≡ false

-- clusters below n stay so, and the edits fit
abbrev pub Kept : ℕ → State → Attempt → Type 0
Kept n s miss = Unit {0}
Kept n s (barred k) = Unit {0}
Kept n s (hit s' e es) = Clusters (λ c. c < n) s'.run × Valid 0 es (length s.run) (length s'.run) × (e ≤ length s'.run)

abbrev pub From : ℕ → Attempt → Type 0
From p miss = Unit {0}
From p (barred k) = Unit {0}
From p (hit s e es) = p ≤ length s.run

module _ (inputs : Inputs) where
  pub strike-tied : (c p : ℕ) (s s' : State) → Strike inputs p s s' → s.tied c ≡ true → s'.tied c ≡ true
  strike-tied c p s s' k h = subst (λ u. u.tied c ≡ true) (sym k.is) (or_left (s.tied c) _ h)

  pub comes-calm : (V : Type 0) (cut at a : ℕ) (s : State) (o : Attempt) → Comes inputs V at a s o → Calm cut o → s.tied cut ≡ false
  comes-calm V cut at a s miss h c = absurd h
  comes-calm V cut at a s (barred n) h c = absurd c
  comes-calm V cut at a s (hit s' e es) h c = untied (s.tied cut) (s'.tied cut) (chain-keeps inputs (λ u. u.tied cut ≡ true) (strike-tied cut) h.0) c

  pub makes_kept : (n p : ℕ) (s : State) (o : Attempt) → Clusters (λ c. c < n) s.run → Makes inputs p s o → Kept n s o
  makes_kept n p s miss h k = tt
  makes_kept n p s (barred x) h k = tt
  makes_kept n p s (hit s' e es) h (s₁, k, c, v, i) =
      (chain-keeps inputs (λ u. Clusters (λ c. c < n) u.run) (λ p u u'. strike-in (λ c. c < n) inputs p u u') (more k c) h, valid-weaker 0 p es _ _ zero-le v, i)

  -- a hit at position p leaves at least p glyphs
  pub makes-from : (p : ℕ) (s : State) (o : Attempt) → Makes inputs p s o → From p o
  makes-from p s miss h = tt
  makes-from p s (barred n) h = tt
  makes-from p s (hit s' e es) (s₁, k, c, v, i) =
      let in' : p < length s.run = inside-from s.run p k.first k.after k.rest in
      valid-from p es (length s.run) (length s'.run) (omega arith) v
