-- A forward pass as a chain of steps, and that a plan has at most one ending.
use Rattle.std.proofs.Common.{◌≡◌, ℕ, suc, Bool, true, false, cond, ltb, List, [], ◌∷◌, length, sym, refl, ap, ◌∙◌, subst, subst₂, inl, inr, arith}
use Rattle.model.specs.declared.Entry.{Entry}
use Rattle.model.specs.Shaping.{Attempt, Ending, Inputs, Pass, Runs, State, Sweeps, accepted, answer, back_pass, barred, ends, hit, hits, miss, misses, planned, stopped, stops}

-- one step of a pass: on from a position, or over
pub data Step : Type 0 where
  on : ℕ → State → Step
  over : Ending → Step

abbrev pub step_on : Bool → ℕ → State → Attempt → Step
step_on t i s o = cond t (answer o (on (suc i) s) (λ n. over (stopped n)) (λ s' e es. on e s')) (over (accepted s))

pub never : (j : ℕ) (s : State) (z : Ending) → on j s ≡ over z → ⊥
never j s z q = let z : ◌≡◌ {A = ℕ} 0 1 = cc in omega arith

pub accepted-not : (s : State) (k : ℕ) → accepted s ≡ stopped k → ⊥
accepted-not s k q = let z : ◌≡◌ {A = ℕ} 0 1 = cc in omega arith

pub accepted-one : (s s' : State) → accepted s ≡ accepted s' → s ≡ s'
accepted-one s s' q = cc

module _ (inputs : Inputs) (x : Entry) where
  abbrev pub step : ℕ → State → Step
  step i s = step_on (ltb i (length s.run)) i s (planned inputs x i s)

  pub data Steps : ℕ → State → Ending → Type 0 where
    last : {i : ℕ} {s : State} {z : Ending} → step i s ≡ over z → Steps i s z
    next : {i : ℕ} {s : State} {z : Ending} {j : ℕ} {s' : State} → step i s ≡ on j s' → Steps j s' z → Steps i s z

  pub to-steps : {i : ℕ} {s : State} {z : Ending} → Pass inputs x i s z → Steps i s z
  to-steps {i} {s} {z} (ends e q) = last (rw e (ap over (sym q)))
  to-steps {i} {s} {z} (stops e f q) = last (rw (e, f) (ap over (sym q)))
  to-steps {i} {s} {z} (misses e f r) = next (rw (e, f)) (to-steps r)
  to-steps {i} {s} {z} (hits e f r) = next (rw (e, f)) (to-steps r)

  last-pass : (i : ℕ) (s : State) (z : Ending) (t : Bool) (o : Attempt) → ltb i (length s.run) ≡ t → planned inputs x i s ≡ o → step_on t i s o ≡ over z → Pass inputs x i s z
  last-pass i s z false o e f q = ends e (cc)
  last-pass i s z true miss e f q = absurd (never _ _ _ q)
  last-pass i s z true (barred n) e f q = stops e f (cc)
  last-pass i s z true (hit s' j es) e f q = absurd (never _ _ _ q)

  next-pass : (i : ℕ) (s : State) (z : Ending) (j : ℕ) (s' : State) (t : Bool) (o : Attempt) → ltb i (length s.run) ≡ t → planned inputs x i s ≡ o → step_on t i s o ≡ on j s' → Pass inputs x j s' z → Pass inputs x i s z
  next-pass i s z j s' false o e f q r = absurd (never _ _ _ (sym q))
  next-pass i s z j s' true miss e f q r = misses e f (subst₂ (λ u v. Pass inputs x u v z) (cc) (cc) r)
  next-pass i s z j s' true (barred n) e f q r = absurd (never _ _ _ (sym q))
  next-pass i s z j s' true (hit s'' k es) e f q r = hits e f (subst₂ (λ u v. Pass inputs x u v z) (cc) (cc) r)

  pub from-steps : {i : ℕ} {s : State} {z : Ending} → Steps i s z → Pass inputs x i s z
  from-steps {i} {s} {z} (last p) = last-pass i s z (ltb i (length s.run)) (planned inputs x i s) refl refl p
  from-steps {i} {s} {z} (next {j = j} {s' = s'} p r) = next-pass i s z j s' (ltb i (length s.run)) (planned inputs x i s) refl refl p (from-steps r)

  steps-once : {i : ℕ} {s : State} {z : Ending} → Steps i s z → (z' : Ending) → Steps i s z' → z ≡ z'
  steps-once (last p) z' (last q) = cc
  steps-once (last p) z' (next q r) = cc
  steps-once (next p r) z' (last q) = cc
  steps-once {z = z} (next {j = j} {s' = s} p r) z' (next {j = j'} {s' = s'} q r') =
      let i≡ : j' ≡ j = cc in
      let s≡ : s' ≡ s = cc in
      steps-once r z' (subst (λ u. Steps u s z') i≡ (subst (λ u. Steps j' u z') s≡ r'))

  -- a pass, by the way it goes
  pub sweeps-by : (P : State → Ending → Type 0) → ((s : State) → P s (back_pass inputs x (length s.run) s)) → ((s : State) (z : Ending) → Steps 0 s z → P s z) → (s : State) (z : Ending) → Sweeps inputs x s z → P s z
  sweeps-by P f g s z = by (inputs.table x.lookup).backward
    where
      by : (t : Bool) → cond t (z ≡ back_pass inputs x (length s.run) s) (Pass inputs x 0 s z) → P s z
      by true p = subst (P s) (sym p) (f s)
      by false p = g s z (to-steps p)

  sweeps-once : (s : State) (z z' : Ending) → Sweeps inputs x s z → Sweeps inputs x s z' → z ≡ z'
  sweeps-once s z z' = by (inputs.table x.lookup).backward
    where
      by : (t : Bool) → cond t (z ≡ back_pass inputs x (length s.run) s) (Pass inputs x 0 s z) → cond t (z' ≡ back_pass inputs x (length s.run) s) (Pass inputs x 0 s z') → z ≡ z'
      by true p q = p ∙ sym q
      by false p q = steps-once (to-steps p) z' (to-steps q)

module _ (inputs : Inputs) where
  pub runs-once : (plan : List Entry) (s : State) (z z' : Ending) → Runs inputs plan s z → Runs inputs plan s z' → z ≡ z'
  runs-once [] s z z' p q = p ∙ sym q
  runs-once (x ∷ plan) s z z' (inl (s₁, p, r)) (inl (s₂, q, t)) =
      let same : accepted s₁ ≡ accepted s₂ = sweeps-once inputs x s _ _ p q in
      let s≡ : s₂ ≡ s₁ = cc in
      runs-once plan s₁ z z' r (subst (λ u. Runs inputs plan u z') s≡ t)
  runs-once (x ∷ plan) s z z' (inl (s₁, p, r)) (inr (n, q, t)) =
      let no : accepted s₁ ≡ stopped n = sweeps-once inputs x s _ _ p q in cc
  runs-once (x ∷ plan) s z z' (inr (m, p, r)) (inl (s₂, q, t)) =
      let no : stopped m ≡ accepted s₂ = sweeps-once inputs x s _ _ p q in cc
  runs-once (x ∷ plan) s z z' (inr (m, p, r)) (inr (n, q, t)) =
      let same : stopped m ≡ stopped n = sweeps-once inputs x s _ _ p q in cc
