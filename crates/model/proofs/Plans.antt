-- What each change keeps, a plan keeps; and what a plan keeps.
use Rattle.std.proofs.Common.{◌≡◌, ℕ, zero, suc, ◌<◌, ◌≤◌, Bool, true, false, ltb, leb, List, [], ◌∷◌, length, sym, subst, inl, inr, arith}
use mathlib.Core.Bool.{and-false}
use Rattle.std.proofs.lemmas.Bool.{lt-leb}
use Rattle.model.specs.declared.Entry.{Entry}
use Rattle.model.specs.Shaping.{Attempt, Ending, Inputs, Runs, State, Sweeps, accepted, answer, attempt, back_pass, barred, hit, miss, planned, stopped}
use Rattle.model.proofs.Seek.{Clusters}
use Rattle.model.proofs.Chain.{Makes, Refusal, Strike, attempt-makes, chain-keeps, more}
use Rattle.model.proofs.Keeps.{strike-hi, strike-in, strike-tied, untied}
use Rattle.model.proofs.Steps.{Step, Steps, last, next, on, over, step, step_on, sweeps-by}

-- one step of a backward pass
abbrev pub back_on : Attempt → State → (State → Ending) → Ending
back_on o s k = answer o (k s) stopped (λ s' e es. k s')

-- a refusal is 7 or 8; otherwise I holds
abbrev pub EndKeeps : (State → Type 0) → Ending → Type 0
EndKeeps I (accepted s) = I s
EndKeeps I (stopped n) = Refusal n

module _ (inputs : Inputs) (I : State → Type 0) (each : (p : ℕ) (s s' : State) → Strike inputs p s s' → I s → I s') where
  abbrev pub AttemptKeeps : Attempt → Type 0
  AttemptKeeps miss = Unit {0}
  AttemptKeeps (barred n) = Refusal n
  AttemptKeeps (hit s e es) = I s

  makes-keeps : (p : ℕ) (s : State) (o : Attempt) → I s → Makes inputs p s o → AttemptKeeps o
  makes-keeps p s miss h m = tt
  makes-keeps p s (barred n) h m = m
  makes-keeps p s (hit s' e es) h (s₁, k, c, v, i) = chain-keeps inputs I each (more k c) h

  pub attempt-keeps : (d alt l p : ℕ) (s : State) → I s → AttemptKeeps (attempt inputs d alt l p s)
  attempt-keeps d alt l p s h = makes-keeps p s (attempt inputs d alt l p s) h (attempt-makes inputs d alt l p s)

  abbrev StepKeeps : Step → Type 0
  StepKeeps (on j s) = I s
  StepKeeps (over z) = EndKeeps I z

  step_on-keeps : (t : Bool) (i : ℕ) (s : State) (o : Attempt) → I s → AttemptKeeps o → StepKeeps (step_on t i s o)
  step_on-keeps false i s o h k = h
  step_on-keeps true i s miss h k = h
  step_on-keeps true i s (barred n) h k = k
  step_on-keeps true i s (hit s' e es) h k = k

  back_on-keeps : (o : Attempt) (s : State) (k : State → Ending) → I s → AttemptKeeps o → ((s' : State) → I s' → EndKeeps I (k s')) → EndKeeps I (back_on o s k)
  back_on-keeps miss s k h g f = f s h
  back_on-keeps (barred n) s k h g f = g
  back_on-keeps (hit s' e es) s k h g f = f s' g

  module _ (x : Entry) where
    step_keeps : (i : ℕ) (s : State) (u : Step) → I s → step inputs x i s ≡ u → StepKeeps u
    step_keeps i s u h e = subst StepKeeps e (step_on-keeps (ltb i (length s.run)) i s (planned inputs x i s) h (attempt-keeps 6 x.alternate x.lookup i s h))

    pub steps-keep : {i : ℕ} {s : State} {z : Ending} → Steps inputs x i s z → I s → EndKeeps I z
    steps-keep {i} {s} {z} (last p) h = step_keeps i s (over z) h p
    steps-keep {i} {s} {z} (next {j = j} {s' = s'} p r) h = steps-keep r (step_keeps i s (on j s') h p)

    pub back-keeps : (i : ℕ) (s : State) → I s → EndKeeps I (back_pass inputs x i s)
    back-keeps zero s h = h
    back-keeps (suc i) s h = back_on-keeps (planned inputs x i s) s (back_pass inputs x i) h (attempt-keeps 6 x.alternate x.lookup i s h) (back-keeps i)

    pub sweeps-keep : (s : State) (z : Ending) → Sweeps inputs x s z → I s → EndKeeps I z
    sweeps-keep = sweeps-by inputs x (λ s z. I s → EndKeeps I z) (λ s. back-keeps (length s.run) s) (λ s z p. steps-keep p)

  pub runs-keep : (plan : List Entry) (s : State) (z : Ending) → Runs inputs plan s z → I s → EndKeeps I z
  runs-keep [] s z p h = subst (EndKeeps I) (sym p) h
  runs-keep (x ∷ plan) s z (inl (s', p, r)) h = runs-keep plan s' z r (sweeps-keep x s (accepted s') p h)
  runs-keep (x ∷ plan) s z (inr (n, p, e)) h = subst (EndKeeps I) (sym e) (sweeps-keep x s (stopped n) p h)

module _ (inputs : Inputs) where
  pub strike-hits : (p : ℕ) (s s' : State) → Strike inputs p s s' → (s.hits < s'.hits) × (s'.hits ≤ inputs.limit)
  strike-hits p s s' k = subst (λ u. (s.hits < u.hits) × (u.hits ≤ inputs.limit)) (sym k.is) (omega arith, k.left)

  pub strike-room : (p : ℕ) (s s' : State) → Strike inputs p s s' → length s'.run ≤ inputs.room
  strike-room p s s' k = subst (λ u. length u.run ≤ inputs.room) (sym k.is) k.fits

  -- no cluster past the text's end is tied
  pub strike-past : (n c : ℕ) → n ≤ c → (p : ℕ) (s s' : State) → Strike inputs p s s' → Clusters (λ q. q < n) s.run × (s.tied c ≡ false) → Clusters (λ q. q < n) s'.run × (s'.tied c ≡ false)
  strike-past n c l p s s' k (h, f) =
      let hi : k.match.hi < n = strike-hi (λ q. q < n) inputs p s s' k h in
      let untied : leb c k.match.hi ≡ false = lt-leb c k.match.hi (omega arith) in
      (strike-in (λ q. q < n) inputs p s s' k h, subst (λ u. u.tied c ≡ false) (sym k.is) (rw (f, untied) (and-false (ltb k.match.lo c))))

-- Ties last: where the cut is free at the end, it was free throughout.
abbrev pub SoftEnd : ℕ → Ending → Type 0
SoftEnd cut (accepted s) = s.tied cut ≡ false
SoftEnd cut (stopped n) = ⊥

soft-free : (cut : ℕ) (s : State) (z : Ending) → (s.tied cut ≡ true → EndKeeps (λ u. u.tied cut ≡ true) z) → SoftEnd cut z → s.tied cut ≡ false
soft-free cut s (accepted w) h c = untied (s.tied cut) (w.tied cut) h c
soft-free cut s (stopped n) h c = absurd c

module _ (inputs : Inputs) (cut : ℕ) where
  pub steps-free : (x : Entry) {i : ℕ} {s : State} {z : Ending} → Steps inputs x i s z → SoftEnd cut z → s.tied cut ≡ false
  steps-free x {i} {s} {z} p = soft-free cut s z (steps-keep inputs (λ u. u.tied cut ≡ true) (strike-tied inputs cut) x p)

  pub back-free : (x : Entry) (i : ℕ) (s : State) → SoftEnd cut (back_pass inputs x i s) → s.tied cut ≡ false
  back-free x i s = soft-free cut s (back_pass inputs x i s) (back-keeps inputs (λ u. u.tied cut ≡ true) (strike-tied inputs cut) x i s)

  pub runs-free : (plan : List Entry) (s : State) (z : Ending) → Runs inputs plan s z → SoftEnd cut z → s.tied cut ≡ false
  runs-free plan s z p = soft-free cut s z (runs-keep inputs (λ u. u.tied cut ≡ true) (strike-tied inputs cut) plan s z p)
