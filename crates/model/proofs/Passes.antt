-- A pass over a longer run is a pass over the part, as far as the part goes.
use Rattle.std.proofs.Common.{◌≡◌, ℕ, zero, suc, ◌+◌, ◌<◌, ◌≤◌, Bool, true, false, ltb, ◌⊎◌, List, length, sym, refl, ap, ◌∙◌, subst, subst₂, inl, inr, add-zero, add-suc, arith}
use Rattle.std.proofs.lemmas.List.{length-append, length-map}
use Rattle.std.proofs.lemmas.Bool.{cases_lt, le-ltb, lt-ltb}
use Rattle.model.specs.declared.Glyph.{Glyph}
use Rattle.model.specs.declared.Entry.{Entry}
use Rattle.model.specs.Shaping.{Attempt, Ending, Inputs, State, accepted, back_pass, barred, hit, miss, planned, stopped}
use Rattle.model.proofs.Seek.{Clusters}
use Rattle.model.proofs.Choose.{Above, Below}
use Rattle.model.proofs.Chain.{attempt-makes}
use Rattle.model.proofs.Keeps.{Calm, From, Kept, makes-from, makes_kept}
use Rattle.model.proofs.Embed.{attempt-local, embed, shifted}
use Rattle.model.proofs.Steps.{Step, Steps, last, never, next, on, over, step, step_on}
use Rattle.model.proofs.Plans.{SoftEnd, back-free, back_on, steps-free}

-- the cut is free
abbrev pub Soft : ℕ → Step → Type 0
Soft cut (on j s) = s.tied cut ≡ false
Soft cut (over e) = SoftEnd cut e

back_on-calm : (cut : ℕ) (o : Attempt) (s : State) (k : State → Ending) → ((s' : State) → SoftEnd cut (k s') → s'.tied cut ≡ false) → SoftEnd cut (back_on o s k) → Calm cut o
back_on-calm cut miss s k h c = tt
back_on-calm cut (barred n) s k h c = c
back_on-calm cut (hit s' e es) s k h c = h s' c

end_of : (e e' : Ending) → over e ≡ over e' → e ≡ e'
end_of e e' q = cc

module _ (a n cut base : ℕ) (xs ys : List Glyph) (outer : ℕ → Bool) (below : Clusters (Below a cut) xs) (above : Clusters (Above (a + n) cut) ys) (inputs : Inputs) (x : Entry) where
  abbrev In : State → State
  In = embed a n cut base xs ys outer below above

  abbrev Sh : Attempt → Attempt
  Sh = shifted a n cut base xs ys outer below above

  -- of a step inside the part, which never ends the pass well
  abbrev moved : Step → Step
  moved (on j s) = on (length xs + j) (In s)
  moved (over (accepted s)) = over (stopped 0)
  moved (over (stopped k)) = over (stopped k)

  step_on-calm : (i : ℕ) (s : State) (o : Attempt) → Soft cut (step_on true i s o) → Calm cut o
  step_on-calm i s miss c = tt
  step_on-calm i s (barred k) c = c
  step_on-calm i s (hit s' e es) c = c

  step_on-moved : (i : ℕ) (s : State) (o : Attempt) → step_on true (length xs + i) (In s) (Sh o) ≡ moved (step_on true i s o)
  step_on-moved i s miss = ap (λ j. on j (In s)) (sym (add-suc (length xs) i))
  step_on-moved i s (barred k) = refl
  step_on-moved i s (hit s' e es) = refl

  long : (i : ℕ) (s : State) → i < length s.run → ltb (length xs + i) (length (In s).run) ≡ true
  long i s h = lt-ltb _ _ (simp (length-append, length-map) (omega arith))

  step-moved : (i : ℕ) (s : State) → i < length s.run → Clusters (λ p. p < n) s.run → Soft cut (step inputs x (length xs + i) (In s)) → step inputs x (length xs + i) (In s) ≡ moved (step inputs x i s)
  step-moved i s h p c =
      let at : Attempt = planned inputs x (length xs + i) (In s) in
      let c₁ : Soft cut (step_on true (length xs + i) (In s) at) = rw (long i s h) at c in
      let same : at ≡ Sh (planned inputs x i s) = attempt-local a n cut base xs ys outer below above inputs 6 x.alternate x.lookup i s h p (step_on-calm _ (In s) at c₁) in
      rw (long i s h, same, lt-ltb i (length s.run) h) (step_on-moved i s _)

  abbrev P : ℕ → State → Ending → Type 0
  P = Steps inputs x

  abbrev Inside : State → Type 0
  Inside s = Clusters (λ p. p < n) s.run

  abbrev StepKept : Step → Type 0
  StepKept (on j s) = (j ≤ length s.run) × Inside s
  StepKept (over e) = Unit {0}

  step_on-kept : (t : Bool) (i : ℕ) (s : State) (o : Attempt) → i < length s.run → Inside s → Kept n s o → StepKept (step_on t i s o)
  step_on-kept false i s o h k g = tt
  step_on-kept true i s miss h k g = (h, k)
  step_on-kept true i s (barred e) h k g = tt
  step_on-kept true i s (hit s' e es) h k g = (g.2, g.0)

  step_kept : (i : ℕ) (s : State) → i < length s.run → Inside s → StepKept (step inputs x i s)
  step_kept i s h k = step_on-kept (ltb i (length s.run)) i s _ h k (makes_kept inputs n i s (planned inputs x i s) k (attempt-makes inputs 6 x.alternate x.lookup i s))

  -- the part's own pass, and the pass over what is behind it
  abbrev pub Parted : ℕ → State → Ending → Type 0
  Parted i s e = (s' : State) × P i s (accepted s') × P (length xs + length s'.run) (In s') e × Inside s'

  at-end : (i : ℕ) (s : State) (e : Ending) → length s.run ≤ i → i ≤ length s.run → Inside s → P (length xs + i) (In s) e → Parted i s e
  at-end i s e h g k r =
      let same : i ≡ length s.run = omega arith in
      (s, last (rw (le-ltb i (length s.run) h)), subst (λ u. P (length xs + u) (In s) e) same r, k)

  turn : (i : ℕ) (s : State) (e : Ending) (u : Step) → step inputs x i s ≡ u → StepKept u → (j : ℕ) (w : State) → on j w ≡ moved u → ((i' : ℕ) (s' : State) → j ≡ length xs + i' → w ≡ In s' → i' ≤ length s'.run → Inside s' → Parted i' s' e) → Parted i s e
  turn i s e (on i' s') p k j w q ih =
      let r = ih i' s' (cc) (cc) k.0 k.1 in
      (r.0, next {z = accepted r.0} p r.1, r.2, r.3)
  turn i s e (over (accepted s')) p k j w q ih = absurd (never _ _ _ q)
  turn i s e (over (stopped z)) p k j w q ih = absurd (never _ _ _ q)

  ended : (u : Step) (e : Ending) → over e ≡ moved u → SoftEnd cut e → ⊥
  ended (on j s) e q c = absurd (never _ _ _ (sym q))
  ended (over (accepted s)) e q c = subst (SoftEnd cut) (end_of _ _ q) c
  ended (over (stopped z)) e q c = subst (SoftEnd cut) (end_of _ _ q) c

  pub pass-in : {j : ℕ} {w : State} {e : Ending} → P j w e → SoftEnd cut e → (i : ℕ) (s : State) → j ≡ length xs + i → w ≡ In s → i ≤ length s.run → Inside s → Parted i s e
  pass-in {j} {w} {e} (last p) c i s ej ew h k = by (cases_lt i (length s.run))
    where
      p₁ : step inputs x (length xs + i) (In s) ≡ over e
      p₁ = subst₂ (λ u v. step inputs x u v ≡ over e) ej ew p

      by : (i < length s.run) ⊎ (length s.run ≤ i) → Parted i s e
      by (inl lt) = absurd (ended (step inputs x i s) e (sym p₁ ∙ step-moved i s lt k (subst (Soft cut) (sym p₁) c)) c)
      by (inr ge) = at-end i s e ge h k (last p₁)
  pass-in {j} {w} {e} (next {j = j₁} {s' = w₁} p r) c i s ej ew h k = by (cases_lt i (length s.run)) (pass-in r c)
    where
      p₁ : step inputs x (length xs + i) (In s) ≡ on j₁ w₁
      p₁ = subst₂ (λ u v. step inputs x u v ≡ on j₁ w₁) ej ew p

      by : (i < length s.run) ⊎ (length s.run ≤ i) → ((i' : ℕ) (s' : State) → j₁ ≡ length xs + i' → w₁ ≡ In s' → i' ≤ length s'.run → Inside s' → Parted i' s' e) → Parted i s e
      by (inl lt) ih = turn i s e (step inputs x i s) refl (step_kept i s lt k) j₁ w₁ (sym p₁ ∙ step-moved i s lt k (subst (Soft cut) (sym p₁) (steps-free inputs cut x r c))) ih
      by (inr ge) ih = at-end i s e ge h k (next p₁ r)

  abbrev B : ℕ → State → Ending
  B = back_pass inputs x

  abbrev pub BackParted : ℕ → State → Ending → Type 0
  BackParted i s e = (s' : State) × (B i s ≡ accepted s') × (e ≡ B (length xs) (In s')) × Inside s'

  back-turn : (i : ℕ) (s : State) (o : Attempt) → i ≤ length s.run → Inside s → Kept n s o → From i o → SoftEnd cut (back_on (Sh o) (In s) (B (length xs + i))) → ((s' : State) → i ≤ length s'.run → Inside s' → SoftEnd cut (B (length xs + i) (In s')) → BackParted i s' (B (length xs + i) (In s'))) → (s' : State) × (back_on o s (B i) ≡ accepted s') × (back_on (Sh o) (In s) (B (length xs + i)) ≡ B (length xs) (In s')) × Inside s'
  back-turn i s miss h k g f c ih = ih s h k c
  back-turn i s (barred z) h k g f c ih = absurd c
  back-turn i s (hit s' e es) h k g f c ih = ih s' f g.0 c

  pub back_in : (i : ℕ) (s : State) → i ≤ length s.run → Inside s → SoftEnd cut (B (length xs + i) (In s)) → BackParted i s (B (length xs + i) (In s))
  back_in zero s h k c = (s, refl, ap (λ u. B u (In s)) (add-zero (length xs)), k)
  back_in (suc i) s h k c =
      let at : Attempt = planned inputs x (length xs + i) (In s) in
      let c₁ : SoftEnd cut (back_on at (In s) (B (length xs + i))) = subst (λ u. SoftEnd cut (B u (In s))) (add-suc (length xs) i) c in
      let same : at ≡ Sh (planned inputs x i s) = attempt-local a n cut base xs ys outer below above inputs 6 x.alternate x.lookup i s h k (back_on-calm cut at (In s) (B (length xs + i)) (back-free inputs cut x (length xs + i)) c₁) in
      let r = back-turn i s (planned inputs x i s) (omega arith) k (makes_kept inputs n i s (planned inputs x i s) k (attempt-makes inputs 6 x.alternate x.lookup i s)) (makes-from inputs i s (planned inputs x i s) (attempt-makes inputs 6 x.alternate x.lookup i s)) (subst (λ o. SoftEnd cut (back_on o (In s) (B (length xs + i)))) same c₁) (back_in i) in
      (r.0, r.1, ap (λ u. B u (In s)) (add-suc (length xs) i) ∙ ap (λ o. back_on o (In s) (B (length xs + i))) same ∙ r.2, r.3)
