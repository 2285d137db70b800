-- A text's outcome: one and only one, and what holds of it.
use Rattle.std.proofs.Common.{◌≡◌, ℕ, ◌<◌, ◌≤◌, true, false, ◌⊎◌, List, length, sym, refl, ap, ◌∙◌, subst, inl, inr, zero-le, arith}
use Rattle.std.specs.List.{AllByRecursion}
use Rattle.std.proofs.lemmas.Bool.{cases_lt}
use Rattle.model.specs.Edits.{Edit}
use Rattle.model.specs.Shaping.{Ending, Inputs, Outcome, Runs, Shaped, Shapes, State, accepted, attempt, hit, marks, refused, shaped, start, stopped}
use Rattle.model.specs.Laws.{AlwaysAnOutcome, AtMostOneOutcome, ClustersRise, LimitsHold, RefusalsAreTwo, Rising, TiesStay}
use Rattle.model.proofs.Seek.{Clusters}
use Rattle.model.proofs.Chain.{Strike}
use Rattle.model.proofs.Keeps.{strike-in, strike-tied}
use Rattle.model.proofs.Steps.{accepted-one, runs-once}
use Rattle.model.proofs.Plans.{AttemptKeeps, attempt-keeps, runs-keep, strike-hits, strike-past, strike-room, sweeps-keep}
use Rattle.model.proofs.Cut.{laid_in, length-laid}
use Rattle.model.proofs.Total.{runs-total}
use Rattle.model.proofs.Rises.{laid-rising, strike-rising}
use Rattle.model.proofs.Marks.{length-marks}

-- what a state says of a text of n characters
abbrev pub result : ℕ → State → Shaped
result n s = record { run = s.run; marks = marks s 0 n; hits = s.hits }

pub at_most_one : AtMostOneOutcome
at_most_one inputs text (refused n) (refused k) (inl (h, e)) (inl (l, f)) = cc
at_most_one inputs text (refused n) (refused k) (inl (h, e)) (inr (l, q)) = absurd (omega arith)
at_most_one inputs text (refused n) (refused k) (inr (h, p)) (inl (l, f)) = absurd (omega arith)
at_most_one inputs text (refused n) (refused k) (inr (h, p)) (inr (l, q)) = let e = runs-once inputs inputs.plan _ _ _ p q in cc
at_most_one inputs text (refused n) (shaped r) (inl (h, e)) (s, l, q, f) = absurd (omega arith)
at_most_one inputs text (refused n) (shaped r) (inr (h, p)) (s, l, q, f) = let e = runs-once inputs inputs.plan _ _ _ p q in cc
at_most_one inputs text (shaped r) (refused n) (s, l, q, f) (inl (h, e)) = absurd (omega arith)
at_most_one inputs text (shaped r) (refused n) (s, l, q, f) (inr (h, p)) = let e = runs-once inputs inputs.plan _ _ _ p q in cc
at_most_one inputs text (shaped r) (shaped r') (s, h, p, e) (s', l, q, f) =
    let same : s ≡ s' = accepted-one s s' (runs-once inputs inputs.plan _ _ _ p q) in
    ap shaped (e ∙ ap (result (length text)) same ∙ sym f)

pub always : AlwaysAnOutcome
always inputs text = by (cases_lt inputs.room (length text))
  where
    found : length text ≤ inputs.room → (z : Ending) → Runs inputs inputs.plan (start inputs.font text) z → (o : Outcome) × Shapes inputs text o
    found h (accepted s) p = (shaped (result (length text) s), (s, h, p, refl))
    found h (stopped n) p = (refused n, inr (h, p))

    by : (inputs.room < length text) ⊎ (length text ≤ inputs.room) → (o : Outcome) × Shapes inputs text o
    by (inl h) = (refused 8, inl (h, refl))
    by (inr h) = let r = runs-total inputs inputs.plan (start inputs.font text) in found h r.0 r.1

module _ (inputs : Inputs) (text : List ℕ) (s : State) (p : Runs inputs inputs.plan (start inputs.font text) (accepted s)) where
  -- what each change keeps
  abbrev kept : (I : State → Type 0) → ((p : ℕ) (s s' : State) → Strike inputs p s s' → I s → I s') → I (start inputs.font text) → I s
  kept I each h = runs-keep inputs I each inputs.plan (start inputs.font text) (accepted s) p h

  pub state-below : Clusters (λ c. c < length text) s.run
  state-below = kept (λ u. Clusters (λ c. c < length text) u.run) (strike-in (λ c. c < length text) inputs) (laid_in inputs.font 0 (length text) text (omega arith))

  pub state-past : (c : ℕ) → length text ≤ c → s.tied c ≡ false
  state-past c l =
      (kept (λ u. Clusters (λ q. q < length text) u.run × (u.tied c ≡ false)) (strike-past inputs (length text) c l) (laid_in inputs.font 0 (length text) text (omega arith), refl)).1

  pub state-rising : Rising s.run
  state-rising = kept (λ u. Rising u.run) (strike-rising inputs) (laid-rising inputs.font 0 text)

  state-hits : s.hits ≤ inputs.limit
  state-hits = kept (λ u. u.hits ≤ inputs.limit) (λ p u u' k h. (strike-hits inputs p u u' k).1) zero-le

  state-room : length text ≤ inputs.room → length s.run ≤ inputs.room
  state-room h = kept (λ u. length u.run ≤ inputs.room) (λ p u u' k h. strike-room inputs p u u' k) (subst (λ n. n ≤ inputs.room) (sym (length-laid inputs.font 0 text)) h)

pub clusters-rise : ClustersRise
clusters-rise inputs text r (s, h, p, e) =
    subst (λ u. Rising u.run × AllByRecursion (λ g. g.cluster < length text) u.run) (sym e) (state-rising inputs text s p, state-below inputs text s p)

pub limits-hold : LimitsHold
limits-hold inputs text r (s, h, p, e) =
    subst (λ u. (u.hits ≤ inputs.limit) × (length u.run ≤ inputs.room) × (length u.marks ≡ length text)) (sym e)
    (state-hits inputs text s p, state-room inputs text s p h, length-marks s 0 (length text))

pub refusals-are-two : RefusalsAreTwo
refusals-are-two inputs text n (inl (h, e)) = inr e
refusals-are-two inputs text n (inr (h, p)) = runs-keep inputs (λ u. Unit {0}) (λ p u u' k h. tt) inputs.plan (start inputs.font text) (stopped n) p tt

pub ties-stay : TiesStay
ties-stay = (by-attempt, λ inputs x s s' c p h. sweeps-keep inputs (λ u. u.tied c ≡ true) (strike-tied inputs c) x s (accepted s') p h)
  where
    by-attempt : (inputs : Inputs) (depth alternate l p : ℕ) (s s' : State) (e : ℕ) (es : List Edit) (c : ℕ) → attempt inputs depth alternate l p s ≡ hit s' e es → s.tied c ≡ true → s'.tied c ≡ true
    by-attempt inputs d alt l p s s' e es c q h = subst (AttemptKeeps inputs (λ u. u.tied c ≡ true) (strike-tied inputs c)) q (attempt-keeps inputs (λ u. u.tied c ≡ true) (strike-tied inputs c) d alt l p s h)
