-- Every text has an outcome: a hit raises the hits, which the limit bounds, and a miss leaves one glyph less.
use Rattle.std.proofs.Common.{◌≡◌, ℕ, zero, suc, ◌+◌, ◌<◌, ◌≤◌, Bool, true, false, cond, ltb, List, [], ◌∷◌, length, refl, inl, inr, arith}
use Rattle.std.proofs.lemmas.Bool.{ltb-true}
use Rattle.model.specs.declared.Entry.{Entry}
use Rattle.model.specs.Shaping.{Attempt, Ending, Inputs, Pass, Runs, State, Sweeps, accepted, attempt, back_pass, barred, ends, hit, hits, miss, misses, planned, stopped, stops}
use Rattle.model.proofs.Chain.{Makes, attempt-makes, chain-keeps}
use Rattle.model.proofs.Plans.{strike-hits}

-- more hits, within the limit
abbrev pub Climbs : Inputs → State → Attempt → Type 0
Climbs inputs s miss = Unit {0}
Climbs inputs s (barred n) = Unit {0}
Climbs inputs s (hit s' e es) = (s.hits < s'.hits) × (s'.hits ≤ inputs.limit)

makes-climbs : (inputs : Inputs) (p : ℕ) (s : State) (o : Attempt) → Makes inputs p s o → Climbs inputs s o
makes-climbs inputs p s miss m = tt
makes-climbs inputs p s (barred n) m = tt
makes-climbs inputs p s (hit s' e es) (s₁, k, c, v, i) =
    chain-keeps inputs (λ u. (s.hits < u.hits) × (u.hits ≤ inputs.limit)) (λ q u u' k h. let more = strike-hits inputs q u u' k in (omega arith, more.1)) c (strike-hits inputs p s s₁ k)

pub attempt-climbs : (inputs : Inputs) (d alt l p : ℕ) (s : State) → Climbs inputs s (attempt inputs d alt l p s)
attempt-climbs inputs d alt l p s = makes-climbs inputs p s (attempt inputs d alt l p s) (attempt-makes inputs d alt l p s)

module _ (inputs : Inputs) (x : Entry) where
  abbrev Ends : ℕ → State → Type 0
  Ends i s = (z : Ending) × Pass inputs x i s z

  by-attempt : (i : ℕ) (s : State) (t : Bool) (o : Attempt) → ltb i (length s.run) ≡ t → planned inputs x i s ≡ o → Climbs inputs s o → (i < length s.run → Ends (suc i) s) → ((e : ℕ) (s' : State) → s.hits < s'.hits → s'.hits ≤ inputs.limit → Ends e s') → Ends i s
  by-attempt i s false o e f c m h = (accepted s, ends e refl)
  by-attempt i s true miss e f c m h = let r = m (ltb-true i (length s.run) e) in (r.0, misses e f r.1)
  by-attempt i s true (barred n) e f c m h = (stopped n, stops e f refl)
  by-attempt i s true (hit s' j es) e f c m h = let r = h j s' c.0 c.1 in (r.0, hits e f r.1)

  one : (s : State) (i : ℕ) → ((e : ℕ) (s' : State) → s.hits < s'.hits → s'.hits ≤ inputs.limit → Ends e s') → (i < length s.run → Ends (suc i) s) → Ends i s
  one s i h m =
      by-attempt i s (ltb i (length s.run)) (planned inputs x i s) refl refl (attempt-climbs inputs 6 x.alternate x.lookup i s) m h

  -- with k glyphs left, where a state with more hits has an ending
  glyphs-left : (s : State) → ((e : ℕ) (s' : State) → s.hits < s'.hits → s'.hits ≤ inputs.limit → Ends e s') → (k i : ℕ) → length s.run ≤ i + k → Ends i s
  glyphs-left s h zero i l = one s i h (λ m. absurd (omega arith))
  glyphs-left s h (suc k) i l = one s i h (λ m. glyphs-left s h k (suc i) (omega arith))

  hits-left : (n : ℕ) (i : ℕ) (s : State) → inputs.limit ≤ s.hits + n → Ends i s
  hits-left zero i s l = glyphs-left s (λ e s' a b. absurd (omega arith)) (length s.run) i (omega arith)
  hits-left (suc n) i s l = glyphs-left s (λ e s' a b. hits-left n e s' (omega arith)) (length s.run) i (omega arith)

  sweeps-total : (s : State) → (z : Ending) × Sweeps inputs x s z
  sweeps-total s = by (inputs.table x.lookup).backward
    where
      by : (t : Bool) → (z : Ending) × cond t (z ≡ back_pass inputs x (length s.run) s) (Pass inputs x 0 s z)
      by true = (back_pass inputs x (length s.run) s, refl)
      by false = hits-left inputs.limit 0 s (omega arith)

pub runs-total : (inputs : Inputs) (plan : List Entry) (s : State) → (z : Ending) × Runs inputs plan s z
runs-total inputs [] s = (accepted s, refl)
runs-total inputs (x ∷ plan) s = by (sweeps-total inputs x s).0 (sweeps-total inputs x s).1 (runs-total inputs plan)
  where
    by : (z : Ending) → Sweeps inputs x s z → ((s' : State) → (z' : Ending) × Runs inputs plan s' z') → (z' : Ending) × Runs inputs (x ∷ plan) s z'
    by (accepted s') p f = let r = f s' in (r.0, inl (s', p, r.1))
    by (stopped n) p f = (stopped n, inr (n, p, refl))
