-- Passes and plans, a step at a time.
use Rattle.std.proofs.Common.{◌≡◌, ℕ, suc, ◌+◌, ◌-◌, ◌*◌, ◌<◌, ◌≤◌, true, false, ltb, List, [], ◌∷◌, length, drop, Some, None, Option, Ok, Err, refl, sym, ap, ◌∙◌, subst, inl, inr, arith}
use Rattle.std.proofs.Math.Nat.{mul-le-mul_right, suc-mul}
use Rattle.std.proofs.lemmas.List.{drop_all}
use Rattle.model.specs.declared.Entry.{Entry}
use Rattle.model.specs.Edits.{Frame}
use Rattle.model.specs.Shaping.{Attempt, Ending, Inputs, Pass, Runs, State, Sweeps, accepted, answer, attempt, back_pass, barred, ends, hit, hits, miss, misses, planned, stopped, stops}
use Rattle.model.proofs.Chain.{Strike}
use Rattle.model.proofs.Keeps.{strike-in}
use Rattle.model.proofs.Plans.{AttemptKeeps, attempt-keeps, strike-room, sweeps-keep}
use Rattle.model.proofs.Rises.{strike-rising}
use Rattle.model.proofs.Total.{Climbs, attempt-climbs}
use Rattle.shaping.specs.declared.stop.Stop.{Stop}
use Rattle.shaping.specs.Attempts.{Comes, Ready, stop_number}

-- Where a pass goes on after an attempt at position i.
abbrev pub next : (i : ℕ) → Option ℕ → ℕ
next i None = i + 1
next i (Some e) = e

module _ (inputs : Inputs) (n : ℕ) where
  each : (q : ℕ) (a b : State) → Strike inputs q a b → Ready n a → Ready n b
  each q a b k r = (strike-rising inputs q a b k r.0, strike-in (λ c. c < n) inputs q a b k r.1)

  -- what each change keeps, an attempt keeps
  ready-by : (d alt l p : ℕ) (s : State) → Ready n s → (o : Attempt) → attempt inputs d alt l p s ≡ o → (s' : State) (fs fs' : List Frame) (w : Option ℕ) → Comes o s fs (Ok w) s' fs' → Ready n s'
  ready-by d alt l p s h miss e s' fs fs' w (r, t, u) = subst (Ready n) (sym t) h
  ready-by d alt l p s h (barred k) e s' fs fs' w (stop, r, t) = absurd cc
  ready-by d alt l p s h (hit t x es) e s' fs fs' w (r, v, u) =
      let kept = attempt-keeps inputs (Ready n) each d alt l p s h in
      subst (Ready n) (sym v) (subst (AttemptKeeps inputs (Ready n) each) e kept)

  pub ready-on : (d alt l p : ℕ) (s : State) → Ready n s → (s' : State) (fs fs' : List Frame) (w : Option ℕ) → Comes (attempt inputs d alt l p s) s fs (Ok w) s' fs' → Ready n s'
  ready-on d alt l p s h s' fs fs' w c = ready-by d alt l p s h (attempt inputs d alt l p s) refl s' fs fs' w c

  pub ready-swept : (x : Entry) (s s' : State) → Sweeps inputs x s (accepted s') → Ready n s → Ready n s'
  ready-swept x s s' p h = sweeps-keep inputs (Ready n) each x s (accepted s') p h

-- no match is open before or after an attempt of a plan
pub none-open : (o : Attempt) (s s' : State) (fs' : List Frame) (w : Option ℕ) → Comes o s [] (Ok w) s' fs' → fs' ≡ []
none-open miss s s' fs' w (r, t, u) = u
none-open (barred k) s s' fs' w (stop, r, t) = absurd cc
none-open (hit t x es) s s' fs' w (r, v, u) = u

-- a pass goes on, or has more hits, within the limit
pub goes-on : (inputs : Inputs) (d alt l p : ℕ) (s : State) (fs : List Frame) (s' : State) (fs' : List Frame) (e : ℕ) → Comes (attempt inputs d alt l p s) s fs (Ok (Some e)) s' fs' → (s.hits < s'.hits) × (s'.hits ≤ inputs.limit)
goes-on inputs d alt l p s fs s' fs' e = by (attempt inputs d alt l p s) (attempt-climbs inputs d alt l p s)
  where
    by : (o : Attempt) → Climbs inputs s o → Comes o s fs (Ok (Some e)) s' fs' → (s.hits < s'.hits) × (s'.hits ≤ inputs.limit)
    by miss c (r, t, u) = absurd cc
    by (barred k) c (stop, r, t) = absurd cc
    by (hit t x es) c (r, v, u) = subst (λ q. (s.hits < q.hits) × (q.hits ≤ inputs.limit)) (sym v) c

pub stays : (o : Attempt) (s : State) (fs : List Frame) (s' : State) (fs' : List Frame) → Comes o s fs (Ok None) s' fs' → s' ≡ s
stays miss s fs s' fs' (r, t, u) = t
stays (barred k) s fs s' fs' (stop, r, t) = absurd cc
stays (hit t x es) s fs s' fs' (r, v, u) = absurd cc

module _ (inputs : Inputs) (x : Entry) (s₀ : State) where
  -- what comes of the rest of a forward pass comes of the whole
  abbrev pub Onward : (i : ℕ) → State → Type 0
  Onward i s = (z : Ending) → Pass inputs x i s z → Pass inputs x 0 s₀ z

  module _ (i : ℕ) (s : State) (on : Onward i s) where
    pub onward-ends : ltb i (length s.run) ≡ false → Pass inputs x 0 s₀ (accepted s)
    onward-ends e = on (accepted s) (ends e refl)

    module _ (more : ltb i (length s.run) ≡ true) (fs : List Frame) (s' : State) (fs' : List Frame) where
      onward-by : (w : Option ℕ) (o : Attempt) → planned inputs x i s ≡ o → Comes o s fs (Ok w) s' fs' → Onward (next i w) s'
      onward-by None miss e (r, t, u) z p =
          let one : i + 1 ≡ suc i = omega arith in
          on z (misses more e (subst (λ q. Pass inputs x (suc i) q z) t (subst (λ k. Pass inputs x k s' z) one p)))
      onward-by (Some k) miss e (r, t, u) z p = absurd cc
      onward-by w (barred k) e (stop, r, t) z p = absurd cc
      onward-by None (hit t k es) e (r, v, u) z p = absurd cc
      onward-by (Some j) (hit t k es) e (r, v, u) z p =
          let same : j ≡ k = cc in
          on z (hits more e (subst (λ q. Pass inputs x k q z) v (subst (λ q. Pass inputs x q s' z) same p)))

      pub onward : (w : Option ℕ) → Comes (planned inputs x i s) s fs (Ok w) s' fs' → Onward (next i w) s'
      onward w c = onward-by w (planned inputs x i s) refl c

      onward-barred : (stop : Stop) (o : Attempt) → planned inputs x i s ≡ o → Comes o s fs (Err stop) s' fs' → Pass inputs x 0 s₀ (stopped (stop_number stop))
      onward-barred stop miss e (r, t, u) = absurd cc
      onward-barred stop (barred k) e (stop', r, t) =
          let same : stop ≡ stop' = cc in
          on (stopped (stop_number stop)) (stops more e (ap stopped (ap stop_number same ∙ t)))
      onward-barred stop (hit t k es) e (r, v, u) = absurd cc

      pub onward-stops : (stop : Stop) → Comes (planned inputs x i s) s fs (Err stop) s' fs' → Pass inputs x 0 s₀ (stopped (stop_number stop))
      onward-stops stop c = onward-barred stop (planned inputs x i s) refl c

-- a step of a backward pass, from the glyph at position i
module _ (inputs : Inputs) (x : Entry) (z : Ending) (i : ℕ) (s : State) (so_far : z ≡ back_pass inputs x (suc i) s) (fs : List Frame) (s' : State) (fs' : List Frame) where
  abbrev went : Attempt → Ending
  went o = answer o (back_pass inputs x i s) stopped (λ t e es. back_pass inputs x i t)

  back-by : (w : Option ℕ) (o : Attempt) → planned inputs x i s ≡ o → Comes o s fs (Ok w) s' fs' → z ≡ back_pass inputs x i s'
  back-by w miss e (r, t, u) = so_far ∙ ap went e ∙ ap (back_pass inputs x i) (sym t)
  back-by w (barred k) e (stop, r, t) = absurd cc
  back-by w (hit t k es) e (r, v, u) = so_far ∙ ap went e ∙ ap (back_pass inputs x i) (sym v)

  pub back-on : (w : Option ℕ) → Comes (planned inputs x i s) s fs (Ok w) s' fs' → z ≡ back_pass inputs x i s'
  back-on w c = back-by w (planned inputs x i s) refl c

  back-barred : (stop : Stop) (o : Attempt) → planned inputs x i s ≡ o → Comes o s fs (Err stop) s' fs' → z ≡ stopped (stop_number stop)
  back-barred stop miss e (r, t, u) = absurd cc
  back-barred stop (barred k) e (stop', r, t) =
      let same : stop' ≡ stop = cc in
      so_far ∙ ap went e ∙ ap stopped (sym t ∙ ap stop_number same)
  back-barred stop (hit t k es) e (r, v, u) = absurd cc

  pub back-stops : (stop : Stop) → Comes (planned inputs x i s) s fs (Err stop) s' fs' → z ≡ stopped (stop_number stop)
  back-stops stop c = back-barred stop (planned inputs x i s) refl c

-- the pass of an entry, by its direction
pub sweeps-backward : (inputs : Inputs) (x : Entry) (s : State) (z : Ending) → (inputs.table x.lookup).backward ≡ true → z ≡ back_pass inputs x (length s.run) s → Sweeps inputs x s z
sweeps-backward inputs x s z e p = rw e p

pub sweeps-forward : (inputs : Inputs) (x : Entry) (s : State) (z : Ending) → (inputs.table x.lookup).backward ≡ false → Pass inputs x 0 s z → Sweeps inputs x s z
sweeps-forward inputs x s z e p = rw e p

module _ (inputs : Inputs) (plan : List Entry) (s₀ : State) where
  -- what comes of the plan's rest comes of the whole
  abbrev pub Planned : (i : ℕ) → State → Type 0
  Planned i s = (z : Ending) → Runs inputs (drop i plan) s z → Runs inputs plan s₀ z

  module _ (i : ℕ) (s : State) (so_far : Planned i s) where
    pub plan-ends : length plan ≤ i → Runs inputs plan s₀ (accepted s)
    plan-ends h = so_far (accepted s) (subst (λ xs. Runs inputs xs s (accepted s)) (sym (drop_all i plan h)) refl)

    module _ (x : Entry) (is : drop i plan ≡ x ∷ drop (i + 1) plan) where
      pub plan-on : (s' : State) → Sweeps inputs x s (accepted s') → Planned (i + 1) s'
      plan-on s' p z r = so_far z (subst (λ xs. Runs inputs xs s z) (sym is) (inl (s', p, r)))

      pub plan-stops : (n : ℕ) → Sweeps inputs x s (stopped n) → Runs inputs plan s₀ (stopped n)
      plan-stops n p = so_far (stopped n) (subst (λ xs. Runs inputs xs s (stopped n)) (sym is) (inr (n, p, refl)))

-- More hits within the limit make up for any number of glyphs.
pub fewer-left : (limit room h h' b b' : ℕ) → h < h' → h' ≤ limit → b' ≤ room → (limit - h') * (room + 1) + b' < (limit - h) * (room + 1) + b
fewer-left limit room h h' b b' more within few =
    let m = limit - suc h in
    let split : limit - h ≡ suc m = omega arith in
    let under : (limit - h') * (room + 1) ≤ m * (room + 1) = mul-le-mul_right (room + 1) (let le : limit - h' ≤ m = omega arith in le) in
    let whole : (limit - h) * (room + 1) ≡ m * (room + 1) + (room + 1) = ap (λ n. n * (room + 1)) split ∙ suc-mul m (room + 1) in
    omega (arith, under, whole)

-- the room holds what an attempt leaves
pub room-kept : (inputs : Inputs) (d alt l p : ℕ) (s : State) (fs : List Frame) (w : Option ℕ) (s' : State) (fs' : List Frame) → Comes (attempt inputs d alt l p s) s fs (Ok w) s' fs' → length s.run ≤ inputs.room → length s'.run ≤ inputs.room
room-kept inputs d alt l p s fs w s' fs' c h = by (attempt inputs d alt l p s) c (attempt-keeps inputs Fits each-fits d alt l p s h)
  where
    Fits : State → Type 0
    Fits u = length u.run ≤ inputs.room

    each-fits : (q : ℕ) (a b : State) → Strike inputs q a b → Fits a → Fits b
    each-fits q a b k r = strike-room inputs q a b k

    by : (o : Attempt) → Comes o s fs (Ok w) s' fs' → AttemptKeeps inputs Fits each-fits o → length s'.run ≤ inputs.room
    by miss (r, t, u) k = subst (λ q. length q.run ≤ inputs.room) (sym t) h
    by (barred n) (stop, r, t) k = absurd cc
    by (hit t x es) (r, v, u) k = subst (λ q. length q.run ≤ inputs.room) (sym v) k

-- A measure of a pass: the hits that are left, then the glyphs that are left.
abbrev pub left : (limit room : ℕ) → State → (i : ℕ) → ℕ
left limit room s i = (limit - s.hits) * (room + 1) + (length s.run - i)

pub left-missed : (limit room room' i : ℕ) (s s' : State) → s' ≡ s → room' ≡ room → i < length s.run → left limit room' s' (i + 1) < left limit room s i
left-missed limit room room' i s s' e r h =
    let less : left limit room s (i + 1) < left limit room s i = omega (arith, h) in
    subst (λ q. left limit q s' (i + 1) < left limit room s i) (sym r) (subst (λ q. left limit room q (i + 1) < left limit room s i) (sym e) less)

pub left-hit : (limit room room' i e : ℕ) (s s' : State) → room' ≡ room → s.hits < s'.hits → s'.hits ≤ limit → length s'.run ≤ room → left limit room' s' e < left limit room s i
left-hit limit room room' i e s s' r more within fits =
    let few : length s'.run - e ≤ room = omega (arith, fits) in
    subst (λ q. left limit q s' e < left limit room s i) (sym r) (fewer-left limit room s.hits s'.hits (length s.run - i) (length s'.run - e) more within few)
