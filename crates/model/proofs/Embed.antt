-- An attempt inside a longer run is the attempt on the part, unless it ties the cut.
use Rattle.std.proofs.Common.{◌≡◌, ℕ, zero, suc, ◌+◌, ◌-◌, ◌<◌, ◌≤◌, Bool, true, false, cond, ◌&&◌, ◌||◌, ltb, leb, ◌⊎◌, List, [], ◌∷◌, ◌++◌, map, reverse, length, take, drop, sym, refl, ap, ◌∙◌, subst, ap₂, subst₂, inl, inr, zero-le, add-suc, arith, length-drop}
use mathlib.Core.Path.{fun_ext}
use mathlib.Core.Bool.{or-false}
use mathlib.Core.List.{map-append}
use mathlib.Core.Option
use mathlib.Core.Option.{Option, none, some}
use lib.ListN.{get_elem?}
use Rattle.std.proofs.lemmas.List.{length-append, length-map}
use Rattle.std.proofs.ByRecursion.{All-drop, All-take}
use Rattle.std.proofs.lemmas.Bool.{le-leb, leb-false, leb-true, lt-ltb, ltb-false, ltb-true, or_parts}
use Rattle.model.specs.declared.Glyph.{Glyph}
use Rattle.model.specs.Lookups.{Action, Candidate, Lookup, LookupRecord, Match, Met, choose, join, nest, passes_over, put}
use Rattle.model.specs.Edits.{Edit, Frame, edits, frame_at, told}
use Rattle.model.specs.Shaping.{Attempt, Inputs, State, Try, answer, applied, at_index, attempt, barred, finish, hit, miss, records, struck, tie, try_on}
use Rattle.model.specs.Laws.{raise}
use Rattle.model.proofs.Seek.{Clusters, Good, raise_met}
use Rattle.model.proofs.Choose.{Above, Below, Cross, Crosses, choose-same, raise_match}
use Rattle.model.proofs.Shift.{edits-shift, frame-shift, index-shift, shift_edit, shift_frame, told-shift}
use Rattle.model.proofs.Change.{all-reverse, before-whole, changed-whole, drop-whole, whole}
use Rattle.model.proofs.Frames.{FrameIn, Valid, edits-valid, frame-in, frame-weaker, index_in, told_in, valid-weaker}
use Rattle.model.proofs.Chain.{GoodMatch, TryMakes, attempt-makes, choose-good, finish-comes, inner, inner-makes, next-drop, records-comes}
use Rattle.model.proofs.Keeps.{Calm, Kept, changed-in, comes-calm, makes_kept}

abbrev pub inside : ℕ → ℕ → (ℕ → Bool) → (ℕ → Bool) → ℕ → Bool
inside a n outer t b = cond (leb a b && ltb b (a + n)) (t (b - a)) (outer b)

low-in : (a lo b : ℕ) → a ≤ b → ltb (a + lo) b ≡ ltb lo (b - a)
low-in a lo b h = grind arith

high-in : (a hi b : ℕ) → a ≤ b → leb b (a + hi) ≡ leb (b - a) hi
high-in a hi b h = grind arith

past : (a n lo hi b : ℕ) → hi < n → a + n ≤ b → ltb (a + lo) b && leb b (a + hi) ≡ false
past a n lo hi b h k = grind arith

before : (a lo hi b : ℕ) → b < a → ltb (a + lo) b && leb b (a + hi) ≡ false
before a lo hi b k = grind arith

tie-inside : (a n lo hi : ℕ) (outer t : ℕ → Bool) → hi < n → tie (a + lo) (a + hi) (inside a n outer t) ≡ inside a n outer (tie lo hi t)
tie-inside a n lo hi outer t h = fun_ext (λ b. by b (leb a b) (ltb b (a + n)) refl refl)
  where
    by : (b : ℕ) (u v : Bool) → leb a b ≡ u → ltb b (a + n) ≡ v → (cond (u && v) (t (b - a)) (outer b) || (ltb (a + lo) b && leb b (a + hi))) ≡ cond (u && v) (t (b - a) || (ltb lo (b - a) && leb (b - a) hi)) (outer b)
    by b true true e f = let at : a ≤ b = leb-true a b e in rw (low-in a lo b at, high-in a hi b at)
    by b true false e f = rw (past a n lo hi b h (ltb-false b (a + n) f)) (or-false (outer b))
    by b false v e f = rw (before a lo hi b (leb-false a b e)) (or-false (outer b))

-- a match, by the tests of the hit limit and of the room
abbrev limits : Bool → Bool → Attempt → Attempt
limits t u o = cond t (cond u o (barred 8)) (barred 7)

limits-calm : (cut : ℕ) (t u : Bool) (o : Attempt) → Calm cut (limits t u o) → Calm cut o
limits-calm cut false u o c = absurd c
limits-calm cut true false o c = absurd c
limits-calm cut true true o c = c

crossed : (lo hi cut : ℕ) → (lo < cut) × (cut ≤ hi) → ltb lo cut && leb cut hi ≡ false → ⊥
crossed lo hi cut x e = grind arith

module _ (a n cut base : ℕ) (xs ys : List Glyph) (outer : ℕ → Bool) (below : Clusters (Below a cut) xs) (above : Clusters (Above (a + n) cut) ys) where
  abbrev pub embed : State → State
  embed s = record { run = whole a xs ys s.run; tied = inside a n outer s.tied; hits = base + s.hits }

  abbrev pub shifted : Attempt → Attempt
  shifted miss = miss
  shifted (barred k) = barred k
  shifted (hit s e es) = hit (embed s) (length xs + e) (map (shift_edit (length xs)) es)

  struck-embed : (m : Match) (i : ℕ) (s : State) → i < length s.run → m.own < n → m.hi < n → Good (λ p. p < n) m.others (drop (suc i) s.run) → struck (raise_match a m) (length xs + i) (embed s) ≡ embed (struck m i s)
  struck-embed m i s h k l g = λ j. record {
    run = changed-whole a xs ys n cut below above m.action m.own m.others i s.run h k g j;
    tied = tie-inside a n m.lo m.hi outer s.tied l j;
    hits = sym (add-suc base s.hits) j;
  }

  -- the attempt in the whole, and in the part
  abbrev pub Local : Try → Type 0
  Local try = (l i : ℕ) (s : State) → i < length s.run → Clusters (λ p. p < n) s.run → Calm cut (try l (length xs + i) (embed s)) → try l (length xs + i) (embed s) ≡ shifted (try l i s)

  -- a match that is allowed in the whole is allowed in the part
  limits-same : (t u t' u' : Bool) (o o' : Attempt) → (t ≡ true → t' ≡ true) → (u ≡ true → u' ≡ true) → (Calm cut o → o ≡ shifted o') → Calm cut (limits t u o) → limits t u o ≡ shifted (limits t' u' o')
  limits-same false u t' u' o o' f g h c = absurd c
  limits-same true false t' u' o o' f g h c = absurd c
  limits-same true true false u' o o' f g h c = let e = f refl in cc
  limits-same true true true false o o' f g h c = let e = g refl in cc
  limits-same true true true true o o' f g h c = h c

  pub cond_same : (b : Bool) (o o' : Attempt) → (Calm cut o → o ≡ shifted o') → Calm cut (cond b miss o) → cond b miss o ≡ shifted (cond b miss o')
  cond_same true o o' h c = refl
  cond_same false o o' h c = h c

  module _ (inputs : Inputs) (try : Try) (near : Local try) (makes : TryMakes inputs try) where
    index_same : (l : ℕ) (o : Option ℕ) (s : State) → ((q : ℕ) → o ≡ some q → q < length s.run) → Clusters (λ p. p < n) s.run → Calm cut (at_index try l (Option.map (λ p. length xs + p) o) (embed s)) → at_index try l (Option.map (λ p. length xs + p) o) (embed s) ≡ shifted (at_index try l o s)
    index_same l none s h k c = refl
    index_same l (some q) s h k c = near l q s (h q refl) k c

    index_kept : (l : ℕ) (o : Option ℕ) (s : State) → Clusters (λ p. p < n) s.run → Kept n s (at_index try l o s)
    index_kept l none s h = tt
    index_kept l (some q) s h = makes_kept inputs n q s (try l q s) h (makes l q s)

    -- what comes after a nested attempt
    then_same : (s : State) (o o₁ o₂ : Attempt) (k₁ k₂ : State → ℕ → List Edit → Attempt) → (Calm cut o₁ → o₁ ≡ shifted o₂) → Calm cut (answer (shifted o) o₁ barred k₁) → Kept n s o → ((s' : State) (e : ℕ) (es : List Edit) → Clusters (λ p. p < n) s'.run → Valid 0 es (length s.run) (length s'.run) → Calm cut (k₁ (embed s') (length xs + e) (map (shift_edit (length xs)) es)) → k₁ (embed s') (length xs + e) (map (shift_edit (length xs)) es) ≡ shifted (k₂ s' e es)) → answer (shifted o) o₁ barred k₁ ≡ shifted (answer o o₂ barred k₂)
    then_same s miss o₁ o₂ k₁ k₂ f c k g = f c
    then_same s (barred x) o₁ o₂ k₁ k₂ f c k g = refl
    then_same s (hit s' e es) o₁ o₂ k₁ k₂ f c k g = g s' e es k.0 k.1 c

    -- if all ends calm, so did the nested attempt
    then-calm : (o o₁ : Attempt) (k : State → ℕ → List Edit → Attempt) → ((s' : State) (e : ℕ) (es : List Edit) → Calm cut (k s' e es) → s'.tied cut ≡ false) → Calm cut (answer o o₁ barred k) → Calm cut o
    then-calm miss o₁ k g c = tt
    then-calm (barred x) o₁ k g c = c
    then-calm (hit s' e es) o₁ k g c = g s' e es c

    records-same : (rs : List LookupRecord) (f : Frame) (es : List Edit) (s : State) → Clusters (λ p. p < n) s.run → FrameIn 0 (length s.run) f → Calm cut (records try rs (shift_frame (length xs) f) (map (shift_edit (length xs)) es) (embed s)) → records try rs (shift_frame (length xs) f) (map (shift_edit (length xs)) es) (embed s) ≡ shifted (records try rs f es s)
    records-same [] f es s h i c = refl
    records-same (r ∷ rs) f es s h i c =
        let o_w : Attempt = at_index try r.lookup (Option.map (λ p. length xs + p) (get_elem? f.positions r.index)) (embed s) in
        let o_m : Attempt = at_index try r.lookup (get_elem? f.positions r.index) s in
        let a_w : Attempt = records try rs (shift_frame (length xs) f) (map (shift_edit (length xs)) es) (embed s) in
        let k_w : State → ℕ → List Edit → Attempt = λ s' e es'. records try rs (told es' (shift_frame (length xs) f)) (map (shift_edit (length xs)) es ++ es') s' in
        let c₁ : Calm cut (answer o_w a_w barred k_w) = rw (index-shift (length xs) f.positions r.index) at c in
        let calm : Calm cut o_w = then-calm o_w a_w k_w (λ s' e es'. comes-calm inputs ⊥ cut 0 0 s' (k_w s' e es') (records-comes inputs try makes ⊥ 0 0 rs (told es' (shift_frame (length xs) f)) (map (shift_edit (length xs)) es ++ es') s' (λ v. absurd v))) c₁ in
        let same : o_w ≡ shifted o_m = index_same r.lookup (get_elem? f.positions r.index) s (λ q e. (index_in 0 (length s.run) f.positions r.index q i.0 e).1) h calm in
        rw (index-shift (length xs) f.positions r.index, same)
        (then_same s o_m a_w (records try rs f es s) k_w (λ s' e es'. records try rs (told es' f) (es ++ es') s')
        (records-same rs f es s h i)
        (subst (λ o. Calm cut (answer o a_w barred k_w)) same c₁)
        (index_kept r.lookup (get_elem? f.positions r.index) s h)
        (λ s' e es' h' v'.
        subst₂ (λ F E. Calm cut (records try rs F E (embed s')) → records try rs F E (embed s') ≡ shifted (records try rs (told es' f) (es ++ es') s'))
        (sym (told-shift (length xs) es' f)) (map-append _ es es')
        (records-same rs (told es' f) (es ++ es') s' h' (told_in 0 es' (length s.run) (length s'.run) f v' i))))

    hit_same : (x : Action) (ms : List Met) (i : ℕ) (s : State) → hit (embed s) (told (edits x (map (raise_met a) ms) (length xs + i)) (frame_at (length xs + i) (map (raise_met a) ms))).«end» (edits x (map (raise_met a) ms) (length xs + i)) ≡ shifted (hit s (told (edits x ms i) (frame_at i ms)).«end» (edits x ms i))
    hit_same x ms i s =
        let all = ap₂ told (edits-shift (length xs) a x ms i) (frame-shift (length xs) a i ms) ∙ told-shift (length xs) (edits x ms i) (frame_at i ms) in
        ap₂ (hit (embed s)) (ap (λ f. f.«end») all) (edits-shift (length xs) a x ms i)

    finish-same : (x : Action) (ms : List Met) (i from : ℕ) (s : State) → Clusters (λ p. p < n) s.run → FrameIn 0 from (frame_at i ms) → Valid 0 (edits x ms i) from (length s.run) → Calm cut (finish try x (map (raise_met a) ms) (length xs + i) (embed s)) → finish try x (map (raise_met a) ms) (length xs + i) (embed s) ≡ shifted (finish try x ms i s)
    finish-same (put ns) ms i from s h f v c = hit_same (put ns) ms i s
    finish-same (join m) ms i from s h f v c = hit_same (join m) ms i s
    finish-same (nest rs) ms i from s h f v c =
        subst (λ F. Calm cut (records try rs F [] (embed s)) → records try rs F [] (embed s) ≡ shifted (records try rs (frame_at i ms) [] s)) (sym (frame-shift (length xs) a i ms))
        (records-same rs (frame_at i ms) [] s h (subst (λ u. FrameIn 0 u (frame_at i ms)) v f)) c

    -- the match of the part, found in the whole
    strike-same : (m : Match) (i : ℕ) (s : State) → i < length s.run → Clusters (λ p. p < n) s.run → m.own < n → m.hi < n → Good (λ p. p < n) m.others (drop (suc i) s.run) → Calm cut (applied inputs try (some (raise_match a m)) (length xs + i) (embed s)) → applied inputs try (some (raise_match a m)) (length xs + i) (embed s) ≡ shifted (applied inputs try (some m) i s)
    strike-same m i s h k own hi g =
        subst (λ S. Calm cut (limits (ltb (base + s.hits) inputs.limit) (leb (length S.run) inputs.room) (finish try m.action (map (raise_met a) m.others) (length xs + i) S)) → limits (ltb (base + s.hits) inputs.limit) (leb (length S.run) inputs.room) (finish try m.action (map (raise_met a) m.others) (length xs + i) S) ≡ shifted (applied inputs try (some m) i s))
        (sym (struck-embed m i s h own hi g))
        (limits-same (ltb (base + s.hits) inputs.limit) (leb (length (embed (struck m i s)).run) inputs.room) (ltb s.hits inputs.limit) (leb (length (struck m i s).run) inputs.room) (finish try m.action (map (raise_met a) m.others) (length xs + i) (embed (struck m i s))) (finish try m.action m.others i (struck m i s))
        (λ e. lt-ltb _ _ (fewer (ltb-true _ _ e)))
        (λ e. le-leb _ _ (shorter (struck m i s).run (leb-true _ _ e)))
        (finish-same m.action m.others i (length s.run) (struck m i s)
        (changed-in (λ p. p < n) m.action m.own m.others i s.run own k)
        (frame-weaker i (length s.run) (frame_at i m.others) (frame-in (λ p. p < n) i m.others s.run h g))
        (valid-weaker 0 i (edits m.action m.others i) _ _ zero-le (edits-valid (λ p. p < n) m.action m.own m.others i s.run h g))))
      where
        fewer : base + s.hits < inputs.limit → s.hits < inputs.limit
        fewer e = omega arith

        shorter : (r : List Glyph) → length (whole a xs ys r) ≤ inputs.room → length r ≤ inputs.room
        shorter r e = omega (arith, simp (length-append, length-map) at e)

    -- a match across the cut ties it
    crossing : (m : Match) (i : ℕ) (s : State) → Crosses cut m → Calm cut (applied inputs try (some m) i s) → ⊥
    crossing m i s x c =
        let after = finish-comes inputs try makes ⊥ m.action m.others i 0 (struck m i s) (λ v. absurd v) in
        let free = comes-calm inputs ⊥ cut i 0 (struck m i s) (finish try m.action m.others i (struck m i s)) after (limits-calm cut (ltb s.hits inputs.limit) (leb (length (struck m i s).run) inputs.room) _ c) in
        crossed m.lo m.hi cut x (or_parts (s.tied cut) _ free).1

    applied-same : (own : ℕ) (o o' : Option Match) (i : ℕ) (s : State) → i < length s.run → Clusters (λ p. p < n) s.run → own < n → GoodMatch (λ p. p < n) own (drop (suc i) s.run) o → Cross cut o' ⊎ (o' ≡ Option.map (raise_match a) o) → Calm cut (applied inputs try o' (length xs + i) (embed s)) → applied inputs try o' (length xs + i) (embed s) ≡ shifted (applied inputs try o i s)
    applied-same own o none i s h k l g (inl x) c = absurd x
    applied-same own o (some m) i s h k l g (inl x) c = absurd (crossing m (length xs + i) (embed s) x c)
    applied-same own none o' i s h k l g (inr e) c = rw e
    applied-same own (some m) o' i s h k l g (inr e) c = rw e (strike-same m i s h k (subst (λ u. u < n) (sym g.0) l) g.2 g.3 (rw e at c))

    on_same : (k : Lookup) (alt i : ℕ) (s : State) (rest : List Glyph) → i < length s.run → Clusters (λ p. p < n) s.run → Clusters (λ p. p < n) rest → drop i s.run ≡ rest → Calm cut (try_on inputs try k alt (map (raise a) (reverse (take i s.run)) ++ reverse xs) (map (raise a) rest ++ ys) (length xs + i) (embed s)) → try_on inputs try k alt (map (raise a) (reverse (take i s.run)) ++ reverse xs) (map (raise a) rest ++ ys) (length xs + i) (embed s) ≡ shifted (try_on inputs try k alt (reverse (take i s.run)) rest i s)
    on_same k alt i s [] h p q e c = absurd (omega (arith, simp length-drop at (ap length e)))
    on_same k alt i s (g ∷ after) h p q e c =
        let skips : ℕ → Bool = passes_over inputs.font k in
        let cs : List Candidate = k.candidates alt g.glyph in
        let in-before : Clusters (λ p. p < n) (reverse (take i s.run)) = all-reverse _ (take i s.run) (All-take _ i s.run p) in
        cond_same (skips g.glyph) _ _
        (applied-same g.cluster (choose skips cs (reverse (take i s.run)) g.cluster after) _ i s h p q.0
        (subst (λ u. GoodMatch (λ p. p < n) g.cluster u (choose skips cs (reverse (take i s.run)) g.cluster after)) (sym (next-drop s.run i g after e)) (choose-good (λ p. p < n) skips cs (reverse (take i s.run)) g.cluster after q.0 in-before q.1))
        (choose-same skips a n cut (reverse xs) ys (all-reverse _ xs below) above (reverse (take i s.run)) after g.cluster in-before q.1 q.0 cs))
        c

    at_same : (k : Lookup) (alt i : ℕ) (s : State) → i < length s.run → Clusters (λ p. p < n) s.run → Calm cut (try_on inputs try k alt (reverse (take (length xs + i) (embed s).run)) (drop (length xs + i) (embed s).run) (length xs + i) (embed s)) → try_on inputs try k alt (reverse (take (length xs + i) (embed s).run)) (drop (length xs + i) (embed s).run) (length xs + i) (embed s) ≡ shifted (try_on inputs try k alt (reverse (take i s.run)) (drop i s.run) i s)
    at_same k alt i s h p =
        subst₂ (λ B R. Calm cut (try_on inputs try k alt B R (length xs + i) (embed s)) → try_on inputs try k alt B R (length xs + i) (embed s) ≡ shifted (try_on inputs try k alt (reverse (take i s.run)) (drop i s.run) i s))
        (sym (before-whole a xs ys i s.run (omega arith))) (sym (drop-whole a xs ys i s.run (omega arith)))
        (on_same k alt i s (drop i s.run) h p (All-drop _ i s.run p) refl)

  -- the attempt in the whole is the attempt in the part
  pub attempt-local : (inputs : Inputs) (d alt : ℕ) → Local (attempt inputs d alt)
  attempt-local inputs zero alt l i s h p c = refl
  attempt-local inputs (suc d) alt l i s h p c =
      at_same inputs (inner inputs (attempt inputs d alt))
      (λ l' i' s' h' p' c'. cond_same (inputs.table l').backward _ _ (attempt-local inputs d alt l' i' s' h' p') c')
      (inner-makes inputs (attempt inputs d alt) (attempt-makes inputs d alt))
      (inputs.table l) alt i s h p c
