-- Every attempt that hits is a chain of matches, each with its own change. What each change keeps, an attempt keeps.
use Rattle.std.proofs.Common.{◌≡◌, ℕ, zero, suc, ◌<◌, ◌≤◌, Bool, true, false, cond, ltb, leb, ◌⊎◌, List, [], ◌∷◌, ◌++◌, reverse, length, take, drop, sym, refl, ap, subst, inl, inr, arith, length-drop}
use mathlib.Core.Option.{Option, none, some}
use lib.ListN.{get_elem?}
use Rattle.std.proofs.lemmas.Bool.{leb-true, ltb-true}
use Rattle.model.specs.declared.Glyph.{Glyph}
use Rattle.model.specs.Lookups.{Action, Candidate, Lookup, LookupRecord, Match, Met, choose, join, matched, nest, or_else, passes_over, put, seek}
use Rattle.model.specs.Edits.{Edit, Frame, edits, frame_at, told}
use Rattle.model.specs.Shaping.{Attempt, Inputs, State, Try, answer, applied, at_index, attempt, barred, finish, hit, miss, records, struck, try_on}
use Rattle.model.proofs.Seek.{Clusters, Good, GoodIf, good-far, good-take, seek-good}
use Rattle.model.proofs.Frames.{FrameIn, Valid, edits-valid, frame-in, index_in, told_in, valid-append, valid-weaker}

pub next-drop : (xs : List Glyph) (p : ℕ) (g : Glyph) (after : List Glyph) → drop p xs ≡ g ∷ after → drop (suc p) xs ≡ after
next-drop [] zero g after e = cc
next-drop [] (suc p) g after e = cc
next-drop (x ∷ xs) zero g after e = cc
next-drop (x ∷ xs) (suc p) g after e = next-drop xs p g after e

pub inside-from : (xs : List Glyph) (p : ℕ) (g : Glyph) (after : List Glyph) → drop p xs ≡ g ∷ after → p < length xs
inside-from xs p g after e = omega (arith, simp length-drop at (ap length e))

-- what is chosen has Q wherever all clusters have it
abbrev pub GoodMatch : (ℕ → Type 0) → ℕ → List Glyph → Option Match → Type 0
GoodMatch Q own after none = Unit {0}
GoodMatch Q own after (some m) = (m.own ≡ own) × Q m.lo × Q m.hi × Good Q m.others after

module _ (Q : ℕ → Type 0) where
  matched-good : (c : Candidate) (own : ℕ) (before after : List Glyph) (o o' : Option (List Met)) → Q own → GoodIf Q o after → GoodIf Q o' before → GoodMatch Q own after (matched c own o o')
  matched-good c own before after none o' h g k = tt
  matched-good c own before after (some ms) none h g k = tt
  matched-good c own before after (some ms) (some bs) h g k =
      (refl, good-far Q own bs before h k, good-far Q own ms after h g, good-take Q (length c.pattern.input) ms after g)

  or-good : (own : ℕ) (after : List Glyph) (o o' : Option Match) → GoodMatch Q own after o → GoodMatch Q own after o' → GoodMatch Q own after (or_else o o')
  or-good own after none o' h k = k
  or-good own after (some m) o' h k = h

  pub choose-good : (skips : ℕ → Bool) (cs : List Candidate) (before : List Glyph) (own : ℕ) (after : List Glyph) → Q own → Clusters Q before → Clusters Q after → GoodMatch Q own after (choose skips cs before own after)
  choose-good skips [] before own after h k g = tt
  choose-good skips (c ∷ cs) before own after h k g =
      or-good own after _ _
      (matched-good c own before after (seek skips (c.pattern.input ++ c.pattern.lookahead) after) (seek skips c.pattern.backtrack before) h (seek-good Q skips (c.pattern.input ++ c.pattern.lookahead) after g) (seek-good Q skips c.pattern.backtrack before k))
      (choose-good skips cs before own after h k g)

pub clusters-any : (gs : List Glyph) → Clusters (λ c. Unit {0}) gs
clusters-any [] = tt
clusters-any (g ∷ gs) = (tt, clusters-any gs)

-- a record's attempt: not where the lookup goes backward
abbrev pub inner : Inputs → Try → Try
inner inputs try l p s = cond (inputs.table l).backward miss (try l p s)

-- a match and its own change, at position p
pub record Strike (inputs : Inputs) (p : ℕ) (s s' : State) : Type 0 where
  pub lookup : Lookup
  pub alternate : ℕ
  pub first : Glyph
  pub after : List Glyph
  pub match : Match
  pub rest : drop p s.run ≡ first ∷ after
  pub chosen : choose (passes_over inputs.font lookup) (lookup.candidates alternate first.glyph) (reverse (take p s.run)) first.cluster after ≡ some match
  pub left : s.hits < inputs.limit
  pub fits : length (struck match p s).run ≤ inputs.room
  pub is : s' ≡ struck match p s

pub data Chain (inputs : Inputs) : State → State → Type 0 where
  none_more : {s s' : State} → s ≡ s' → Chain inputs s s'
  more : {s s₁ s' : State} {p : ℕ} → Strike inputs p s s₁ → Chain inputs s₁ s' → Chain inputs s s'

abbrev pub Refusal : ℕ → Type 0
Refusal n = (n ≡ 7) ⊎ (n ≡ 8)

module _ (inputs : Inputs) where
  pub chain-append : {s s' s'' : State} → Chain inputs s s' → Chain inputs s' s'' → Chain inputs s s''
  chain-append {s'' = s''} (none_more e) d = subst (λ u. Chain inputs u s'') (sym e) d
  chain-append (more k c) d = more k (chain-append c d)

  -- what the changes keep
  pub chain-keeps : (I : State → Type 0) → ((p : ℕ) (s s' : State) → Strike inputs p s s' → I s → I s') → {s s' : State} → Chain inputs s s' → I s → I s'
  chain-keeps I f (none_more e) h = subst I e h
  chain-keeps I f (more {s = s} {s₁ = s₁} {p = p} k c) h = chain-keeps I f c (f p s s₁ k h)

  -- What a match comes to after its own change, which left s: a chain of changes; and, where V holds, edits that fit, from a run of a glyphs on.
  abbrev pub Comes : Type 0 → ℕ → ℕ → State → Attempt → Type 0
  Comes V at a s miss = ⊥
  Comes V at a s (barred n) = Refusal n
  Comes V at a s (hit s' e es) = Chain inputs s s' × (V → Valid at es a (length s'.run) × (e ≤ length s'.run))

  -- what an attempt at position p comes to
  abbrev pub Makes : ℕ → State → Attempt → Type 0
  Makes p s miss = Unit {0}
  Makes p s (barred n) = Refusal n
  Makes p s (hit s' e es) = (s₁ : State) × Strike inputs p s s₁ × Chain inputs s₁ s' × Valid p es (length s.run) (length s'.run) × (e ≤ length s'.run)

  abbrev pub TryMakes : Try → Type 0
  TryMakes try = (l p : ℕ) (s : State) → Makes p s (try l p s)

  comes-first : (V : Type 0) (at a : ℕ) (s s' : State) (o : Attempt) → Chain inputs s s' → Comes V at a s' o → Comes V at a s o
  comes-first V at a s s' miss c h = h
  comes-first V at a s s' (barred n) c h = h
  comes-first V at a s s' (hit s'' e es) c h = (chain-append c h.0, h.1)

  cond-makes : (b : Bool) (p : ℕ) (s : State) (o : Attempt) → Makes p s o → Makes p s (cond b miss o)
  cond-makes true p s o h = tt
  cond-makes false p s o h = h

  pub inner-makes : (try : Try) → TryMakes try → TryMakes (inner inputs try)
  inner-makes try h l p s = cond-makes (inputs.table l).backward p s (try l p s) (h l p s)

  module _ (try : Try) (makes : TryMakes try) where
    pub index-makes : (V : Type 0) (at l : ℕ) (o : Option ℕ) (s : State) → ((q : ℕ) → o ≡ some q → V → at ≤ q) → (q : ℕ) × (V → at ≤ q) × Makes q s (at_index try l o s)
    index-makes V at l none s h = (at, λ v. omega arith, tt)
    index-makes V at l (some q) s h = (q, h q refl, makes l q s)

    then-comes : (V : Type 0) (at a : ℕ) (s : State) (o o' : Attempt) (k : State → ℕ → List Edit → Attempt) → (q : ℕ) × (V → at ≤ q) × Makes q s o → Comes V at a s o' → ((s' : State) (e : ℕ) (es : List Edit) → (V → Valid at es (length s.run) (length s'.run)) → Comes V at a s' (k s' e es)) → Comes V at a s (answer o o' barred k)
    then-comes V at a s miss o' k h f g = f
    then-comes V at a s (barred n) o' k h f g = h.2
    then-comes V at a s (hit s' e es) o' k (q, l, (s₁, m, c, v, i)) f g = comes-first V at a s s' (k s' e es) (more m c) (g s' e es (λ u. valid-weaker at q es _ _ (l u) v))

    pub records-comes : (V : Type 0) (at a : ℕ) (rs : List LookupRecord) (f : Frame) (es : List Edit) (s : State) → (V → Valid at es a (length s.run) × FrameIn at (length s.run) f) → Comes V at a s (records try rs f es s)
    records-comes V at a [] f es s g = (none_more refl, λ v. ((g v).0, (g v).1.1))
    records-comes V at a (r ∷ rs) f es s g =
        then-comes V at a s (at_index try r.lookup (get_elem? f.positions r.index) s) (records try rs f es s) (λ s' e es'. records try rs (told es' f) (es ++ es') s')
        (index-makes V at r.lookup (get_elem? f.positions r.index) s (λ q e v. (index_in at (length s.run) f.positions r.index q (g v).1.0 e).0))
        (records-comes V at a rs f es s g)
        (λ s' e es' v'. records-comes V at a rs (told es' f) (es ++ es') s' (λ v. (valid-append at es es' a (length s.run) (length s'.run) (g v).0 (v' v), told_in at es' (length s.run) (length s'.run) f (v' v) (g v).1)))

    pub finish-comes : (V : Type 0) (x : Action) (ms : List Met) (p a : ℕ) (s : State) → (V → Valid p (edits x ms p) a (length s.run) × FrameIn p a (frame_at p ms)) → Comes V p a s (finish try x ms p s)
    finish-comes V (put ns) ms p a s g = (none_more refl, λ v. ((g v).0, (told_in p (edits (put ns) ms p) a (length s.run) (frame_at p ms) (g v).0 (g v).1).1))
    finish-comes V (join n) ms p a s g = (none_more refl, λ v. ((g v).0, (told_in p (edits (join n) ms p) a (length s.run) (frame_at p ms) (g v).0 (g v).1).1))
    finish-comes V (nest rs) ms p a s g = records-comes V p a rs (frame_at p ms) [] s (λ v. ((g v).0, subst (λ u. FrameIn p u (frame_at p ms)) (g v).0 (g v).1))

    strike-makes : (p : ℕ) (s : State) (m : Match) (t u : Bool) (o : Attempt) → (t ≡ true → u ≡ true → Strike inputs p s (struck m p s)) → Comes (Unit {0}) p (length s.run) (struck m p s) o → Makes p s (cond t (cond u o (barred 8)) (barred 7))
    strike-makes p s m false u o h k = inl refl
    strike-makes p s m true false o h k = inr refl
    strike-makes p s m true true miss h k = absurd k
    strike-makes p s m true true (barred n) h k = k
    strike-makes p s m true true (hit s' e es) h k = (struck m p s, h refl refl, k.0, (k.1 tt).0, (k.1 tt).1)

    applied-makes : (k : Lookup) (alt p : ℕ) (s : State) (g : Glyph) (after : List Glyph) (o : Option Match) → drop p s.run ≡ g ∷ after → choose (passes_over inputs.font k) (k.candidates alt g.glyph) (reverse (take p s.run)) g.cluster after ≡ o → Makes p s (applied inputs try o p s)
    applied-makes k alt p s g after none e c = tt
    applied-makes k alt p s g after (some m) e c =
        let in' : p < length s.run = inside-from s.run p g after e in
        let good = subst (GoodMatch (λ c. Unit {0}) g.cluster after) c (choose-good (λ c. Unit {0}) (passes_over inputs.font k) (k.candidates alt g.glyph) (reverse (take p s.run)) g.cluster after tt (clusters-any _) (clusters-any after)) in
        let others : Good (λ c. Unit {0}) m.others (drop (suc p) s.run) = subst (Good (λ c. Unit {0}) m.others) (sym (next-drop s.run p g after e)) good.3 in
        strike-makes p s m (ltb s.hits inputs.limit) (leb (length (struck m p s).run) inputs.room) (finish try m.action m.others p (struck m p s))
        (λ t u. record { lookup = k; alternate = alt; first = g; after = after; match = m; rest = e; chosen = c; left = ltb-true _ _ t; fits = leb-true _ _ u; is = refl })
        (finish-comes (Unit {0}) m.action m.others p (length s.run) (struck m p s) (λ v. (edits-valid (λ c. Unit {0}) m.action m.own m.others p s.run in' others, frame-in (λ c. Unit {0}) p m.others s.run in' others)))

    on-makes : (k : Lookup) (alt p : ℕ) (s : State) (rest : List Glyph) → drop p s.run ≡ rest → Makes p s (try_on inputs try k alt (reverse (take p s.run)) rest p s)
    on-makes k alt p s [] e = tt
    on-makes k alt p s (g ∷ after) e = cond-makes (passes_over inputs.font k g.glyph) p s _ (applied-makes k alt p s g after _ e refl)

  pub attempt-makes : (d alt : ℕ) → TryMakes (attempt inputs d alt)
  attempt-makes zero alt l p s = tt
  attempt-makes (suc d) alt l p s =
      on-makes (inner inputs (attempt inputs d alt)) (inner-makes (attempt inputs d alt) (attempt-makes d alt)) (inputs.table l) alt p s (drop p s.run) refl
