-- An attempt by its parts: the candidate chosen, its match, the records that it runs.
use Rattle.std.proofs.Common.{◌≡◌, ℕ, suc, ◌+◌, ◌≤◌, Bool, true, false, cond, leb, List, [], ◌∷◌, ◌++◌, map, length, take, drop, reverse, slice_get, Some, None, Option, Ok, Err, refl, sym, ap, ◌∙◌, subst}
use Rattle.std.proofs.Math.Option.{Option as Perhaps, none, some}
use Rattle.std.proofs.Math.ListN.{get_elem?}
use Rattle.std.proofs.lemmas.List.{drop_all}
use Rattle.model.specs.declared.Glyph.{Glyph}
use Rattle.model.specs.Edits.{Edit, Frame, edits, frame_at, told}
use Rattle.model.specs.Lookups.{Action, LookupRecord, Lookup, Match, choose, join, nest, passes_over, put}
use Rattle.model.specs.Shaping.{Attempt, Inputs, State, Try, answer, applied, at_index, attempt, barred, finish, hit, miss, records, struck, try_on}
use Rattle.model.proofs.Chain.{inner}
use Rattle.editing.proofs.Moves.{told-append_all}
use Rattle.editing.proofs.Positions.{index-none, index-some}
use Rattle.shaping.specs.declared.stop.Stop.{Stop}
use Rattle.shaping.specs.declared.stop.Stop.TheVariants.{HitLimit, Room}
use Rattle.shaping.specs.Attempts.{Comes, Took, stop_number}

pub told-none : (fs : List Frame) → map (told []) fs ≡ fs
told-none [] = refl
told-none (f ∷ fs) = ap (λ xs. f ∷ xs) (told-none fs)

-- the candidate that an attempt takes
abbrev pub chosen : Inputs → Lookup → (alternate p : ℕ) → State → Glyph → (after : List Glyph) → Perhaps Match
chosen inputs k alt p s g after =
    cond (passes_over inputs.font k g.glyph) none (choose (passes_over inputs.font k) (k.candidates alt g.glyph) (reverse (take p s.run)) g.cluster after)

module _ (inputs : Inputs) where
  by-over : (try : Try) (b : Bool) (o : Perhaps Match) (p : ℕ) (s : State) → cond b miss (applied inputs try o p s) ≡ applied inputs try (cond b none o) p s
  by-over try true o p s = refl
  by-over try false o p s = refl

  pub attempt-is : (d alt l p : ℕ) (s : State) (g : Glyph) (after : List Glyph) → drop p s.run ≡ g ∷ after
      → attempt inputs (suc d) alt l p s ≡ applied inputs (inner inputs (attempt inputs d alt)) (chosen inputs (inputs.table l) alt p s g after) p s
  attempt-is d alt l p s g after e =
      ap (λ rest. try_on inputs (inner inputs (attempt inputs d alt)) (inputs.table l) alt (reverse (take p s.run)) rest p s) e
      ∙ by-over (inner inputs (attempt inputs d alt)) (passes_over inputs.font (inputs.table l) g.glyph) _ p s

  pub attempt-past : (d alt l p : ℕ) (s : State) → drop p s.run ≡ [] → attempt inputs (suc d) alt l p s ≡ miss
  attempt-past d alt l p s e = ap (λ rest. try_on inputs (inner inputs (attempt inputs d alt)) (inputs.table l) alt (reverse (take p s.run)) rest p s) e

  module _ (try : Try) (m : Match) (p : ℕ) (s : State) (fs : List Frame) where
    -- a match that is stopped
    pub comes-stopped : (stop : Stop) (s' : State) (fs' : List Frame) → Took inputs m p s fs (Err stop) s' fs' → Comes (applied inputs try (some m) p s) s fs (Err stop) s' fs'
    comes-stopped HitLimit s' fs' h =
        subst (λ o. Comes o s fs (Err HitLimit) s' fs') (sym (ap (λ b. cond b (cond (leb (length (struck m p s).run) inputs.room) (finish try m.action m.others p (struck m p s)) (barred 8)) (barred 7)) h)) (HitLimit, refl, refl)
    comes-stopped Room s' fs' h =
        subst (λ o. Comes o s fs (Err Room) s' fs')
        (sym (ap (λ b. cond b (cond (leb (length (struck m p s).run) inputs.room) (finish try m.action m.others p (struck m p s)) (barred 8)) (barred 7)) h.0 ∙ ap (λ b. cond b (finish try m.action m.others p (struck m p s)) (barred 8)) h.1))
        (Room, refl, refl)

    -- one that takes effect
    pub struck-is : (u : Unit {0}) (s' : State) (fs' : List Frame) → Took inputs m p s fs (Ok u) s' fs' → applied inputs try (some m) p s ≡ finish try m.action m.others p (struck m p s)
    struck-is u s' fs' h =
        ap (λ b. cond b (cond (leb (length (struck m p s).run) inputs.room) (finish try m.action m.others p (struck m p s)) (barred 8)) (barred 7)) h.0 ∙ ap (λ b. cond b (finish try m.action m.others p (struck m p s)) (barred 8)) h.1

-- Without records a match ends as it is.
abbrev pub Quiet : Action → Type 0
Quiet (put gs) = Unit {0}
Quiet (join n) = Unit {0}
Quiet (nest rs) = ⊥

pub quiet-is : (try : Try) (x : Action) (m : Match) (p : ℕ) (s : State) → m.action ≡ x → Quiet x
    → finish try m.action m.others p s ≡ hit s (told (edits m.action m.others p) (frame_at p m.others)).«end» (edits m.action m.others p)
quiet-is try (put gs) m p s e q = rw e refl
quiet-is try (join n) m p s e q = rw e refl
quiet-is try (nest rs) m p s e q = absurd q

pub nest-is : (try : Try) (rs : List LookupRecord) (m : Match) (p : ℕ) (s : State) → m.action ≡ nest rs → finish try m.action m.others p s ≡ records try rs (frame_at p m.others) [] s
nest-is try rs m p s e = rw e refl

module _ (try : Try) (rs : List LookupRecord) (f₀ : Frame) (s₀ : State) (fs₀ : List Frame) where
  -- the records so far have run: what is left comes to what the whole comes to
  abbrev pub Ran : (i : ℕ) → State → List Frame → Type 0
  Ran i s fs =
      (f : Frame) × (es : List Edit) × (records try rs f₀ [] s₀ ≡ records try (drop i rs) f es s) × (fs ≡ f ∷ map (told es) fs₀)

  pub ran-first : Ran 0 s₀ (f₀ ∷ fs₀)
  ran-first = (f₀, [], refl, ap (λ xs. f₀ ∷ xs) (sym (told-none fs₀)))

  module _ (i : ℕ) (s : State) (fs : List Frame) (ran : Ran i s fs) (r : LookupRecord) (is : drop i rs ≡ r ∷ drop (i + 1) rs) where
    abbrev went : Attempt → Attempt
    went o = answer o (records try (drop (i + 1) rs) ran.0 ran.1 s) barred (λ s' e es'. records try (drop (i + 1) rs) (told es' ran.0) (ran.1 ++ es') s')

    by : records try rs f₀ [] s₀ ≡ went (at_index try r.lookup (get_elem? ran.0.positions r.index) s)
    by = ran.2 ∙ ap (λ xs. records try xs ran.0 ran.1 s) is

    -- a record that does nothing, as one that ran and missed
    pub ran-missed : at_index try r.lookup (get_elem? ran.0.positions r.index) s ≡ miss → Ran (i + 1) s fs
    ran-missed e = (ran.0, ran.1, by ∙ ap went e, ran.3)

    pub ran-stopped : (n : ℕ) → at_index try r.lookup (get_elem? ran.0.positions r.index) s ≡ barred n → records try rs f₀ [] s₀ ≡ barred n
    ran-stopped n e = by ∙ ap went e

    pub ran-hit : (s' : State) (e : ℕ) (es : List Edit) (fs' : List Frame) → at_index try r.lookup (get_elem? ran.0.positions r.index) s ≡ hit s' e es → fs' ≡ map (told es) fs → Ran (i + 1) s' fs'
    ran-hit s' e es fs' q h =
        (told es ran.0, ran.1 ++ es, by ∙ ap went q, h ∙ ap (map (told es)) ran.3 ∙ ap (λ xs. told es ran.0 ∷ xs) (sym (told-append_all ran.1 es fs₀)))

    -- the same by what the code answers
    pub ran-ok : (o : Attempt) (s' : State) (fs' : List Frame) (w : Option ℕ) → at_index try r.lookup (get_elem? ran.0.positions r.index) s ≡ o → Comes o s fs (Ok w) s' fs' → Ran (i + 1) s' fs'
    ran-ok miss s' fs' w q (r, t, u) = subst (λ x. Ran (i + 1) x fs') (sym t) (subst (Ran (i + 1) s) (sym u) (ran-missed q))
    ran-ok (barred n) s' fs' w q (stop, r, t) = absurd cc
    ran-ok (hit t e es) s' fs' w q (r, v, u) = subst (λ x. Ran (i + 1) x fs') (sym v) (ran-hit t e es fs' q u)

    pub ran-err : (o : Attempt) (s' : State) (fs' : List Frame) (stop : Stop) → at_index try r.lookup (get_elem? ran.0.positions r.index) s ≡ o → Comes o s fs (Err stop) s' fs' → records try rs f₀ [] s₀ ≡ barred (stop_number stop)
    ran-err miss s' fs' stop q (r, t, u) = absurd cc
    ran-err (barred n) s' fs' stop q (stop', r, t) = ran-stopped n q ∙ ap barred (sym t ∙ ap stop_number (let e : stop' ≡ stop = cc in e))
    ran-err (hit t e es) s' fs' stop q (r, v, u) = absurd cc

  pub ran-all : (i : ℕ) (s : State) (fs : List Frame) → Ran i s fs → length rs ≤ i → (f : Frame) × (es : List Edit) × (records try rs f₀ [] s₀ ≡ hit s f.«end» es) × (fs ≡ f ∷ map (told es) fs₀)
  ran-all i s fs ran h = (ran.0, ran.1, ran.2 ∙ ap (λ xs. records try xs ran.0 ran.1 s) (drop_all i rs h), ran.3)

module _ (inputs : Inputs) (f : Frame) (l i depth alternate : ℕ) (s : State) where
  -- an index past the list, a lookup that goes backward, and any other
  pub idle-past : None ≡ slice_get f.positions i → at_index (inner inputs (attempt inputs depth alternate)) l (get_elem? f.positions i) s ≡ miss
  idle-past e = ap (λ o. at_index (inner inputs (attempt inputs depth alternate)) l o s) (index-none f.positions i (sym e))

  runs-at : (q : ℕ) → Some q ≡ slice_get f.positions i → at_index (inner inputs (attempt inputs depth alternate)) l (get_elem? f.positions i) s ≡ cond (inputs.table l).backward miss (attempt inputs depth alternate l q s)
  runs-at q e = ap (λ o. at_index (inner inputs (attempt inputs depth alternate)) l o s) (index-some f.positions i q (sym e))

  pub idle-backward : (q : ℕ) → Some q ≡ slice_get f.positions i → (inputs.table l).backward ≡ true → at_index (inner inputs (attempt inputs depth alternate)) l (get_elem? f.positions i) s ≡ miss
  idle-backward q e b = runs-at q e ∙ ap (λ t. cond t miss (attempt inputs depth alternate l q s)) b

  pub runs-forward : (q : ℕ) → Some q ≡ slice_get f.positions i → (inputs.table l).backward ≡ false → at_index (inner inputs (attempt inputs depth alternate)) l (get_elem? f.positions i) s ≡ attempt inputs depth alternate l q s
  runs-forward q e b = runs-at q e ∙ ap (λ t. cond t miss (attempt inputs depth alternate l q s)) b
