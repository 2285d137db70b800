-- What an attempt comes to, by what the code chose and did.
use Rattle.std.proofs.Common.{◌≡◌, ℕ, zero, suc, ◌+◌, ◌-◌, ◌<◌, ◌≤◌, Bool, true, false, cond, ◌⊎◌, List, [], ◌∷◌, map, length, take, drop, reverse, get_or, slice_get, Some, None, Option, Ok, Err, refl, sym, ap, ◌∙◌, subst, inl, inr, arith}
use Rattle.std.proofs.Math.Option.{Option as Perhaps, none, some}
use Rattle.std.proofs.ByRecursion.{All-drop, All-take}
use Rattle.std.proofs.lemmas.Bool.{cases_lt, leb-true, ltb-true}
use Rattle.std.proofs.lemmas.Option.{slice_get-get_or}
use Rattle.std.proofs.lemmas.List.{drop_all, drop_more, length-map}
use Rattle.matching.specs.Seek.{glyph_at}
use Rattle.model.specs.declared.Glyph.{Glyph}
use Rattle.model.specs.Edits.{Frame, edits, frame_at, told}
use Rattle.model.specs.Lookups.{Lookup, LookupRecord, Match, choose, nest, passes_over}
use Rattle.model.specs.Shaping.{Attempt, Inputs, State, applied, attempt, barred, finish, hit, miss, records, struck}
use Rattle.model.proofs.Change.{all-reverse}
use Rattle.model.proofs.Chain.{GoodMatch, Strike, choose-good, inner}
use Rattle.model.proofs.Keeps.{strike-in}
use Rattle.model.proofs.Rises.{strike-rising}
use Rattle.model.proofs.Seek.{Clusters}
use Rattle.shaping.specs.declared.stop.Stop.{Stop}
use Rattle.shaping.specs.declared.attempt.Inner.{Inner}
use Rattle.shaping.specs.Attempts.{Comes, Inwards, Ready, Took, stop_number}
use Rattle.candidates.specs.LookupOf.{lookup_of}
use Rattle.shaping.proofs.Attempts.{Quiet, Ran, attempt-is, attempt-past, chosen, comes-stopped, nest-is, quiet-is, ran-all, ran-err, ran-missed, ran-ok, struck-is, told-none}
use Rattle.shaping.proofs.Passing.{ready-on}

pub rest-is : (run : List Glyph) (p : ℕ) → p < length run → drop p run ≡ glyph_at run p ∷ drop (suc p) run
rest-is run p h =
    let one : p + 1 ≡ suc p = omega arith in
    drop_more run p (record { glyph = 0; cluster = 0 }) h ∙ ap (λ n. glyph_at run p ∷ drop n run) one

-- as many matches are open after an attempt as before it
pub as-deep : (o : Attempt) (s : State) (fs : List Frame) (w : Option ℕ) (s' : State) (fs' : List Frame) → Comes o s fs (Ok w) s' fs' → length fs' ≡ length fs
as-deep miss s fs w s' fs' (r, t, u) = ap length u
as-deep (barred n) s fs w s' fs' (stop, r, t) = absurd cc
as-deep (hit t e es) s fs w s' fs' (r, v, u) = ap length u ∙ length-map fs (told es)

module _ (inputs : Inputs) (k : Lookup) (alt l p : ℕ) (s : State) (named : k ≡ inputs.table l) where
  -- what the code chose is what the definitions choose
  abbrev pub Choice : Perhaps Match → Type 0
  Choice o = p < length s.run → o ≡ chosen inputs k alt p s (glyph_at s.run p) (drop (suc p) s.run)

  attempt-by : (d : ℕ) (o : Perhaps Match) → p < length s.run → Choice o → attempt inputs (suc d) alt l p s ≡ applied inputs (inner inputs (attempt inputs d alt)) o p s
  attempt-by d o here c =
      attempt-is inputs d alt l p s (glyph_at s.run p) (drop (suc p) s.run) (rest-is s.run p here)
      ∙ ap (λ q. applied inputs (inner inputs (attempt inputs d alt)) (chosen inputs q alt p s (glyph_at s.run p) (drop (suc p) s.run)) p s) (sym named)
      ∙ ap (λ q. applied inputs (inner inputs (attempt inputs d alt)) q p s) (sym (c here))

  -- nothing chosen
  pub chose-none : (depth : ℕ) (fs : List Frame) → Choice none → Comes (attempt inputs depth alt l p s) s fs (Ok None) s fs
  chose-none zero fs c = (refl, refl, refl)
  chose-none (suc d) fs c = by (cases_lt p (length s.run))
    where
      by : (p < length s.run) ⊎ (length s.run ≤ p) → Comes (attempt inputs (suc d) alt l p s) s fs (Ok None) s fs
      by (inl here) = subst (λ o. Comes o s fs (Ok None) s fs) (sym (attempt-by d none here c)) (refl, refl, refl)
      by (inr past) = subst (λ o. Comes o s fs (Ok None) s fs) (sym (attempt-past inputs d alt l p s (drop_all p s.run past))) (refl, refl, refl)

  module _ (here : p < length s.run) (m : Match) (c : Choice (some m)) (fs : List Frame) where
    good-by : (n : ℕ) → Ready n s → (o : Perhaps Match) → some m ≡ o → GoodMatch (λ c. c < n) (glyph_at s.run p).cluster (drop (suc p) s.run) o → m.hi < n
    good-by n r none e g = absurd cc
    good-by n r (some m') e g = let same : m ≡ m' = cc in subst (λ q. q.hi < n) (sym same) g.2

    -- its farthest glyph lies before the end of the marks
    pub hi-below : (n : ℕ) → Ready n s → m.hi < n
    hi-below n r =
        let clusters = subst (Clusters (λ c. c < n)) (rest-is s.run p here) (All-drop _ p s.run r.1) in
        by (passes_over inputs.font k (glyph_at s.run p).glyph) (c here)
        (choose-good (λ c. c < n) (passes_over inputs.font k) (k.candidates alt (glyph_at s.run p).glyph) (reverse (take p s.run)) (glyph_at s.run p).cluster (drop (suc p) s.run) clusters.0 (all-reverse _ (take p s.run) (All-take _ p s.run r.1)) clusters.1)
      where
        by : (b : Bool) → some m ≡ cond b none (choose (passes_over inputs.font k) (k.candidates alt (glyph_at s.run p).glyph) (reverse (take p s.run)) (glyph_at s.run p).cluster (drop (suc p) s.run))
            → GoodMatch (λ c. c < n) (glyph_at s.run p).cluster (drop (suc p) s.run) (choose (passes_over inputs.font k) (k.candidates alt (glyph_at s.run p).glyph) (reverse (take p s.run)) (glyph_at s.run p).cluster (drop (suc p) s.run)) → m.hi < n
        by true e g = absurd cc
        by false e g = good-by n r _ e g

    module _ (depth : ℕ) (deep : depth ≡ 0 → ⊥) where
      abbrev try : ℕ → ℕ → State → Attempt
      try = inner inputs (attempt inputs (depth - 1) alt)

      applied-is : attempt inputs depth alt l p s ≡ applied inputs try (some m) p s
      applied-is =
          let one : depth ≡ suc (depth - 1) = omega (arith, deep) in
          ap (λ n. attempt inputs n alt l p s) one ∙ attempt-by (depth - 1) (some m) here c

      -- a match that is stopped
      pub chose-stopped : (stop : Stop) (s' : State) (fs' : List Frame) → Took inputs m p s fs (Err stop) s' fs' → Comes (attempt inputs depth alt l p s) s fs (Err stop) s' fs'
      chose-stopped stop s' fs' t = subst (λ o. Comes o s fs (Err stop) s' fs') (sym applied-is) (comes-stopped inputs try m p s fs stop s' fs' t)

      module _ (u : Unit {0}) (s₁ : State) (fs₁ : List Frame) (t : Took inputs m p s fs (Ok u) s₁ fs₁) where
        finish-is : attempt inputs depth alt l p s ≡ finish try m.action m.others p s₁
        finish-is = applied-is ∙ struck-is inputs try m p s fs u s₁ fs₁ t ∙ ap (finish try m.action m.others p) (sym t.2)

        abbrev f₀ : Frame
        f₀ = told (edits m.action m.others p) (frame_at p m.others)

        abbrev fs₀ : List Frame
        fs₀ = map (told (edits m.action m.others p)) fs

        -- one without records
        pub chose-quiet : Quiet m.action → (e : ℕ) (fs' : List Frame) → (e ≡ f₀.«end») × (fs' ≡ fs₀) → Comes (attempt inputs depth alt l p s) s fs (Ok (Some e)) s₁ fs'
        chose-quiet q e fs' (a, b) =
            subst (λ o. Comes o s fs (Ok (Some e)) s₁ fs') (sym (finish-is ∙ quiet-is try m.action m p s₁ refl q)) (ap (λ x. Ok (Some x)) a, refl, b)

        -- one with records, which have run
        module _ (rs : List LookupRecord) (n : m.action ≡ nest rs) where
          nested-is : attempt inputs depth alt l p s ≡ records try rs f₀ [] s₁
          nested-is = finish-is ∙ nest-is try rs m p s₁ n ∙ ap (λ x. records try rs (told (edits x m.others p) (frame_at p m.others)) [] s₁) (sym n)

          pub chose-nested : (i : ℕ) (s' : State) (fs' : List Frame) (e : ℕ) (fs'' : List Frame) → length rs ≤ i → Ran try rs f₀ s₁ fs₀ i s' fs'
              → ((f : Frame) (gs : List Frame) → fs' ≡ f ∷ gs → (e ≡ f.«end») × (fs'' ≡ gs)) → Comes (attempt inputs depth alt l p s) s fs (Ok (Some e)) s' fs''
          chose-nested i s' fs' e fs'' all ran closed =
              let r = ran-all try rs f₀ s₁ fs₀ i s' fs' ran all in
              let z = closed r.0 (map (told r.1) fs₀) r.3 in
              subst (λ o. Comes o s fs (Ok (Some e)) s' fs'') (sym (nested-is ∙ r.2)) (ap (λ x. Ok (Some x)) z.0, refl, z.1 ∙ ap (map (told r.1)) (ap (λ x. map (told (edits x m.others p)) fs) n ∙ told-none fs))

          pub chose-nested-stopped : (stop : Stop) (s' : State) (fs' : List Frame) → records try rs f₀ [] s₁ ≡ barred (stop_number stop) → Comes (attempt inputs depth alt l p s) s fs (Err stop) s' fs'
          chose-nested-stopped stop s' fs' e = subst (λ o. Comes o s fs (Err stop) s' fs') (sym (nested-is ∙ e)) (stop, refl, refl)

-- what is found at a position is found inside the run
pub found-inside : {A : Type 0} (n p : ℕ) (o : Option A) (x : A) → o ≡ Some x → (n ≤ p → o ≡ None) → p < n
found-inside n p o x e past = by (cases_lt p n)
  where
    by : (p < n) ⊎ (n ≤ p) → p < n
    by (inl h) = h
    by (inr h) = absurd (let z : Some x ≡ None = sym e ∙ past h in cc)

-- a match that takes effect leaves a run to go on from
pub took-ready : (inputs : Inputs) (k : Lookup) (alt p : ℕ) (s : State) (m : Match) → p < length s.run → some m ≡ chosen inputs k alt p s (glyph_at s.run p) (drop (suc p) s.run)
    → (fs : List Frame) (u : Unit {0}) (s' : State) (fs' : List Frame) → Took inputs m p s fs (Ok u) s' fs' → (n : ℕ) → Ready n s → Ready n s'
took-ready inputs k alt p s m here c fs u s' fs' t n r =
    (strike-rising inputs p s s' strike r.0, strike-in (λ c. c < n) inputs p s s' strike r.1)
  where
    by : (b : Bool) (o : Perhaps Match) → some m ≡ cond b none o → o ≡ some m
    by true o e = absurd cc
    by false o e = sym e

    strike : Strike inputs p s s'
    strike = record {
      lookup = k;
      alternate = alt;
      first = glyph_at s.run p;
      after = drop (suc p) s.run;
      match = m;
      rest = rest-is s.run p here;
      chosen = by (passes_over inputs.font k (glyph_at s.run p).glyph) _ c;
      left = ltb-true s.hits inputs.limit t.0;
      fits = leb-true (length (struck m p s).run) inputs.room t.1;
      is = t.2;
    }

module _ (inputs : Inputs) (d alt : ℕ) (rs : List LookupRecord) (f₀ : Frame) (s₀ : State) (fs₀ : List Frame) (i : ℕ) (s : State) (fs : List Frame) where
  abbrev pub So_far : Type 0
  So_far = Ran (inner inputs (attempt inputs d alt)) rs f₀ s₀ fs₀ i s fs

  module _ (ran : So_far) (more : i < length rs) where
    blank : LookupRecord
    blank = record { index = 0; lookup = 0 }

    abbrev r : LookupRecord
    r = get_or rs i blank

    is : drop i rs ≡ r ∷ drop (i + 1) rs
    is = drop_more rs i blank more

    here : slice_get rs i ≡ Some r
    here = slice_get-get_or rs i blank more

    -- a record that runs nothing
    pub record-idle : ((f : Frame) (gs : List Frame) (q : LookupRecord) → fs ≡ f ∷ gs → slice_get rs i ≡ Some q → Inwards inputs q f None) → Ran (inner inputs (attempt inputs d alt)) rs f₀ s₀ fs₀ (i + 1) s fs
    record-idle h = ran-missed (inner inputs (attempt inputs d alt)) rs f₀ s₀ fs₀ i s fs ran r is (h ran.0 _ r ran.3 here d alt s)

    module _ (x : Inner) (h : (f : Frame) (gs : List Frame) (q : LookupRecord) → fs ≡ f ∷ gs → slice_get rs i ≡ Some q → Inwards inputs q f (Some x)) where
      runs : Inwards inputs r ran.0 (Some x)
      runs = h ran.0 _ r ran.3 here

      module _ (s' : State) (fs' : List Frame) where
        -- one that runs an attempt, which came to its end
        pub record-ran : (w : Option ℕ) → ((l : ℕ) → lookup_of x.lookup ≡ inputs.table l → Comes (attempt inputs d alt l x.at s) s fs (Ok w) s' fs') → Ran (inner inputs (attempt inputs d alt)) rs f₀ s₀ fs₀ (i + 1) s' fs'
        record-ran w c = ran-ok (inner inputs (attempt inputs d alt)) rs f₀ s₀ fs₀ i s fs ran r is (attempt inputs d alt r.lookup x.at s) s' fs' w (runs.1 d alt s) (c r.lookup runs.0)

        pub record-ready : (n : ℕ) → Ready n s → (w : Option ℕ) → ((l : ℕ) → lookup_of x.lookup ≡ inputs.table l → Comes (attempt inputs d alt l x.at s) s fs (Ok w) s' fs') → Ready n s' × (length fs' ≡ length fs)
        record-ready n k w c =
            (ready-on inputs n d alt r.lookup x.at s k s' fs fs' w (c r.lookup runs.0), as-deep (attempt inputs d alt r.lookup x.at s) s fs w s' fs' (c r.lookup runs.0))

        -- and one that was stopped
        pub record-stopped : (stop : Stop) → ((l : ℕ) → lookup_of x.lookup ≡ inputs.table l → Comes (attempt inputs d alt l x.at s) s fs (Err stop) s' fs') → records (inner inputs (attempt inputs d alt)) rs f₀ [] s₀ ≡ barred (stop_number stop)
        record-stopped stop c = ran-err (inner inputs (attempt inputs d alt)) rs f₀ s₀ fs₀ i s fs ran r is (attempt inputs d alt r.lookup x.at s) s' fs' stop (runs.1 d alt s) (c r.lookup runs.0)
