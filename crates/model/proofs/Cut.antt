-- The cut law: at a cluster that is not tied the text can be cut, and the parts shaped alone.
use Rattle.std.proofs.Common.{◌≡◌, ℕ, suc, ◌+◌, ◌-◌, ◌<◌, ◌≤◌, Bool, true, false, cond, ltb, ◌⊎◌, List, [], ◌∷◌, ◌++◌, map, length, sym, refl, ap, ◌∙◌, subst, ap₂, inl, inr, append-nil, zero-le, add-zero, add-suc, add_comm, zero-add, arith}
use mathlib.Core.Path.{fun_ext}
use native.Mathlib.Nat.{sub-zero}
use lib.Dec.{leb-zero}
use Rattle.std.proofs.lemmas.List.{length-append, length-map}
use Rattle.std.proofs.ByRecursion.{All-weaker}
use Rattle.std.proofs.lemmas.Bool.{cases_lt, le-leb, le-ltb, lt-leb, lt-ltb}
use Rattle.model.specs.declared.Glyph.{Glyph}
use Rattle.font.specs.Font.{Font}
use Rattle.model.specs.Edits.{at_cluster}
use Rattle.model.specs.declared.Entry.{Entry}
use Rattle.model.specs.Shaping.{Ending, Inputs, Pass, Runs, State, Sweeps, accepted, back_pass, laid, start}
use Rattle.model.specs.Laws.{raise}
use Rattle.model.proofs.Seek.{Clusters}
use Rattle.model.proofs.Choose.{Above, Below}
use Rattle.model.proofs.Embed.{embed}
use Rattle.model.proofs.Steps.{Steps, accepted-not, accepted-one, from-steps, last, next, over, step, to-steps}
use Rattle.model.proofs.Plans.{SoftEnd, runs-free}
use Rattle.model.proofs.Passes.{back_in, pass-in}

pub raise-none : (gs : List Glyph) → map (raise 0) gs ≡ gs
raise-none [] = refl
raise-none (g ∷ gs) = ap₂ {C = List Glyph} (λ x l. x ∷ l) (λ i. record { glyph = g.glyph; cluster = zero-add g.cluster i }) (raise-none gs)

above-left : (b : ℕ) (gs : List Glyph) → Clusters (Above (0 + b) b) (map (raise b) gs)
above-left b [] = tt
above-left b (g ∷ gs) = ((omega arith, omega arith), above-left b gs)

below_right : (b : ℕ) (gs : List Glyph) → Clusters (λ p. p < b) gs → Clusters (Below b b) gs
below_right b gs h = All-weaker _ _ (λ g u. (u, refl)) gs h

-- l, of a text of b characters, with r behind it, of a text of m
abbrev pub beside : ℕ → ℕ → State → State → State
beside b m l r =
    record {
      run = l.run ++ map (raise b) r.run;
      tied = λ c. cond (ltb c b) (l.tied c) (cond (ltb c (b + m)) (r.tied (c - b)) false);
      hits = l.hits + r.hits;
    }

module _ (b m : ℕ) where
  abbrev LeftIn : State → State → State
  LeftIn r = embed 0 b b r.hits [] (map (raise b) r.run) (λ c. cond (ltb c (b + m)) (r.tied (c - b)) false) tt (above-left b r.run)

  left_tied : (l r : State) (c : ℕ) → (beside b m l r).tied c ≡ (LeftIn r l).tied c
  left_tied l r c = rw (zero-add b, sub-zero c, leb-zero c)

  left_is : (l r : State) → beside b m l r ≡ LeftIn r l
  left_is l r = λ i. record {
    run = ap (λ u. u ++ map (raise b) r.run) (sym (raise-none l.run)) i;
    tied = fun_ext (left_tied l r) i;
    hits = add_comm l.hits r.hits i;
  }

  module _ (l : State) (low : Clusters (λ p. p < b) l.run) where
    abbrev RightIn : State → State
    RightIn = embed b m b l.hits l.run [] (λ c. cond (ltb c b) (l.tied c) false) (below_right b l.run low) tt

    right-tied : (r : State) (c : ℕ) → (beside b m l r).tied c ≡ (RightIn r).tied c
    right-tied r c = by (cases_lt c b)
      where
        by : (c < b) ⊎ (b ≤ c) → (beside b m l r).tied c ≡ (RightIn r).tied c
        by (inl lt) = rw (lt-ltb c b lt, lt-leb b c lt)
        by (inr ge) = rw (le-ltb c b ge, le-leb b c ge)

    right_is : (r : State) → beside b m l r ≡ RightIn r
    right_is r = λ i. record {
      run = ap (λ u. l.run ++ u) (sym (append-nil (map (raise b) r.run))) i;
      tied = fun_ext (right-tied r) i;
      hits = l.hits + r.hits;
    }

  module _ (inputs : Inputs) where
    pass-end : (x : Entry) {i : ℕ} {s : State} {e : Ending} → Steps inputs x i s e → length s.run ≤ i → e ≡ accepted s
    pass-end x {i} {s} {e} (last p) h = let z : step inputs x i s ≡ over (accepted s) = rw (le-ltb i (length s.run) h) in cc
    pass-end x {i} {s} {e} (next {j = j} {s' = s'} p r) h = let z : step inputs x i s ≡ over (accepted s) = rw (le-ltb i (length s.run) h) in cc

    -- what the two parts come to by themselves
    abbrev Halves : (State → Type 0) → (State → Type 0) → State → Type 0
    Halves f g w = (l : State) × (r : State) × f l × g r × (w ≡ beside b m l r) × Clusters (λ p. p < b) l.run × Clusters (λ p. p < m) r.run

    forward : (x : Entry) (l r w : State) → Clusters (λ p. p < b) l.run → Clusters (λ p. p < m) r.run → w.tied b ≡ false → Steps inputs x 0 (beside b m l r) (accepted w) → Halves (λ u. Steps inputs x 0 l (accepted u)) (λ u. Steps inputs x 0 r (accepted u)) w
    forward x l r w hl hr c p =
        let left = pass-in 0 b b r.hits [] (map (raise b) r.run) (λ c. cond (ltb c (b + m)) (r.tied (c - b)) false) tt (above-left b r.run) inputs x p c 0 l refl (left_is l r) zero-le hl in
        let l' = left.0 in
        let right = pass-in b m b l'.hits l'.run [] (λ c. cond (ltb c b) (l'.tied c) false) (below_right b l'.run left.3) tt inputs x left.2 c 0 r (omega arith) (sym (left_is l' r) ∙ right_is l' left.3 r) zero-le hr in
        let end : accepted w ≡ accepted (RightIn l' left.3 right.0) = pass-end x {i = length l'.run + length right.0.run} {s = RightIn l' left.3 right.0} right.2 (simp (length-append, length-map) (omega arith)) in
        let is : w ≡ RightIn l' left.3 right.0 = cc in
        (l', right.0, left.1, right.1, is ∙ sym (right_is l' left.3 right.0), left.3, right.3)

    -- a backward pass over the right part, then over the left one
    back-right : (x : Entry) (l r w : State) → Clusters (λ p. p < b) l.run → Clusters (λ p. p < m) r.run → w.tied b ≡ false → accepted w ≡ back_pass inputs x (length l.run + length r.run) (beside b m l r) → (r' : State) × (accepted r' ≡ back_pass inputs x (length r.run) r) × (accepted w ≡ back_pass inputs x (length l.run) (beside b m l r')) × Clusters (λ p. p < m) r'.run
    back-right x l r w hl hr c p =
        let whole : accepted w ≡ back_pass inputs x (length l.run + length r.run) (RightIn l hl r) = p ∙ ap (back_pass inputs x (length l.run + length r.run)) (right_is l hl r) in
        let right = back_in b m b l.hits l.run [] (λ c. cond (ltb c b) (l.tied c) false) (below_right b l.run hl) tt inputs x (length r.run) r (omega arith) hr (subst (SoftEnd b) whole c) in
        let left : accepted w ≡ back_pass inputs x (length l.run) (RightIn l hl right.0) = whole ∙ right.2 in
        (right.0, sym right.1, left ∙ ap (back_pass inputs x (length l.run)) (sym (right_is l hl right.0)), right.3)

    back-left : (x : Entry) (l r w : State) → Clusters (λ p. p < b) l.run → w.tied b ≡ false → accepted w ≡ back_pass inputs x (length l.run) (beside b m l r) → (l' : State) × (accepted l' ≡ back_pass inputs x (length l.run) l) × (w ≡ beside b m l' r) × Clusters (λ p. p < b) l'.run
    back-left x l r w hl c p =
        let whole : accepted w ≡ back_pass inputs x (0 + length l.run) (LeftIn r l) = p ∙ ap₂ (back_pass inputs x) (sym (zero-add (length l.run))) (left_is l r) in
        let left = back_in 0 b b r.hits [] (map (raise b) r.run) (λ c. cond (ltb c (b + m)) (r.tied (c - b)) false) tt (above-left b r.run) inputs x (length l.run) l (omega arith) hl (subst (SoftEnd b) whole c) in
        let is : w ≡ LeftIn r left.0 = accepted-one w (LeftIn r left.0) (whole ∙ left.2) in
        (left.0, sym left.1, is ∙ sym (left_is left.0 r), left.3)

    backward : (x : Entry) (l r w : State) → Clusters (λ p. p < b) l.run → Clusters (λ p. p < m) r.run → w.tied b ≡ false → accepted w ≡ back_pass inputs x (length (beside b m l r).run) (beside b m l r) → Halves (λ u. accepted u ≡ back_pass inputs x (length l.run) l) (λ u. accepted u ≡ back_pass inputs x (length r.run) r) w
    backward x l r w hl hr c p =
        let size : length (beside b m l r).run ≡ length l.run + length r.run = simp (length-append, length-map) in
        let right = back-right x l r w hl hr c (subst (λ n. accepted w ≡ back_pass inputs x n (beside b m l r)) size p) in
        let left = back-left x l right.0 w hl c right.2 in
        (left.0, right.0, left.1, right.1, left.2, left.3, right.3)

    sweep : (x : Entry) (l r w : State) → Clusters (λ p. p < b) l.run → Clusters (λ p. p < m) r.run → w.tied b ≡ false → Sweeps inputs x (beside b m l r) (accepted w) → Halves (λ u. Sweeps inputs x l (accepted u)) (λ u. Sweeps inputs x r (accepted u)) w
    sweep x l r w hl hr c = by (inputs.table x.lookup).backward
      where
        by : (t : Bool) → cond t (accepted w ≡ back_pass inputs x (length (beside b m l r).run) (beside b m l r)) (Pass inputs x 0 (beside b m l r) (accepted w)) → Halves (λ u. cond t (accepted u ≡ back_pass inputs x (length l.run) l) (Pass inputs x 0 l (accepted u))) (λ u. cond t (accepted u ≡ back_pass inputs x (length r.run) r) (Pass inputs x 0 r (accepted u))) w
        by true p = backward x l r w hl hr c p
        by false p =
            let h = forward x l r w hl hr c (to-steps inputs x p) in
            (h.0, h.1, from-steps inputs x h.2, from-steps inputs x h.3, h.4, h.5, h.6)

    runs : (plan : List Entry) (l r w : State) → Clusters (λ p. p < b) l.run → Clusters (λ p. p < m) r.run → w.tied b ≡ false → Runs inputs plan (beside b m l r) (accepted w) → (l' : State) × (r' : State) × Runs inputs plan l (accepted l') × Runs inputs plan r (accepted r') × (w ≡ beside b m l' r')
    runs [] l r w hl hr c p = (l, r, refl, refl, accepted-one _ _ p)
    runs (x ∷ plan) l r w hl hr c (inl (s, p, q)) =
        let half = sweep x l r s hl hr (runs-free inputs b plan s (accepted w) q c) p in
        let rest = runs plan half.0 half.1 w half.5 half.6 c (subst (λ u. Runs inputs plan u (accepted w)) half.4 q) in
        (rest.0, rest.1, inl (half.0, half.2, rest.2), inl (half.1, half.3, rest.3), rest.4)
    runs (x ∷ plan) l r w hl hr c (inr (k, p, e)) = absurd (accepted-not _ _ e)

pub laid_in : (font : Font) (k n : ℕ) (t : List ℕ) → k + length t ≤ n → Clusters (λ p. p < n) (laid font k t)
laid_in font k n [] h = tt
laid_in font k n (g ∷ t) h = (omega arith, laid_in font (suc k) n t (omega arith))

pub length-laid : (font : Font) (k : ℕ) (t : List ℕ) → length (laid font k t) ≡ length t
length-laid font k [] = refl
length-laid font k (g ∷ t) = ap suc (length-laid font (suc k) t)

laid-raise : (font : Font) (k j : ℕ) (t : List ℕ) → laid font (k + j) t ≡ map (raise k) (laid font j t)
laid-raise font k j [] = refl
laid-raise font k j (g ∷ t) = ap (λ u. at_cluster (k + j) (font.glyph g) ∷ u) (ap (λ u. laid font u t) (sym (add-suc k j)) ∙ laid-raise font k (suc j) t)

laid-append : (font : Font) (k : ℕ) (t u : List ℕ) → laid font k (t ++ u) ≡ laid font k t ++ laid font (k + length t) u
laid-append font k [] u = ap (λ j. laid font j u) (sym (add-zero k))
laid-append font k (g ∷ t) u = ap (λ v. at_cluster k (font.glyph g) ∷ v) (laid-append font (suc k) t u ∙ ap (λ j. laid font (suc k) t ++ laid font j u) next')
  where
    next' : suc k + length t ≡ k + suc (length t)
    next' = omega arith

start_is : (font : Font) (t u : List ℕ) → start font (t ++ u) ≡ beside (length t) (length u) (start font t) (start font u)
start_is font t u = λ i. record {
  run = (laid-append font 0 t u ∙ ap (λ v. laid font 0 t ++ v) (ap (λ j. laid font j u) (zero-add (length t) ∙ sym (add-zero (length t))) ∙ laid-raise font (length t) 0 u)) i;
  tied = fun_ext none-tied i;
  hits = 0;
}
  where
    none-tied : (c : ℕ) → false ≡ cond (ltb c (length t)) false (cond (ltb c (length t + length u)) false false)
    none-tied c = sym (both (ltb c (length t)) (ltb c (length t + length u)))
      where
        both : (p q : Bool) → cond p false (cond q false false) ≡ false
        both true q = refl
        both false true = refl
        both false false = refl

-- a plan over a text that is free at the cut is the plan over each part
pub runs-cut : (inputs : Inputs) (plan : List Entry) (t u : List ℕ) (w : State) → Runs inputs plan (start inputs.font (t ++ u)) (accepted w) → w.tied (length t) ≡ false → (l : State) × (r : State) × Runs inputs plan (start inputs.font t) (accepted l) × Runs inputs plan (start inputs.font u) (accepted r) × (w ≡ beside (length t) (length u) l r)
runs-cut inputs plan t u w p c =
    runs (length t) (length u) inputs plan (start inputs.font t) (start inputs.font u) w
    (laid_in inputs.font 0 (length t) t (omega arith)) (laid_in inputs.font 0 (length u) u (omega arith)) c
    (subst (λ s. Runs inputs plan s (accepted w)) (start_is inputs.font t u) p)
