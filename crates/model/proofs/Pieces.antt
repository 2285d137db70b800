-- The cutting law, for two parts and for any number.
use Rattle.std.proofs.Common.{◌≡◌, ℕ, ◌+◌, ◌-◌, ◌<◌, ◌≤◌, false, ◌⊎◌, List, [], ◌∷◌, ◌++◌, map, length, take, drop, sym, refl, ap, ◌∙◌, subst, ap₂, inl, inr, append-nil, add-zero, zero-add, arith, length-drop}
use mathlib.Core.List.{map-append}
use native.Mathlib.Nat.{sub-zero}
use Rattle.std.proofs.lemmas.List.{get_or-append_right, length-append, length-take-le, take-append-drop}
use Rattle.std.proofs.lemmas.Bool.{cases_lt}
use Rattle.model.specs.declared.Glyph.{Glyph}
use Rattle.model.specs.Edits.{at_cluster}
use Rattle.model.specs.Shaping.{Inputs, Runs, Shaped, Shapes, State, accepted, marks, shaped, start}
use Rattle.model.specs.Laws.{Alone, CutInPieces, CutInTwo, Cuts, Free, joined, pieces, raise, together}
use Rattle.model.proofs.Cut.{beside, raise-none, runs-cut}
use Rattle.model.proofs.Marks.{marks-beside, marks-free}
use Rattle.model.proofs.Outcomes.{limits-hold, result, state-below, state-past}

-- a break mark 0 means that the cluster is not tied
free-tied : (inputs : Inputs) (text : List ℕ) (s : State) → Runs inputs inputs.plan (start inputs.font text) (accepted s) → (c : ℕ) → Free (marks s 0 (length text)) c → s.tied c ≡ false
free-tied inputs text s p c e = by (cases_lt c (length text))
  where
    by : (c < length text) ⊎ (length text ≤ c) → s.tied c ≡ false
    by (inl lt) = subst (λ u. s.tied u ≡ false) (zero-add c) (marks-free s 0 (length text) c lt e)
    by (inr ge) = state-past inputs text s p c ge

pub cut-in-two : CutInTwo
cut-in-two inputs t u w (s, h, p, e) f =
    let free : s.tied (length t) ≡ false = free-tied inputs (t ++ u) s p (length t) (subst (λ r. Free r.marks (length t)) e f) in
    let cut = runs-cut inputs inputs.plan t u s p free in
    let size : length (t ++ u) ≡ length t + length u = length-append t u in
    let both : result (length t + length u) (beside (length t) (length u) cut.0 cut.1) ≡ joined (length t) (result (length t) cut.0) (result (length u) cut.1) =
    λ i. record { run = cut.0.run ++ map (raise (length t)) cut.1.run; marks = marks-beside (length t) (length u) cut.0 cut.1 (state-below inputs t cut.0 cut.2) i; hits = cut.0.hits + cut.1.hits } in
    (result (length t) cut.0, result (length u) cut.1, (cut.0, omega arith, cut.2, refl), (cut.1, omega arith, cut.3, refl), e ∙ ap₂ result size cut.4 ∙ both)

-- a part as it stands at character a of a text
abbrev raised : ℕ → Shaped → Shaped
raised a w = record { run = map (raise a) w.run; marks = w.marks; hits = w.hits }

raise-twice : (a k c : ℕ) → a + k ≡ c → (gs : List Glyph) → map (raise a) (map (raise k) gs) ≡ map (raise c) gs
raise-twice a k c e [] = refl
raise-twice a k c e (g ∷ gs) = let same : a + (k + g.cluster) ≡ c + g.cluster = omega arith in ap₂ (λ u l. at_cluster u g.glyph ∷ l) same (raise-twice a k c e gs)

raised-joined : (a k c : ℕ) → a + k ≡ c → (w l r : Shaped) → w ≡ joined k l r → (cs : List ℕ) (ps : List Shaped) → raised c r ≡ together (c ∷ cs) ps → raised a w ≡ together (a ∷ c ∷ cs) (l ∷ ps)
raised-joined a k c e w l r q cs ps h = ap (raised a) q ∙ λ i. record { run = run≡ i; marks = l.marks ++ (h i).marks; hits = l.hits + (h i).hits }
  where
    run≡ : map (raise a) (l.run ++ map (raise k) r.run) ≡ map (raise a) l.run ++ (together (c ∷ cs) ps).run
    run≡ = map-append (raise a) l.run (map (raise k) r.run) ∙ ap (λ v. map (raise a) l.run ++ v) (raise-twice a k c e r.run ∙ ap (λ v. v.run) h)

-- what is free behind the first k characters is free in the second part
free-right : (k : ℕ) (l r : Shaped) → length l.marks ≡ k → (c : ℕ) → k ≤ c → Free (l.marks ++ r.marks) c → Free r.marks (c - k)
free-right k l r e c h f = sym (get_or-append_right l.marks r.marks k c 0 e h) ∙ f

module _ (inputs : Inputs) (ms : List ℕ) where
  -- the pieces of a text that stands at character a, where what is free in the marks ms is free in the text's own
  parts : (cs : List ℕ) (a : ℕ) (text : List ℕ) (w : Shaped) → Shapes inputs text (shaped w) → Cuts ms a (a + length text) cs → ((c : ℕ) → a ≤ c → Free ms c → Free w.marks (c - a)) → (ps : List Shaped) × Alone inputs (pieces a cs text) ps × (raised a w ≡ together (a ∷ cs) ps)
  parts [] a text w p h f =
      (w ∷ [], (p, tt), λ i. record { run = sym (append-nil (map (raise a) w.run)) i; marks = sym (append-nil w.marks) i; hits = sym (add-zero w.hits) i })
  parts (c ∷ cs) a text w p h f =
      let k : ℕ = c - a in
      let t : List ℕ = take k text in
      let u : List ℕ = drop k text in
      let size : length t ≡ k = length-take-le k text (omega arith) in
      let left : a + length t ≡ c = omega arith in
      let right : c + length u ≡ a + length text = simp length-drop (omega arith) in
      let cut = cut-in-two inputs t u w (subst (λ v. Shapes inputs v (shaped w)) (sym (take-append-drop k text)) p) (subst (Free w.marks) (sym size) (f c h.0 h.2)) in
      let l : Shaped = cut.0 in
      let r : Shaped = cut.1 in
      let own : length l.marks ≡ k = (limits-hold inputs t l cut.2).2 ∙ size in
      let free : (d : ℕ) → c ≤ d → Free ms d → Free r.marks (d - c) =
      λ d m g. let same : d - a - k ≡ d - c = omega arith in subst (Free r.marks) same (free-right k l r own (d - a) (omega arith) (subst (λ v. Free v.marks (d - a)) cut.4 (f d (omega arith) g))) in
      let ih = parts cs c u r cut.3 (subst (λ z. Cuts ms c z cs) (sym right) h.3) free in
      (l ∷ ih.0, (cut.2, ih.1), raised-joined a (length t) c left w l r cut.4 cs ih.0 ih.2)

pub cut-in-pieces : CutInPieces
cut-in-pieces inputs text w cuts p h =
    let all = parts inputs w.marks cuts 0 text w p (subst (λ n. Cuts w.marks 0 n cuts) (sym (zero-add (length text))) h) (λ c m f. subst (Free w.marks) (sym (sub-zero c)) f) in
    (all.0, all.1, (λ i. record { run = sym (raise-none w.run) i; marks = w.marks; hits = w.hits }) ∙ all.2)
