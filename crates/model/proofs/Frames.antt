-- Edits fit the run that they change, the positions and ends of open matches stay inside it, and nothing moves before the position of the attempt.
use Rattle.std.proofs.Common.{◌≡◌, ℕ, zero, suc, pred, ◌+◌, ◌<◌, ◌≤◌, Bool, true, false, cond, eqb, ltb, leb, List, [], ◌∷◌, ◌++◌, length, take, drop, sym, refl, ◌∙◌, subst, zero-le, arith, length-drop, length-take}
use mathlib.Core.Option.{some}
use lib.ListN.{get_elem?}
use Rattle.std.specs.List.{AllByRecursion}
use Rattle.std.proofs.lemmas.List.{length-append, length-map}
use Rattle.std.proofs.ByRecursion.{All-append, All-take, All-weaker}
use Rattle.std.proofs.lemmas.Bool.{eqb-false, leb-true, ltb-false, ltb-true}
use Rattle.model.specs.declared.Glyph.{Glyph}
use Rattle.model.specs.Lookups.{Action, Met, join, nest, put}
use Rattle.model.specs.Edits.{Edit, Frame, changed, edits, frame_at, frame_from, moved_all, moved_end, removals, told, up_from, without}
use Rattle.model.proofs.Seek.{Good}
use Rattle.model.proofs.Shift.{moved_to}

-- the edits fit a run of a glyphs, none stands before `at`, and they leave b glyphs
abbrev pub Valid : ℕ → List Edit → ℕ → ℕ → Type 0
Valid at [] a b = a ≡ b
Valid at (e ∷ es) a b = (at ≤ e.position) × (e.position < a) × Valid at es (pred (a + e.into)) b

pub valid-append : (at : ℕ) (es es' : List Edit) (a b c : ℕ) → Valid at es a b → Valid at es' b c → Valid at (es ++ es') a c
valid-append at [] es' a b c h k = subst (λ u. Valid at es' u c) (sym h) k
valid-append at (e ∷ es) es' a b c h k = (h.0, h.1, valid-append at es es' _ b c h.2 k)

pub valid-weaker : (at q : ℕ) (es : List Edit) (a b : ℕ) → at ≤ q → Valid q es a b → Valid at es a b
valid-weaker at q [] a b l h = h
valid-weaker at q (e ∷ es) a b l h = (omega arith, h.1, valid-weaker at q es _ b l h.2)

pub valid-from : (at : ℕ) (es : List Edit) (a b : ℕ) → at ≤ a → Valid at es a b → at ≤ b
valid-from at [] a b l h = omega arith
valid-from at (e ∷ es) a b l h = valid-from at es (pred (a + e.into)) b (omega arith) h.2

-- positions from `at` on in a run of a glyphs
abbrev pub Within : ℕ → ℕ → List ℕ → Type 0
Within at a = AllByRecursion (λ p. (at ≤ p) × (p < a))

abbrev pub FrameIn : ℕ → ℕ → Frame → Type 0
FrameIn at a f = Within at a f.positions × (f.«end» ≤ a)

pub frame-weaker : (at a : ℕ) (f : Frame) → FrameIn at a f → FrameIn 0 a f
frame-weaker at a f h = (All-weaker _ _ (λ p u. (zero-le, u.1)) f.positions h.0, h.1)

module _ (at : ℕ) where
  up_in : (i n a : ℕ) → at ≤ i → i + n ≤ a → Within at a (up_from i n)
  up_in i zero a l h = tt
  up_in i (suc n) a l h = ((l, omega arith), up_in (suc i) n a (omega arith) (omega arith))

  to_in : (t u : Bool) (p i n a : ℕ) → at ≤ p → at ≤ i → p < a → i < a → ltb p i ≡ t → eqb p i ≡ u → Within at (pred (a + n)) (moved_to t u p n)
  to_in true u p i n a l m h k e f = let low : p < i = ltb-true p i e in ((l, omega arith), tt)
  to_in false true p i n a l m h k e f = up_in p n (pred (a + n)) l (omega arith)
  to_in false false p i n a l m h k e f =
      let apart : p ≡ i → ⊥ = eqb-false p i f in
      let over : i ≤ p = ltb-false p i e in
      ((omega arith, omega arith), tt)

  all_in : (e : Edit) (a : ℕ) → at ≤ e.position → e.position < a → (ps : List ℕ) → Within at a ps → Within at (pred (a + e.into)) (moved_all e ps)
  all_in e a l h [] k = tt
  all_in e a l h (p ∷ ps) k =
      All-append _ (moved_to (ltb p e.position) (eqb p e.position) p e.into) (moved_all e ps)
      (to_in (ltb p e.position) (eqb p e.position) p e.position e.into a k.0.0 l k.0.1 h refl refl) (all_in e a l h ps k.1)

  end-in : (e : Edit) (a p : ℕ) → e.position < a → p ≤ a → moved_end e p ≤ pred (a + e.into)
  end-in e a p h k = by (leb p e.position) refl
    where
      by : (t : Bool) → leb p e.position ≡ t → cond t p (pred (p + e.into)) ≤ pred (a + e.into)
      by true u = let low : p ≤ e.position = leb-true p e.position u in let r : p ≤ pred (a + e.into) = omega arith in r
      by false u = let r : pred (p + e.into) ≤ pred (a + e.into) = omega arith in r

  pub told_in : (es : List Edit) (a b : ℕ) (f : Frame) → Valid at es a b → FrameIn at a f → FrameIn at b (told es f)
  told_in [] a b f v h = subst (λ u. FrameIn at u f) v h
  told_in (e ∷ es) a b f v h =
      told_in es (pred (a + e.into)) b (record { positions = take 64 (moved_all e f.positions); «end» = moved_end e f.«end» }) v.2
      (All-take _ 64 (moved_all e f.positions) (all_in e a v.0 v.1 f.positions h.0), end-in e a f.«end» v.1 h.1)

  pub index_in : (a : ℕ) (ps : List ℕ) (i q : ℕ) → Within at a ps → get_elem? ps i ≡ some q → (at ≤ q) × (q < a)
  index_in a [] i q h e = let z : ◌≡◌ {A = ℕ} 0 1 = cc in absurd (omega arith)
  index_in a (p ∷ ps) zero q h e = let same : p ≡ q = cc in (omega arith, omega arith)
  index_in a (p ∷ ps) (suc i) q h e = index_in a ps i q h.1 e

  module _ (Q : ℕ → Type 0) where
    from_in : (q a : ℕ) (ms : List Met) (gs : List Glyph) → at ≤ q → Good Q ms gs → q + length gs ≡ a → FrameIn at a (frame_from q ms)
    from_in q a [] gs l g e = (tt, omega arith)
    from_in q a (m ∷ ms) gs l g e =
        let rest : suc (q + m.gap) + length (drop (suc m.gap) gs) ≡ a = simp length-drop (omega arith) in
        let ih = from_in (suc (q + m.gap)) a ms (drop (suc m.gap) gs) (omega arith) g.2 rest in
        (((omega arith, omega arith), ih.0), ih.1)

    removals-valid : (q a b : ℕ) (ms : List Met) (gs : List Glyph) → at ≤ q → Good Q ms gs → q + length gs ≡ a → q + length (without ms gs) ≡ b → Valid at (removals q ms) a b
    removals-valid q a b [] gs l g e f = sym e ∙ f
    removals-valid q a b (m ∷ ms) gs l g e f =
        let short : length (take m.gap gs) ≡ m.gap = simp length-take (omega arith) in
        let all : length (take m.gap gs ++ without ms (drop (suc m.gap) gs)) ≡ m.gap + length (without ms (drop (suc m.gap) gs)) = simp (length-append, short) in
        (omega arith, omega arith, removals-valid (q + m.gap) _ b ms (drop (suc m.gap) gs) (omega arith) g.2 (simp length-drop (omega arith)) (omega arith))

module _ (Q : ℕ → Type 0) where
  pub frame-in : (p : ℕ) (ms : List Met) (run : List Glyph) → p < length run → Good Q ms (drop (suc p) run) → FrameIn p (length run) (frame_at p ms)
  frame-in p ms run h g =
      let all : suc p + length (drop (suc p) run) ≡ length run = simp length-drop (omega arith) in
      let rest = from_in p Q (suc p) (length run) ms (drop (suc p) run) (omega arith) g all in
      (((omega arith, h), rest.0), rest.1)

  pub edits-valid : (x : Action) (own : ℕ) (ms : List Met) (i : ℕ) (gs : List Glyph) → i < length gs → Good Q ms (drop (suc i) gs) → Valid i (edits x ms i) (length gs) (length (changed x own ms i gs))
  edits-valid (put ns) own ms i gs h g = (omega arith, h, simp (length-append, length-take, length-map, length-drop) (omega arith))
  edits-valid (join c) own ms i gs h g =
      removals-valid i Q (suc i) _ _ ms (drop (suc i) gs) (omega arith) g (simp length-drop (omega arith)) (simp (length-map, length-append, length-take) (omega arith))
  edits-valid (nest rs) own ms i gs h g = refl
