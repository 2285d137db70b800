-- Break marks: the marks of two parts are the marks of the whole, and a mark 0 means a free cluster.
use Rattle.std.proofs.Common.{◌≡◌, ℕ, zero, suc, ◌+◌, ◌-◌, ◌<◌, ◌≤◌, Bool, true, false, cond, ◌||◌, eqb, ltb, List, [], ◌∷◌, ◌++◌, map, length, get_or, sym, refl, ap, ◌∙◌, subst, ap₂, add-zero, add-suc, zero-add, arith}
use mathlib.Core.Bool.{or_assoc, or-false}
use Rattle.std.proofs.ByRecursion.{All-weaker}
use Rattle.std.proofs.lemmas.Bool.{le-ltb, lt-ltb, ne_eqb}
use Rattle.model.specs.declared.Glyph.{Glyph}
use Rattle.model.specs.Shaping.{State, has, marks}
use Rattle.model.specs.Laws.{raise}
use Rattle.model.proofs.Seek.{Clusters}
use Rattle.model.proofs.Shift.{eqb-shift}
use Rattle.model.proofs.Cut.{beside}

abbrev mark : State → ℕ → ℕ
mark s c = cond (s.tied c) (cond (has c s.run) 1 2) 0

has-append : (c : ℕ) (gs hs : List Glyph) → has c (gs ++ hs) ≡ (has c gs || has c hs)
has-append c [] hs = refl
has-append c (g ∷ gs) hs = ap (λ v. eqb g.cluster c || v) (has-append c gs hs) ∙ sym (or_assoc (eqb g.cluster c) (has c gs) (has c hs))

has-none : (c : ℕ) (gs : List Glyph) → Clusters (λ p. p ≡ c → ⊥) gs → has c gs ≡ false
has-none c [] h = refl
has-none c (g ∷ gs) h = rw (ne_eqb g.cluster c h.0) (has-none c gs h.1)

has-raise : (b c : ℕ) (gs : List Glyph) → has (b + c) (map (raise b) gs) ≡ has c gs
has-raise b c [] = refl
has-raise b c (g ∷ gs) = ap₂ (λ u v. u || v) (eqb-shift b g.cluster c) (has-raise b c gs)

has-late : (b c : ℕ) (gs : List Glyph) → c < b → has c (map (raise b) gs) ≡ false
has-late b c [] h = refl
has-late b c (g ∷ gs) h = rw (ne_eqb (b + g.cluster) c (λ e. omega arith)) (has-late b c gs h)

module _ (b m : ℕ) (l r : State) (low : Clusters (λ c. c < b) l.run) where
  mark-left : (c : ℕ) → c < b → mark (beside b m l r) c ≡ mark l c
  mark-left c h = rw (lt-ltb c b h, has-append c l.run (map (raise b) r.run), has-late b c r.run h, or-false (has c l.run))

  mark-right : (c : ℕ) → c < m → mark (beside b m l r) (b + c) ≡ mark r c
  mark-right c h =
      let past : ltb (b + c) b ≡ false = le-ltb (b + c) b (omega arith) in
      let within : ltb (b + c) (b + m) ≡ true = lt-ltb (b + c) (b + m) (omega arith) in
      let same : b + c - b ≡ c = omega arith in
      rw (past, within, same, has-append (b + c) l.run (map (raise b) r.run), has-none (b + c) l.run (All-weaker _ _ (λ g u e. omega arith) l.run low), has-raise b c r.run)

  marks-left : (c n : ℕ) → c + n ≤ b → marks (beside b m l r) c n ≡ marks l c n
  marks-left c zero h = refl
  marks-left c (suc n) h = ap₂ {C = List ℕ} (λ u v. u ∷ v) (mark-left c (omega arith)) (marks-left (suc c) n (omega arith))

  marks-right : (c n : ℕ) → c + n ≤ m → marks (beside b m l r) (b + c) n ≡ marks r c n
  marks-right c zero h = refl
  marks-right c (suc n) h = ap₂ {C = List ℕ} (λ u v. u ∷ v) (mark-right c (omega arith)) (ap (λ u. marks (beside b m l r) u n) (sym (add-suc b c)) ∙ marks-right (suc c) n (omega arith))

marks-append : (s : State) (c a b : ℕ) → marks s c (a + b) ≡ marks s c a ++ marks s (c + a) b
marks-append s c zero b = ap₂ (marks s) (sym (add-zero c)) (zero-add b)
marks-append s c (suc a) b =
    let more : suc a + b ≡ suc (a + b) = omega arith in
    let next : suc c + a ≡ c + suc a = omega arith in
    ap (marks s c) more ∙ ap (λ l. mark s c ∷ l) (marks-append s (suc c) a b ∙ ap (λ u. marks s (suc c) a ++ marks s u b) next)

-- the marks of the whole
pub marks-beside : (b m : ℕ) (l r : State) → Clusters (λ c. c < b) l.run → marks (beside b m l r) 0 (b + m) ≡ marks l 0 b ++ marks r 0 m
marks-beside b m l r low =
    marks-append (beside b m l r) 0 b m
    ∙ ap₂ (λ u v. u ++ v) (marks-left b m l r low 0 b (omega arith)) (ap (λ u. marks (beside b m l r) u m) (zero-add b ∙ sym (add-zero b)) ∙ marks-right b m l r low 0 m (omega arith))

pub length-marks : (s : State) (c n : ℕ) → length (marks s c n) ≡ n
length-marks s c zero = refl
length-marks s c (suc n) = ap suc (length-marks s (suc c) n)

mark-free : (t u : Bool) → ◌≡◌ {A = ℕ} (cond t (cond u 1 2) 0) 0 → t ≡ false
mark-free true true e = cc
mark-free true false e = cc
mark-free false u e = refl

pub marks-free : (s : State) (c n i : ℕ) → i < n → get_or (marks s c n) i 0 ≡ 0 → s.tied (c + i) ≡ false
marks-free s c zero i h e = absurd (omega arith)
marks-free s c (suc n) zero h e = subst (λ u. s.tied u ≡ false) (sym (add-zero c)) (mark-free (s.tied c) (has c s.run) e)
marks-free s c (suc n) (suc i) h e = let next : suc c + i ≡ c + suc i = omega arith in subst (λ u. s.tied u ≡ false) next (marks-free s (suc c) n i (omega arith) e)
