-- Edits and frames, moved by a number of positions.
use Rattle.std.proofs.Common.{◌≡◌, ℕ, zero, suc, pred, ◌+◌, ◌<◌, ◌≤◌, Bool, true, false, cond, eqb, ltb, leb, List, [], ◌∷◌, map, take, sym, refl, ap, ◌∙◌, add_assoc, add-suc, arith}
use mathlib.Core.List.{map-append}
use mathlib.Core.Option
use lib.ListN.{get_elem?}
use Rattle.std.proofs.lemmas.List.{take-map}
use Rattle.std.proofs.lemmas.Bool.{eqb-false, leb-false, ltb-false}
use Rattle.model.specs.Lookups.{Action, Met, join, nest, put}
use Rattle.model.specs.Edits.{Edit, Frame, edits, frame_at, frame_from, moved_all, moved_end, removals, told, up_from}
use Rattle.model.proofs.Seek.{raise_met}

abbrev pub shift_edit : ℕ → Edit → Edit
shift_edit c e = record { position = c + e.position; into = e.into }

abbrev pub shift_frame : ℕ → Frame → Frame
shift_frame c f = record { positions = map (λ p. c + p) f.positions; «end» = c + f.«end» }

pub ltb-shift : (c p i : ℕ) → ltb (c + p) (c + i) ≡ ltb p i
ltb-shift c p i = grind arith

pub leb-shift : (c p i : ℕ) → leb (c + p) (c + i) ≡ leb p i
leb-shift c p i = grind arith

pub eqb-shift : (c p i : ℕ) → eqb (c + p) (c + i) ≡ eqb p i
eqb-shift c p i = grind arith

-- a position under an edit, by its two tests
abbrev pub moved_to : Bool → Bool → ℕ → ℕ → List ℕ
moved_to t u p n = cond t (p ∷ []) (cond u (up_from p n) (pred (p + n) ∷ []))

module _ (c : ℕ) where
  up-shift : (i n : ℕ) → up_from (c + i) n ≡ map (λ p. c + p) (up_from i n)
  up-shift i zero = refl
  up-shift i (suc n) = ap (λ l. (c + i) ∷ l) (rw (← add-suc) (up-shift (suc i) n))

  to-shift : (t u : Bool) (p i n : ℕ) → ltb p i ≡ t → eqb p i ≡ u → moved_to t u (c + p) n ≡ map (λ q. c + q) (moved_to t u p n)
  to-shift true u p i n e k = refl
  to-shift false true p i n e k = up-shift p n
  to-shift false false p i n e k =
      let apart : p ≡ i → ⊥ = eqb-false p i k in
      let over : i ≤ p = ltb-false p i e in
      let same : pred (c + p + n) ≡ c + pred (p + n) = omega arith in
      ap (λ q. q ∷ []) same

  all-shift : (e : Edit) (ps : List ℕ) → moved_all (shift_edit c e) (map (λ p. c + p) ps) ≡ map (λ p. c + p) (moved_all e ps)
  all-shift e [] = refl
  all-shift e (p ∷ ps) = rw (ltb-shift, eqb-shift, map-append, all-shift e ps, to-shift (ltb p e.position) (eqb p e.position) p e.position e.into refl refl)

  end-shift : (e : Edit) (p : ℕ) → moved_end (shift_edit c e) (c + p) ≡ c + moved_end e p
  end-shift e p = rw leb-shift (by (leb p e.position) refl)
    where
      by : (t : Bool) → leb p e.position ≡ t → cond t (c + p) (pred (c + p + e.into)) ≡ c + cond t p (pred (p + e.into))
      by true k = refl
      by false k =
          let over : e.position < p = leb-false p e.position k in
          let same : pred (c + p + e.into) ≡ c + pred (p + e.into) = omega arith in
          same

  pub told-shift : (es : List Edit) (f : Frame) → told (map (shift_edit c) es) (shift_frame c f) ≡ shift_frame c (told es f)
  told-shift [] f = refl
  told-shift (e ∷ es) f =
      let positions≡ : take 64 (moved_all (shift_edit c e) (map (λ p. c + p) f.positions)) ≡ map (λ p. c + p) (take 64 (moved_all e f.positions)) = rw (all-shift, take-map) in
      ap (told (map (shift_edit c) es)) (λ i. record { positions = positions≡ i; «end» = end-shift e f.«end» i })
      ∙ told-shift es (record { positions = take 64 (moved_all e f.positions); «end» = moved_end e f.«end» })

  module _ (a : ℕ) where
    from-shift : (q : ℕ) (ms : List Met) → frame_from (c + q) (map (raise_met a) ms) ≡ shift_frame c (frame_from q ms)
    from-shift q [] = refl
    from-shift q (m ∷ ms) =
        let same : suc (c + q + m.gap) ≡ c + suc (q + m.gap) = omega arith in
        let rest = ap (λ u. frame_from u (map (raise_met a) ms)) same ∙ from-shift (suc (q + m.gap)) ms in
        λ i. record { positions = add_assoc c q m.gap i ∷ (rest i).positions; «end» = (rest i).«end» }

    pub frame-shift : (p : ℕ) (ms : List Met) → frame_at (c + p) (map (raise_met a) ms) ≡ shift_frame c (frame_at p ms)
    frame-shift p ms =
        let rest = ap (λ u. frame_from u (map (raise_met a) ms)) (sym (add-suc c p)) ∙ from-shift (suc p) ms in
        λ i. record { positions = (c + p) ∷ (rest i).positions; «end» = (rest i).«end» }

    removals-shift : (q : ℕ) (ms : List Met) → removals (c + q) (map (raise_met a) ms) ≡ map (shift_edit c) (removals q ms)
    removals-shift q [] = refl
    removals-shift q (m ∷ ms) = rw add_assoc (ap (λ l. record { position = c + (q + m.gap); into = 0 } ∷ l) (removals-shift (q + m.gap) ms))

    pub edits-shift : (x : Action) (ms : List Met) (p : ℕ) → edits x (map (raise_met a) ms) (c + p) ≡ map (shift_edit c) (edits x ms p)
    edits-shift (put gs) ms p = refl
    edits-shift (join n) ms p = rw (← add-suc) (removals-shift (suc p) ms)
    edits-shift (nest rs) ms p = refl

  pub index-shift : (ps : List ℕ) (i : ℕ) → get_elem? (map (λ p. c + p) ps) i ≡ Option.map (λ p. c + p) (get_elem? ps i)
  index-shift [] i = refl
  index-shift (p ∷ ps) zero = refl
  index-shift (p ∷ ps) (suc i) = index-shift ps i
