-- A search in ranges that rise.
use Rattle.std.proofs.Common.{◌≡◌, ℕ, ◌+◌, ◌<◌, ◌≤◌, Bool, true, false, cond, leb, List, [], ◌∷◌, ◌++◌, length, get_or, take, drop, Some, None, Option, sym, refl, ap, ◌∙◌, subst, arith}
use Rattle.std.proofs.lemmas.List.{take-append-drop, drop_more, take_more}
use Rattle.std.proofs.lemmas.Bool.{leb-true}
use Rattle.std.proofs.lemmas.Bool.Decides.{nat_tests}
use Rattle.layout.specs.declared.array.Range.{Range}
use Rattle.layout.specs.Ranges.{holds, holding, Rises}

-- no range of the first list holds x: those of the second decide
holds_not : (x : ℕ) (a : Range) (here : Option Range) (t : Bool) → holds x a ≡ t → cond t (Some a) here ≡ None → (holds x a ≡ false) × (here ≡ None)
holds_not x a here true p q = absurd cc
holds_not x a here false p q = (p, q)

holding-behind : (x : ℕ) (xs ys : List Range) → holding x xs ≡ None → holding x (xs ++ ys) ≡ holding x ys
holding-behind x [] ys e = refl
holding-behind x (a ∷ xs) ys e =
    let h = holds_not x a (holding x xs) (holds x a) refl e in
    ap (λ u. cond u (Some a) (holding x (xs ++ ys))) h.0 ∙ holding-behind x xs ys h.1

-- all begin at `low` or above
low_below : (low : ℕ) (xs : List Range) (r : Range) (ys : List Range) → Rises low (xs ++ r ∷ ys) → low ≤ r.first
low_below low [] r ys h = leb-true low r.first h.0
low_below low (a ∷ xs) r ys h =
    let p = leb-true low a.first h.0 in
    let q = leb-true a.first a.last h.1 in
    let k = low_below (a.last + 1) xs r ys h.2 in
    omega arith

-- so those before a range end before it begins
none_below : (x low : ℕ) (xs : List Range) (r : Range) (ys : List Range) → Rises low (xs ++ r ∷ ys) → r.first ≤ x → holding x xs ≡ None
none_below x low [] r ys h le = refl
none_below x low (a ∷ xs) r ys h le =
    let k = low_below (a.last + 1) xs r ys h.2 in
    let f : holds x a ≡ false = grind (arith, nat_tests) in
    ap (λ u. cond u (Some a) (holding x xs)) f ∙ none_below x (a.last + 1) xs r ys h.2 le

-- and those behind it begin after it ends
none_above : (x low : ℕ) (xs : List Range) → Rises low xs → x < low → holding x xs ≡ None
none_above x low [] h lt = refl
none_above x low (a ∷ xs) h lt =
    let p = leb-true low a.first h.0 in
    let q = leb-true a.first a.last h.1 in
    let f : holds x a ≡ false = grind (arith, nat_tests) in
    ap (λ u. cond u (Some a) (holding x xs)) f ∙ none_above x (a.last + 1) xs h.2 (omega arith)

rises-behind : (low : ℕ) (xs : List Range) (r : Range) (ys : List Range) → Rises low (xs ++ r ∷ ys) → (leb r.first r.last ≡ true) × Rises (r.last + 1) ys
rises-behind low [] r ys h = (h.1, h.2)
rises-behind low (a ∷ xs) r ys h = rises-behind (a.last + 1) xs r ys h.2

module _ (x : ℕ) (rs : List Range) (rise : Rises 0 rs) (k : ℕ) (inside : k < length rs) (r : Range) (is : r ≡ get_or rs k r) where
  parts : rs ≡ take k rs ++ r ∷ drop (k + 1) rs
  parts = sym (take-append-drop k rs) ∙ ap (λ u. take k rs ++ u) (drop_more rs k r inside ∙ ap (λ u. u ∷ drop (k + 1) rs) (sym is))

  rise-parts : Rises 0 (take k rs ++ r ∷ drop (k + 1) rs)
  rise-parts = subst (Rises 0) parts rise

  -- x lies before range k: nothing from it on holds x
  pub search-left : x < r.first → holding x (drop k rs) ≡ None
  search-left lt =
      let b = rises-behind 0 (take k rs) r (drop (k + 1) rs) rise-parts in
      let q = leb-true r.first r.last b.0 in
      let f : holds x r ≡ false = grind (arith, nat_tests) in
      ap (holding x) (drop_more rs k r inside ∙ ap (λ u. u ∷ drop (k + 1) rs) (sym is))
      ∙ ap (λ u. cond u (Some r) (holding x (drop (k + 1) rs))) f ∙ none_above x (r.last + 1) (drop (k + 1) rs) b.1 (omega arith)

  -- x lies behind range k: nothing up to it holds x
  pub search-right : r.last < x → holding x (take (k + 1) rs) ≡ None
  search-right lt =
      let b = rises-behind 0 (take k rs) r (drop (k + 1) rs) rise-parts in
      let q = leb-true r.first r.last b.0 in
      let f : holds x r ≡ false = grind (arith, nat_tests) in
      ap (holding x) (take_more rs k r inside ∙ ap (λ u. take k rs ++ u ∷ []) (sym is))
      ∙ holding-behind x (take k rs) (r ∷ []) (none_below x 0 (take k rs) r (drop (k + 1) rs) rise-parts (omega arith))
      ∙ ap (λ u. cond {A = Option Range} u (Some r) None) f

  -- range k holds x
  pub search-found : r.first ≤ x → x ≤ r.last → holding x rs ≡ Some r
  search-found low high =
      let f : holds x r ≡ true = grind (arith, nat_tests) in
      ap (holding x) parts ∙ holding-behind x (take k rs) (r ∷ drop (k + 1) rs) (none_below x 0 (take k rs) r (drop (k + 1) rs) rise-parts low)
      ∙ ap (λ u. cond u (Some r) (holding x (drop (k + 1) rs))) f

-- nothing before, and nothing from there on
pub search-none : (x : ℕ) (rs : List Range) (k : ℕ) → holding x (take k rs) ≡ None → holding x (drop k rs) ≡ None → holding x rs ≡ None
search-none x rs k a b = ap (holding x) (sym (take-append-drop k rs)) ∙ holding-behind x (take k rs) (drop k rs) a ∙ b
