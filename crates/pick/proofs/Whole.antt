-- Where clusters never fall, a line's stretch is all of its records.
use Rattle.std.proofs.Common.{◌≡◌, ℕ, suc, ◌+◌, ◌≤◌, ◌<◌, Bool, true, false, cond, ◌&&◌, List, [], ◌∷◌, take, drop, filter, nat_le, nat_lt, refl, sym, ap, ◌∙◌, subst, arith}
use Rattle.std.specs.List.{AllByRecursion, prefix_len}
use Rattle.std.proofs.ByRecursion.{All-weaker}
use Rattle.std.proofs.lemmas.Bool.{le-leb, lt-leb, ltb-false, ltb-true}
use Rattle.pick.specs.Lines.{before, within}
use Rattle.pick.specs.Laws.{NeverFall}

module _ {R : Type 0} (cluster_of : R → ℕ) (a b : ℕ) where
  abbrev in_line : List R → List R
  in_line rs = filter (within cluster_of a b) rs

  -- a record past the line's end
  past-by : (r : R) (rs : List R) (t u : Bool) → b ≤ cluster_of r → nat_lt (cluster_of r) b ≡ u → in_line rs ≡ [] → cond (t && u) (r ∷ in_line rs) (in_line rs) ≡ []
  past-by r rs true true l e ih = let m : cluster_of r < b = ltb-true (cluster_of r) b e in absurd (omega (arith, l, m))
  past-by r rs true false l e ih = ih
  past-by r rs false u l e ih = ih

  none-left : (rs : List R) → AllByRecursion (λ r. b ≤ cluster_of r) rs → in_line rs ≡ []
  none-left [] h = refl
  none-left (r ∷ rs) h = past-by r rs (nat_le a (cluster_of r)) (nat_lt (cluster_of r) b) h.0 refl (none-left rs h.1)

  abbrev Front : List R → Type 0
  Front rs = take (prefix_len (within cluster_of a b) rs) rs ≡ in_line rs

  front-by : (r : R) (rs : List R) (t u : Bool) → t ≡ true → nat_lt (cluster_of r) b ≡ u → AllByRecursion (λ q. cluster_of r ≤ cluster_of q) rs → Front rs
      → take (cond (t && u) (1 + prefix_len (within cluster_of a b) rs) 0) (r ∷ rs) ≡ cond (t && u) (r ∷ in_line rs) (in_line rs)
  front-by r rs true true e f h ih =
      let one : 1 + prefix_len (within cluster_of a b) rs ≡ suc (prefix_len (within cluster_of a b) rs) = omega arith in
      ap (λ k. take k (r ∷ rs)) one ∙ ap (λ l. r ∷ l) ih
  front-by r rs true false e f h ih =
      let l : b ≤ cluster_of r = ltb-false (cluster_of r) b f in
      sym (none-left rs (All-weaker _ _ (λ q (m : cluster_of r ≤ cluster_of q). omega (arith, l, m)) rs h))
  front-by r rs false u e f h ih = absurd cc

  -- where all have reached the line, it is the stretch in front
  in-front : (rs : List R) → NeverFall cluster_of rs → AllByRecursion (λ r. a ≤ cluster_of r) rs → Front rs
  in-front [] n h = refl
  in-front (r ∷ rs) n h = front-by r rs (nat_le a (cluster_of r)) (nat_lt (cluster_of r) b) (le-leb a (cluster_of r) h.0) refl n.0 (in-front rs n.1 h.1)

  abbrev Whole : (rs : List R) → (first : ℕ) → Type 0
  Whole rs i = take (prefix_len (within cluster_of a b) (drop i rs)) (drop i rs) ≡ in_line rs

  whole-by : (r : R) (rs : List R) (t : Bool) → nat_lt (cluster_of r) a ≡ t → NeverFall cluster_of (r ∷ rs) → Whole rs (prefix_len (before cluster_of a) rs) → Whole (r ∷ rs) (cond t (1 + prefix_len (before cluster_of a) rs) 0)
  whole-by r rs true e n ih =
      let one : 1 + prefix_len (before cluster_of a) rs ≡ suc (prefix_len (before cluster_of a) rs) = omega arith in
      subst (Whole (r ∷ rs)) (sym one) (ih ∙ sym (ap (λ t. cond (t && nat_lt (cluster_of r) b) (r ∷ in_line rs) (in_line rs)) (lt-leb a (cluster_of r) (ltb-true (cluster_of r) a e))))
  whole-by r rs false e n ih =
      let reached : a ≤ cluster_of r = ltb-false (cluster_of r) a e in
      in-front (r ∷ rs) n (reached, All-weaker _ _ (λ q (m : cluster_of r ≤ cluster_of q). omega (arith, reached, m)) rs n.0)

  pub whole : (rs : List R) → NeverFall cluster_of rs → Whole rs (prefix_len (before cluster_of a) rs)
  whole [] n = refl
  whole (r ∷ rs) n = whole-by r rs (nat_lt (cluster_of r) a) refl n (whole rs n.1)
