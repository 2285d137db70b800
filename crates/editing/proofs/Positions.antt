-- A position by its index, as the definitions read it.
use Rattle.std.proofs.Common.{◌≡◌, ℕ, zero, suc, List, [], ◌∷◌, Some, None, refl}
use Rattle.std.proofs.Math.Option.{some, none}
use Rattle.std.proofs.Math.ListN.{get_elem?}
use Rattle.std.specs.List.{slice_get}

pub index-some : (ps : List ℕ) (i p : ℕ) → slice_get ps i ≡ Some p → get_elem? ps i ≡ some p
index-some [] i p e = absurd cc
index-some (q ∷ ps) zero p e = let same : q ≡ p = cc in cc
index-some (q ∷ ps) (suc i) p e = index-some ps i p e

pub index-none : (ps : List ℕ) (i : ℕ) → slice_get ps i ≡ None → get_elem? ps i ≡ none
index-none [] i e = refl
index-none (q ∷ ps) zero e = absurd cc
index-none (q ∷ ps) (suc i) e = index-none ps i e
