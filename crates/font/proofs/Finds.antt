-- The library's word for what `find` gives is the same function.
use Rattle.std.proofs.Common.{◌≡◌, Bool, List, [], ◌∷◌, cond, Some, refl, ap}
use Rattle.std.specs.List.{find}
use Rattle.font.specs.Search.{first_that}

pub find-first_that : {X : Type 0} (test : X → Bool) (xs : List X) → find test xs ≡ first_that test xs
find-first_that test [] = refl
find-first_that test (x ∷ xs) = ap (cond (test x) (Some x)) (find-first_that test xs)
