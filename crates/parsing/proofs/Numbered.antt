-- Elements that come with their index, and what is true of one more.
use Rattle.std.proofs.Common.{◌≡◌, ℕ, ◌+◌, List, [], ◌∷◌, ◌++◌, map, refl, sym, ap, ◌∙◌}
use Rattle.std.specs.List.{AllByRecursion, AllZip, enumerate_from}
use Rattle.std.proofs.lemmas.Simd.{map-map}

pub elements : {Y : Type 0} (n : ℕ) (ys : List Y) → map (λ (p : ℕ × Y). p.1) (enumerate_from n ys) ≡ ys
elements n [] = refl
elements n (y ∷ ys) = ap (λ l. y ∷ l) (elements (n + 1) ys)

pub enumerated : {X Y : Type 0} (v : X → Y) (n : ℕ) (xs : List (ℕ × X)) (ys : List Y) → map (λ p. (p.0, v p.1)) xs ≡ enumerate_from n ys → map (λ p. v p.1) xs ≡ ys
enumerated {X} {Y} v n xs ys e = sym (map-map (λ (q : ℕ × Y). q.1) (λ p. (p.0, v p.1)) xs) ∙ ap (map (λ (q : ℕ × Y). q.1)) e ∙ elements n ys

pub one_more : {X : Type 0} (P : X → Type 0) (xs : List X) (x : X) → AllByRecursion P xs → P x → AllByRecursion P (xs ++ x ∷ [])
one_more P [] x all here = (here, tt)
one_more P (y ∷ ys) x all here = (all.0, one_more P ys x all.1 here)

pub one_pair_more : {X Y : Type 0} (R : X → Y → Type 0) (xs : List X) (ys : List Y) (x : X) (y : Y) → AllZip R xs ys → R x y → AllZip R (xs ++ x ∷ []) (ys ++ y ∷ [])
one_pair_more R [] [] x y all here = (here, tt)
one_pair_more R [] (z ∷ ys) x y all here = absurd all
one_pair_more R (w ∷ xs) [] x y all here = absurd all
one_pair_more R (w ∷ xs) (z ∷ ys) x y all here = (all.0, one_pair_more R xs ys x y all.1 here)
