-- Where a loop stands in what it walks.
use Rattle.std.proofs.Common.{◌≡◌, ℕ, ◌+◌, ◌<◌, List, [], ◌∷◌, ◌++◌, Bor, length, take, drop, get_or, map, subst, sym, ap, ◌∙◌, append_assoc, length-append, arith}
use Rattle.std.specs.List.{AllByRecursion, enumerate_from}
use Rattle.std.proofs.lemmas.List.{take-append-drop, take-map, drop_more}
use Rattle.std.proofs.lemmas.Simd.{map-map}
use Rattle.std.proofs.Math.Seq.{take-append_seam}
use Rattle.std.proofs.lemmas.List.{length-map}
use Rattle.std.proofs.lemmas.List.FromFn.{get_or-enumerate_from, length-enumerate_from}
use Rattle.parsing.specs.Faults.{IsFirstBad}
use Rattle.parsing.proofs.Numbered.{elements, one_more}

-- A list is what stands before a place, what stands there, and the rest.
pub parted : {X : Type 0} (xs : List X) (k : ℕ) (x : X) → k < length xs → x ≡ get_or xs k x → xs ≡ take k xs ++ x ∷ drop (k + 1) xs
parted xs k x l e = sym (take-append-drop k xs) ∙ ap (λ r. take k xs ++ r) (drop_more xs k x l ∙ ap (λ y. y ∷ drop (k + 1) xs) (sym e))

-- What is true of all is true of one that stands between others.
pub one_of_all : {X : Type 0} (P : X → Type 0) (front : List X) (x : X) (rest : List X) → AllByRecursion P (front ++ x ∷ rest) → P x
one_of_all P [] x rest all = all.0
one_of_all P (y ∷ front) x rest all = one_of_all P front x rest all.1

-- The same place in numbered elements: the elements before it, and its number.
pub numbered_place : {X Y : Type 0} (v : X → Y) (xs : List (ℕ × X)) (i : ℕ) (x : X) (ys : List Y)
    → map (λ p. (p.0, v p.1)) xs ≡ take (length xs) (enumerate_from 0 ys)
    → length xs < length (enumerate_from 0 ys) → (i, v x) ≡ get_or (enumerate_from 0 ys) (length xs) (i, v x)
    → (ys ≡ map (λ p. v p.1) xs ++ v x ∷ drop (length xs + 1) ys) × (i ≡ length xs)
numbered_place {X} {Y} v xs i x ys before within here =
    let front : map (λ p. v p.1) xs ≡ take (length xs) ys =
    sym (map-map (λ (q : ℕ × Y). q.1) (λ p. (p.0, v p.1)) xs) ∙ ap (map (λ (q : ℕ × Y). q.1)) before
    ∙ sym (take-map (λ (q : ℕ × Y). q.1) (length xs) (enumerate_from 0 ys)) ∙ ap (take (length xs)) (elements 0 ys) in
    let inside : length xs < length ys = omega (arith, within, length-enumerate_from 0 ys) in
    let at : (i, v x) ≡ (0 + length xs, get_or ys (length xs) (v x)) = here ∙ get_or-enumerate_from 0 ys (length xs) (i, v x) inside in
    let number : i ≡ 0 + length xs = ap (λ (q : ℕ × Y). q.0) at in
    let parts = parted ys (length xs) (v x) inside (ap (λ (q : ℕ × Y). q.1) at) in
    (parts ∙ ap (λ f. f ++ v x ∷ drop (length xs + 1) ys) (sym front), omega (arith, number))

-- A loop over numbered lines has come to the first that is not good.
pub first_bad : (Good : List ℕ → Type 0) (xs : List (ℕ × Bor (List ℕ))) (i : ℕ) (line : Bor (List ℕ)) (all : List (List ℕ))
    → map (λ p. (p.0, p.1.now)) xs ≡ take (length xs) (enumerate_from 0 all)
    → length xs < length (enumerate_from 0 all) → (i, line.now) ≡ get_or (enumerate_from 0 all) (length xs) (i, line.now)
    → AllByRecursion Good (map (λ p. p.1.now) xs) → ¬ (Good line.now) → IsFirstBad Good all (i + 1)
first_bad Good xs i line all before within here good bad =
    let place = numbered_place (λ (b : Bor (List ℕ)). b.now) xs i line all before within here in
    let front = map (λ (p : ℕ × Bor (List ℕ)). p.1.now) xs in
    (front, drop (length xs + 1) all, line.now, place.0, omega (arith, place.1, length-map xs (λ (p : ℕ × Bor (List ℕ)). p.1.now)), good, bad)

-- It has come to one more that is.
pub one_more_good : (Good : List ℕ → Type 0) (xs : List (ℕ × Bor (List ℕ))) (i : ℕ) (line : Bor (List ℕ)) (all : List (List ℕ)) (n : ℕ)
    → map (λ p. (p.0, p.1.now)) xs ≡ take (length xs) (enumerate_from 0 all)
    → length xs < length (enumerate_from 0 all) → (i, line.now) ≡ get_or (enumerate_from 0 all) (length xs) (i, line.now)
    → AllByRecursion Good (map (λ p. p.1.now) xs) → Good line.now → n ≡ length xs + 1 → AllByRecursion Good (take n all)
one_more_good Good xs i line all n before within here good next e =
    let place = numbered_place (λ (b : Bor (List ℕ)). b.now) xs i line all before within here in
    let front = map (λ (p : ℕ × Bor (List ℕ)). p.1.now) xs in
    let more = front ++ line.now ∷ [] in
    let count : n ≡ length more = omega (arith, e, length-map xs (λ (p : ℕ × Bor (List ℕ)). p.1.now), length-append front (line.now ∷ [])) in
    let whole : all ≡ more ++ drop (length xs + 1) all = place.0 ∙ sym (append_assoc front (line.now ∷ []) (drop (length xs + 1) all)) in
    let first : take n all ≡ more = ap (λ k. take k all) count ∙ ap (take (length more)) whole ∙ take-append_seam more (drop (length xs + 1) all) in
    subst (AllByRecursion Good) (sym first) (one_more Good front line.now good next)
