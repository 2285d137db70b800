-- The lists of a loop over calls.
use Rattle.std.proofs.Common.{◌≡◌, ℕ, ◌+◌, ◌<◌, ◌≤◌, List, [], ◌∷◌, ◌++◌, drop, get_or, length, map, min, set, take, refl, sym, ap, ◌∙◌, arith}
use Rattle.std.proofs.lemmas.List.{drop-drop, drop-map, drop-set-lt, get_or-take, length-map, length-take, map-append, map_more, map_push, take-append-drop, take-map, take_min, take_more_set}

module _ {A B : Type 0} (f : A → B) where
  -- one call more
  pub one-more : (xs : List A) (n i : ℕ) (x : A) → x ≡ get_or (take n xs) i x → i < n → i < length xs → take (i + 1) (map f xs) ≡ take i (map f xs) ++ f x ∷ []
  one-more xs n i x e h g =
      take-map f (i + 1) xs ∙ map_more f xs i x g ∙ ap (λ l. l ++ f (get_or xs i x) ∷ []) (sym (take-map f i xs)) ∙ ap (λ y. take i (map f xs) ++ f y ∷ []) (sym (e ∙ get_or-take n xs i x h))

  -- one answer more
  pub one-written : (xs : List A) (i : ℕ) (x : A) → i < length xs → map f (take (i + 1) (set xs i x)) ≡ map f (take i xs) ++ f x ∷ []
  one-written xs i x h = ap (map f) (take_more_set xs i x h) ∙ map_push f (take i xs) x

  -- so many answers were written, and behind them stand those that were there
  pub all-written : (xs old : List A) (i : ℕ) → i ≤ length xs → drop i xs ≡ drop i old → map f xs ≡ map f (take i xs) ++ drop (length (map f (take i xs))) (map f old)
  all-written xs old i h e =
      let long : length (map f (take i xs)) ≡ i = length-map (take i xs) f ∙ length-take i xs ∙ omega (arith, h) in
      ap (map f) (sym (take-append-drop i xs)) ∙ map-append f (take i xs) (drop i xs) ∙ ap (λ l. map f (take i xs) ++ l) (ap (map f) e ∙ sym (drop-map f i old) ∙ ap (λ n. drop n (map f old)) (sym long))

pub same-behind : {A : Type 0} (xs old : List A) (i : ℕ) (x : A) → drop i xs ≡ drop i old → drop (i + 1) (set xs i x) ≡ drop (i + 1) old
same-behind xs old i x e = drop-set-lt (i + 1) xs i x (omega arith) ∙ sym (drop-drop 1 i xs) ∙ ap (drop 1) e ∙ drop-drop 1 i old

pub as-many-as : {A : Type 0} (xs : List A) (n i : ℕ) → i ≡ min n (length xs) → take i xs ≡ take n xs
as-many-as xs n i e = ap (λ i. take i xs) e ∙ take_min n xs
