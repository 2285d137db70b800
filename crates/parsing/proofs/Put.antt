-- One item more: in a table with room for so many, and in places that values are put into.
use Rattle.std.proofs.Common.{◌≡◌, ℕ, ◌<◌, ◌≤◌, zero, suc, nat_lt, List, [], ◌∷◌, ◌++◌, Bool, true, false, cond, length, take, drop, set, refl, sym, ap, ◌∙◌, arith, ltb-true, ltb-false, take_all, length-take, length-append}
use Rattle.std.proofs.lemmas.Bool.Decides.{nat_tests}
use Rattle.std.proofs.lemmas.List.{take-append-le}
use Rattle.parsing.specs.Items.{put_into}

take-none : {X : Type 0} (n : ℕ) → take {A = X} n [] ≡ []
take-none zero = refl
take-none (suc n) = refl

drop-none : {X : Type 0} (n : ℕ) → drop {A = X} n [] ≡ []
drop-none zero = refl
drop-none (suc n) = refl

not_less : (m n : ℕ) → m ≡ n → nat_lt m n ≡ false
not_less m n e = grind (arith, nat_tests)

-- a table of n items at most takes an item as the list of the first n does
pub push_take : {X : Type 0} (n : ℕ) (xs : List X) (x : X) → cond (nat_lt (length (take n xs)) n) (take n xs ++ x ∷ []) (take n xs) ≡ take n (xs ++ x ∷ [])
push_take n xs x = by (nat_lt (length xs) n) refl where
  by : (t : Bool) → nat_lt (length xs) n ≡ t → cond (nat_lt (length (take n xs)) n) (take n xs ++ x ∷ []) (take n xs) ≡ take n (xs ++ x ∷ [])
  by true e =
      let less : length xs < n = ltb-true (length xs) n e in
      let held : take n xs ≡ xs = take_all n xs (omega (arith, less)) in
      ap (λ l. cond (nat_lt (length l) n) (l ++ x ∷ []) l) held ∙ ap (λ t. cond t (xs ++ x ∷ []) xs) e
      ∙ sym (take_all n (xs ++ x ∷ []) (omega (arith, less, length-append xs (x ∷ []))))
  by false e =
      let many : n ≤ length xs = ltb-false (length xs) n e in
      let full : nat_lt (length (take n xs)) n ≡ false = not_less (length (take n xs)) n (omega (arith, many, length-take n xs)) in
      ap (λ t. cond t (take n xs ++ x ∷ []) (take n xs)) full ∙ sym (take-append-le n xs (x ∷ []) many)

-- one value more is put into the place behind the last
pub set_put : (ps vs : List ℕ) (v : ℕ) → set (put_into ps vs) (length vs) v ≡ put_into ps (vs ++ v ∷ [])
set_put [] vs v = ap (λ l. set l (length vs) v) (drop-none (length vs)) ∙ sym (drop-none (length (vs ++ v ∷ [])))
set_put (p ∷ ps) [] v = ap (λ l. v ∷ (l ++ ps)) (sym (take-none (length ps)))
set_put (p ∷ ps) (w ∷ vs) v = ap (λ l. w ∷ l) (set_put ps vs v)
