-- Items of a word, and an item without an equals sign.
use Rattle.std.proofs.Common.{◌≡◌, ◌==◌, ℕ, Bool, false, List, [], ◌∷◌, length, cond, refl, sym, ap, ◌∙◌, arith}
use Rattle.std.specs.List.{position_or_len, before_first, list_any, slice_split}
use Rattle.std.specs.Str.Parse.{digits_value}
use Rattle.parsing.specs.Items.{items_in, entry_in, before_equals, after_equals, has_equals}
use Rattle.std.proofs.lemmas.List.Folds.{list_any_none}
use Rattle.std.proofs.lemmas.List.Sums.{fails_before_first}
use Rattle.std.proofs.lemmas.List.{take_all}

pub none_passes : {X : Type 0} (p : X → Bool) (xs : List X) → position_or_len p xs ≡ length xs → list_any p xs ≡ false
none_passes p xs e = list_any_none p xs (λ k d l. fails_before_first p xs k d (omega (arith, e)))

pub all_before : {X : Type 0} (p : X → Bool) (xs : List X) → position_or_len p xs ≡ length xs → before_first p xs ≡ xs
all_before p xs e = take_all (position_or_len p xs) xs (omega (arith, e))

-- a word that is not empty is cut at its commas
pub items_of_some : (word : List ℕ) → (length word == 0) ≡ false → items_in word ≡ slice_split (λ b. b == 44) word
items_of_some [] e = cc
items_of_some (b ∷ bs) e = refl

-- an item without an equals sign has the alternate value 1
pub entry_without : (item : List ℕ) (lookup : ℕ) → has_equals item ≡ false → before_equals item ≡ item → lookup ≡ digits_value 10 item → record { lookup = lookup; alternate = 1 } ≡ entry_in item
entry_without item lookup none whole value =
    let l : lookup ≡ digits_value 10 (before_equals item) = value ∙ ap (digits_value 10) (sym whole) in
    let a : 1 ≡ cond (has_equals item) (digits_value 10 (after_equals item)) 1 = sym (ap (λ b. cond b (digits_value 10 (after_equals item)) 1) none) in
    λ i. record { lookup = l i; alternate = a i }
