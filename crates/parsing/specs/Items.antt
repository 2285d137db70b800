-- A word of items that are parted by commas, and what an item of a plan says.
use Rattle.std.specs.Prelude.{ℕ, ◌≡◌, List, [], ◌∷◌, ◌++◌, length, map, take, drop, ◌==◌, Bool, true, if◌then◌else◌}
use Rattle.std.specs.List.{before_first, after_first, slice_split, list_any}
use Rattle.std.specs.Str.Parse.{digits_value}
use Rattle.model.specs.declared.Entry.{Entry}
use Rattle.parsing.specs.Number.{IsShort}

-- The items of a word; an empty word has none.
abbrev pub items_in : List ℕ → List (List ℕ)
items_in [] = []
items_in (b ∷ bs) = slice_split (λ c. c == 44) (b ∷ bs)

-- An item is parted at its first equals sign, if it has one.
abbrev pub before_equals : List ℕ → List ℕ
before_equals item = before_first (λ b. b == 61) item

abbrev pub after_equals : List ℕ → List ℕ
after_equals item = after_first (λ b. b == 61) item

abbrev pub has_equals : List ℕ → Bool
has_equals item = list_any (λ b. b == 61) item

-- It has the lookup's number, and behind an equals sign an alternate value.
abbrev pub IsEntry : List ℕ → Type 0
IsEntry item = IsShort (before_equals item) × (has_equals item ≡ true → IsShort (after_equals item))

abbrev pub entry_in : List ℕ → Entry
entry_in item = record { lookup = digits_value 10 (before_equals item); alternate = if has_equals item then digits_value 10 (after_equals item) else 1 }

-- A word's plan, up to the 65th entry: a plan of more than 64 is refused when a text is shaped.
abbrev pub plan_in : List ℕ → List Entry
plan_in word = take 65 (map entry_in (items_in word))

-- Places that values are put into, from the first on, as many as there is room for. The others stay.
abbrev pub put_into : {X : Type 0} → List X → List X → List X
put_into places values = take (length places) values ++ drop (length values) places
