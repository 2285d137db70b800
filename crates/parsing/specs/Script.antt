-- What a line of a script says: a call of a list.
use Rattle.std.specs.Prelude.{ℕ, ◌≡◌, List, [], ◌∷◌, ◌==◌, codes}
use Rattle.std.specs.List.{slice_split}
use Rattle.std.specs.Str.Parse.{digits_value}
use Rattle.paragraph.specs.declared.calls.Call.{Call}
use Rattle.parsing.specs.Number.{IsNumber}

-- A call as a script writes it: shape brings nothing.
abbrev pub ScriptCall : Type 0
ScriptCall = Call (Unit {0})

-- The words of a line, parted by single spaces.
abbrev pub words_in : List ℕ → List (List ℕ)
words_in line = slice_split (λ b. b == 32) line

-- A word that writes a number.
abbrev pub Writes : List ℕ → ℕ → Type 0
Writes word n = IsNumber word × (digits_value 10 word ≡ n)

-- A call is its name and its numbers.
abbrev pub Says : List (List ℕ) → ScriptCall → Type 0
Says words (Call.Shape nothing) = words ≡ codes "shape" ∷ []
Says words (Call.Line a b) = (from to : List ℕ) × (words ≡ codes "line" ∷ from ∷ to ∷ []) × Writes from a × Writes to b
Says words (Call.Pay slip) = (word : List ℕ) × (words ≡ codes "pay" ∷ word ∷ []) × Writes word slip
Says words (Call.Waive slip) = (word : List ℕ) × (words ≡ codes "waive" ∷ word ∷ []) × Writes word slip
Says words Call.Clear = words ≡ codes "clear" ∷ []

-- A line that says some call.
abbrev pub IsCall : List ℕ → Type 0
IsCall line = (call : ScriptCall) × Says (words_in line) call
