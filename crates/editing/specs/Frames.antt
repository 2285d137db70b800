-- Open matches as numbers in a table, and as the definitions have them.
use Rattle.std.specs.Prelude.{ℕ, ◌+◌, ◌^◌, ◌<◌, ◌≤◌, List, ◌∷◌, [], map, take, reverse}
use Rattle.std.specs.List.{AllByRecursion}
use Rattle.model.specs.Edits.{Edit, Frame}
use Rattle.editing.specs.declared.frame.Frame.{Frame as Kept}

-- The positions of an open match, and its end.
abbrev pub frame_of : Kept → Frame
frame_of kept = record { positions = take kept.count kept.positions; «end» = kept.«end» }

-- The open matches in a table, the innermost first: it stands last in the table.
abbrev pub innermost_first : List Kept → List Frame
innermost_first table = reverse (map frame_of table)

-- An open match that lies in a run of n glyphs.
abbrev pub Inside : (n : ℕ) → Frame → Type 0
Inside n f = AllByRecursion (λ p. p < n) f.positions × (f.«end» ≤ n)

abbrev pub edited : (position into : ℕ) → Edit
edited p n = record { position = p; into = n }

-- One edit.
abbrev pub edit : (position into : ℕ) → List Edit
edit p n = edited p n ∷ []

-- An edit in a run of n glyphs, which leaves no more than a number can count.
abbrev pub Fits : (n position into : ℕ) → Type 0
Fits n p into = (p < n) × (n + into ≤ 2 ^ 64)
