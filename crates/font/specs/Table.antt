-- What lies in the memory of a table of a fixed size.
use Rattle.std.specs.Prelude.{ℕ, ◌-◌, List, ◌++◌, length, replicate}

-- All n places of a table that holds these items: the items, and then blanks.
abbrev pub table_of : {T : Type 0} → (n : ℕ) (blank : T) → List T → List T
table_of n blank items = items ++ replicate (n - length items) blank
