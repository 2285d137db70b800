-- Where a lookup of a table stands, by its number; nothing is said of one that has no subtables.
use Rattle.std.specs.Prelude.{◌≡◌, ℕ, ◌+◌, ◌<◌, List}
use Rattle.layout.specs.Bytes.{u16_at}
use Rattle.gsub.specs.Meaning.{lookup_at, type_at}
use Rattle.gsub.specs.Tables.{lookup_count}

pub record Placed (t : List ℕ) (number start type subtables : ℕ) : Type 0 where
  pub exists : 0 < subtables → number < lookup_count t
  pub at : 0 < subtables → start ≡ lookup_at t number
  pub has : 0 < subtables → subtables ≡ u16_at t (start + 4)
  pub typed : 0 < subtables → type ≡ type_at t start
