-- When merging from a position on is merging in the whole run.
use Rattle.std.specs.Prelude.{◌≡◌, ℕ, ◌≤◌, List, map, take, drop}
use Rattle.std.specs.List.{AllByRecursion}
use Rattle.model.specs.declared.Glyph.{Glyph}
use Rattle.model.specs.Edits.{merged}
use Rattle.model.specs.Laws.{Rising}
use Rattle.run.specs.Runs.{merged_from}

-- Where clusters never fall, and are at most lo before i and at least lo from i on.
abbrev pub MergesWholeRun : Type 0
MergesWholeRun =
    (i lo hi : ℕ) (gs : List Glyph) → Rising gs → AllByRecursion (λ g. g.cluster ≤ lo) (take i gs) → AllByRecursion (λ g. lo ≤ g.cluster) (drop i gs) → merged_from i lo hi gs ≡ map (merged lo hi) gs
