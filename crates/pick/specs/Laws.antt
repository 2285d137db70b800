-- What a line has where clusters never fall.
use Rattle.std.specs.Prelude.{◌≡◌, ℕ, ◌≤◌, List, [], ◌∷◌, drop, filter, take}
use Rattle.std.specs.List.{AllByRecursion}
use Rattle.pick.specs.Lines.{stretch, within}

-- No record has a cluster below that of one before it.
abbrev pub NeverFall : {R : Type 0} → (cluster_of : R → ℕ) → List R → Type 0
NeverFall cluster_of [] = Unit {0}
NeverFall cluster_of (r ∷ rs) = AllByRecursion (λ q. cluster_of r ≤ cluster_of q) rs × NeverFall cluster_of rs

-- Then the stretch of a line is every record with a cluster from a to below b, in order.
abbrev pub LineIsWhole : {R : Type 0} → (cluster_of : R → ℕ) → Type 0
LineIsWhole cluster_of =
    (a b : ℕ) (rs : List _) → NeverFall cluster_of rs
    → take (stretch cluster_of a b rs).count (drop (stretch cluster_of a b rs).first rs) ≡ filter (within cluster_of a b) rs
