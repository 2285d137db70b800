-- That ranges rise has at most one proof, so that a type can keep it.
use Rattle.std.specs.Prelude.{◌≡◌, ℕ, ◌+◌, true, List, [], ◌∷◌, nat_le}
use Rattle.std.specs.Coded.{Unit-prop, coded_bool}
use denote.Struct.Props.{≡_prop}
use Rattle.layout.specs.declared.array.Range.{Range}
use Rattle.layout.specs.Ranges.{Rises}

pub rises_prop : (low : ℕ) (rs : List Range) → IsProp (Rises low rs)
rises_prop low [] = Unit-prop
rises_prop low (r ∷ rs) =
    let first : IsProp (nat_le low r.first ≡ true) = ≡_prop coded_bool _ true in
    let last : IsProp (nat_le r.first r.last ≡ true) = ≡_prop coded_bool _ true in
    Prim.hlevel (first, last, rises_prop (r.last + 1) rs)
