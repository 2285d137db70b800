-- The first of two lists, one behind the other.
use Rattle.std.proofs.Common.{◌≡◌, ℕ, zero, suc, ◌+◌, Bool, true, false, List, [], ◌∷◌, ◌++◌, Some, None, refl, ◌∙◌}
use Rattle.layout.specs.declared.fault.Fault.{Fault}
use Rattle.layout.specs.Faults.{first_in, unless, in_turn, reports}
use Rattle.layout.specs.declared.fault.Place.{Place}

pub first-behind : {X : Type 0} (xs ys : List X) → first_in xs ≡ None → first_in (xs ++ ys) ≡ first_in ys
first-behind [] ys e = refl
first-behind (x ∷ xs) ys e = absurd cc

pub first-before : {X : Type 0} (xs ys : List X) (x : X) → first_in xs ≡ Some x → first_in (xs ++ ys) ≡ Some x
first-before [] ys x e = absurd cc
first-before (y ∷ xs) ys x e = e

-- no first of both: of neither
pub none-parts : {X : Type 0} (xs ys : List X) → first_in (xs ++ ys) ≡ None → (first_in xs ≡ None) × (first_in ys ≡ None)
none-parts [] ys e = (refl, e)
none-parts (x ∷ xs) ys e = absurd cc

pub unless-none : (t : Bool) (n s i : ℕ) → first_in (unless t n s i) ≡ None → t ≡ true
unless-none true n s i e = refl
unless-none false n s i e = absurd cc

-- no first of either: none of both
pub none-join : {X : Type 0} (xs ys : List X) → None ≡ first_in xs → None ≡ first_in ys → None ≡ first_in (xs ++ ys)
none-join [] ys e f = f
none-join (x ∷ xs) ys e f = absurd cc

-- faults with a place: there are some exactly where there are some without
pub reports-none : (p : Place) (xs : List Fault) → first_in xs ≡ None → first_in (reports p xs) ≡ None
reports-none p [] e = refl
reports-none p (x ∷ xs) e = absurd cc

pub none-reports : (p : Place) (xs : List Fault) → first_in (reports p xs) ≡ None → first_in xs ≡ None
none-reports p [] e = refl
none-reports p (x ∷ xs) e = absurd cc

-- where no element of one array gives anything if the other's gives nothing
pub turns-none : {X Y : Type 0} (f : ℕ → ℕ → List X) (g : ℕ → ℕ → List Y) (each : (k i : ℕ) → first_in (f k i) ≡ None → first_in (g k i) ≡ None) (w k i n : ℕ) → first_in (in_turn f w k i n) ≡ None → first_in (in_turn g w k i n) ≡ None
turns-none f g each w k i zero e = refl
turns-none f g each w k i (suc n) e =
    let p = none-parts (f k i) (in_turn f w (k + 1) (i + w) n) e in
    first-behind (g k i) _ (each k i p.0) ∙ turns-none f g each w (k + 1) (i + w) n p.1
