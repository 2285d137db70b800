-- What offsets of a table without faults lead to, and the index of a covered glyph.
use Rattle.std.proofs.Common.{◌≡◌, ◌≢◌, ℕ, ◌+◌, ◌*◌, ◌-◌, ◌<◌, ◌≤◌, Bool, true, false, cond, eqb, leb, ◌&&◌, List, [], ◌∷◌, Some, None, refl, arith}
use Rattle.std.proofs.lemmas.Bool.Decides.{nat_tests}
use Rattle.layout.specs.declared.array.Kind.{Kind}
use Rattle.layout.specs.declared.array.Range.{Range}
use Rattle.layout.specs.declared.array.Third.TheVariants.{StartIndex}
use Rattle.layout.specs.Bytes.{u16_at}
use Rattle.layout.specs.Coverages.{coverage_faults, coverage_index, coverage_ranges, index_in, kind_of}
use Rattle.layout.specs.Faults.{first_in, unless, extent}
use Rattle.layout.specs.Ranges.{entry_faults, entry_size, holding, holds, order_faults, size}
use Rattle.layout.proofs.Arrays.{start_is, array-order, counted-array, coverage-counted}
use Rattle.layout.proofs.Firsts.{none-parts, unless-none}
use Rattle.layout.proofs.Turns.{turn-nth}
use Rattle.gsub.specs.Follow.{Faults, behind, each_behind, count_faults}

-- an index lies below how many glyphs are covered
index-by : (kind : Kind) (s i low before : ℕ) (r : Range) (rs : List Range) (g k : ℕ) (b : Bool) → holds g r ≡ b → first_in (order_faults StartIndex kind s i low before (r ∷ rs)) ≡ None
    → index_in g (cond b (Some r) (holding g rs)) ≡ Some k → (index_in g (holding g rs) ≡ Some k → k < (before + (r.last - r.first + 1)) + size rs) → k < before + size (r ∷ rs)
index-by kind s i low before r rs g k true h none e further =
    let v = start_is kind s i low before r rs none in
    let is : r.value + (g - r.first) ≡ k = cc in
    let inside : (leb r.first g && leb g r.last) ≡ true = h in
    let low-high : (r.first ≤ g) × (g ≤ r.last) = grind (arith, nat_tests) in
    omega arith
index-by kind s i low before r rs g k false h none e further = let f = further e in omega arith

index-below : (kind : Kind) (s i low before : ℕ) (rs : List Range) (g k : ℕ) → first_in (order_faults StartIndex kind s i low before rs) ≡ None → index_in g (holding g rs) ≡ Some k → k < before + size rs
index-below kind s i low before [] g k none e = absurd cc
index-below kind s i low before (r ∷ rs) g k none e =
    let p = none-parts (entry_faults StartIndex kind s i low before r) (order_faults StartIndex kind s (i + entry_size kind) (r.last + 1) (before + (r.last - r.first + 1)) rs) none in
    index-by kind s i low before r rs g k (holds g r) refl none e (index-below kind s (i + entry_size kind) (r.last + 1) (before + (r.last - r.first + 1)) rs g k p.1)

pub covered-index : (t : List ℕ) (s g k : ℕ) → first_in (coverage_faults t s) ≡ None → coverage_index t s g ≡ Some k → k < size (coverage_ranges t s)
covered-index t s g k none e =
    let kind = kind_of (u16_at t s) in
    let order = array-order StartIndex kind t s (s + 4) (u16_at t (s + 2)) (counted-array StartIndex kind t s (coverage-counted t s none)) in
    let h = index-below kind s (s + 4) 0 0 (coverage_ranges t s) g k order e in
    omega arith

-- what an offset leads to that may not be 0, and one that may
behind-by : (b : Bool) (s i : ℕ) (xs : List _) → first_in (cond b (unless false 2 s i) xs) ≡ None → first_in xs ≡ None
behind-by true s i xs e = absurd cc
behind-by false s i xs e = e

pub behind-none : (t : List ℕ) (s i : ℕ) (faults : Faults) → first_in (behind false t s i faults) ≡ None → first_in (faults (s + u16_at t i)) ≡ None
behind-none t s i faults e = behind-by (eqb (u16_at t i) 0) s i (faults (s + u16_at t i)) e

null-by : (n : ℕ) (b : Bool) (s i : ℕ) (xs : List _) → eqb n 0 ≡ b → first_in (cond b (unless true 2 s i) xs) ≡ None → n ≢ 0 → first_in xs ≡ None
null-by n true s i xs h e there = absurd (there (grind (arith, nat_tests)))
null-by n false s i xs h e there = e

pub null-none : (t : List ℕ) (s i : ℕ) (faults : Faults) → first_in (behind true t s i faults) ≡ None → u16_at t i ≢ 0 → first_in (faults (s + u16_at t i)) ≡ None
null-none t s i faults e there = null-by (u16_at t i) (eqb (u16_at t i) 0) s i (faults (s + u16_at t i)) refl e there

pub each-none : (t : List ℕ) (s i n : ℕ) (faults : Faults) → first_in (each_behind false t s i n faults) ≡ None → (k : ℕ) → k < n → first_in (faults (s + u16_at t (i + 2 * k))) ≡ None
each-none t s i n faults e k h = behind-none t s (i + 2 * k) faults (turn-nth (λ j b. behind false t s b faults) 2 i n k h e)

pub each-null : (t : List ℕ) (s i n : ℕ) (faults : Faults) → first_in (each_behind true t s i n faults) ≡ None → (k : ℕ) → k < n → u16_at t (i + 2 * k) ≢ 0 → first_in (faults (s + u16_at t (i + 2 * k))) ≡ None
each-null t s i n faults e k h there = null-none t s (i + 2 * k) faults (turn-nth (λ j b. behind true t s b faults) 2 i n k h e) there

-- a count within its bounds
pub count-none : (t : List ℕ) (s i low : ℕ) → first_in (count_faults t s i low) ≡ None → (low ≤ u16_at t i) × (u16_at t i ≤ 64)
count-none t s i low e =
    let p = none-parts (extent t s i 2 1) _ e in
    let h : (leb low (u16_at t i) && leb (u16_at t i) 64) ≡ true = unless-none (leb low (u16_at t i) && leb (u16_at t i) 64) 4 s i p.1 in
    grind (arith, nat_tests)
