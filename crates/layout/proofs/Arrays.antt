-- Arrays in a structure without faults.
use Rattle.std.proofs.Common.{◌≡◌, ℕ, zero, suc, ◌+◌, ◌-◌, ◌*◌, ◌<◌, ◌≤◌, false, cond, eqb, leb, List, [], ◌∷◌, length, get_or, Some, None, ap, subst, arith}
use Rattle.std.proofs.lemmas.Bool.{leb-true}
use Rattle.std.proofs.lemmas.Bool.Decides.{nat_tests}
use Rattle.layout.specs.declared.array.Kind.{Kind}
use Rattle.layout.specs.declared.array.Kind.TheVariants.{Glyphs, Records, Groups}
use Rattle.layout.specs.declared.array.Laid.{Laid}
use Rattle.layout.specs.declared.array.Range.{Range}
use Rattle.layout.specs.declared.array.Third.{Third}
use Rattle.layout.specs.declared.array.Third.TheVariants.{StartIndex}
use Rattle.layout.specs.Bytes.{u16_at}
use Rattle.layout.specs.Classes.{class_faults, list_faults, range_faults}
use Rattle.layout.specs.Coverages.{kind_of, coverage_faults}
use Rattle.layout.specs.Faults.{first_in, extent, format_faults}
use Rattle.layout.specs.Ranges.{counted_faults, field_size, entry_size, field_count, ranges_from, Rises, last_from, last_of, size, entry_faults, order_faults, array_faults}
use Rattle.layout.proofs.Firsts.{none-parts, unless-none}
use Rattle.layout.proofs.Order.{rises-from, entry-inside, entry-none}

pub extent-none : (t : List ℕ) (s i w n : ℕ) → first_in (extent t s i w n) ≡ None → i + w * n ≤ length t
extent-none t s i w n e = leb-true (i + w * n) (length t) (unless-none (leb (i + w * n) (length t)) 1 s _ e)

field-bytes : (kind : Kind) (n : ℕ) → field_size kind * (field_count kind * n) ≡ entry_size kind * n
field-bytes Glyphs n = let e : 2 * (1 * n) ≡ 2 * n = omega arith in e
field-bytes Records n = let e : 2 * (3 * n) ≡ 6 * n = omega arith in e
field-bytes Groups n = let e : 4 * (3 * n) ≡ 12 * n = omega arith in e

-- an array without faults
module _ (third : Third) (kind : Kind) (t : List ℕ) (s i n : ℕ) (e : first_in (array_faults third kind t s i n) ≡ None) where
  pub array-inside : i + entry_size kind * n ≤ length t
  array-inside =
      let h = extent-none t s i (field_size kind) (field_count kind * n) (none-parts (extent t s i (field_size kind) (field_count kind * n)) _ e).0 in
      let z = field-bytes kind n in
      omega arith

  pub array-order : first_in (order_faults third kind s i 0 0 (ranges_from kind t i 0 n)) ≡ None
  array-order = (none-parts (extent t s i (field_size kind) (field_count kind * n)) _ e).1

  pub array-rises : Rises 0 (ranges_from kind t i 0 n)
  array-rises = rises-from third kind s i 0 0 (ranges_from kind t i 0 n) array-order

pub same-ranges : {kind kind' : Kind} (t : List ℕ) {at at' n n' : ℕ} → kind ≡ kind' → at ≡ at' → n ≡ n' → ranges_from kind t at 0 n ≡ ranges_from kind' t at' 0 n'
same-ranges t a b c = cc

-- the array behind a format and a count
pub counted-array : (third : Third) (kind : Kind) (t : List ℕ) (s : ℕ) → first_in (counted_faults third kind t s) ≡ None → first_in (array_faults third kind t s (s + 4) (u16_at t (s + 2))) ≡ None
counted-array third kind t s e = (none-parts (extent t s (s + 2) 2 1) _ e).1

module _ (t : List ℕ) (s : ℕ) where
  pub coverage-counted : first_in (coverage_faults t s) ≡ None → first_in (counted_faults StartIndex (kind_of (u16_at t s)) t s) ≡ None
  coverage-counted e = (none-parts (format_faults t s 2) _ e).1

  -- the faults of a class definition of format 2
  pub class-ranges-none : first_in (class_faults t s) ≡ None → eqb (u16_at t s) 1 ≡ false → first_in (range_faults t s) ≡ None
  class-ranges-none e f = subst (λ b. first_in (cond b (list_faults t s) (range_faults t s)) ≡ None) f (none-parts (format_faults t s 2) _ e).1

pub start_is : (kind : Kind) (s i low before : ℕ) (r : Range) (rs : List Range) → first_in (order_faults StartIndex kind s i low before (r ∷ rs)) ≡ None → r.value ≡ before
start_is kind s i low before r rs e =
    let p = none-parts (entry_faults StartIndex kind s i low before r) (order_faults StartIndex kind s (i + entry_size kind) (r.last + 1) (before + (r.last - r.first + 1)) rs) e in
    let v = unless-none (eqb r.value before) 3 s (i + 2 * field_size kind) (entry-none StartIndex kind s i low before r p.0).2 in
    grind (arith, nat_tests)

-- the last of ranges, by its number
pub last-at : (rs : List Range) (k : ℕ) (r : Range) → length rs ≡ suc k → r ≡ get_or rs k r → Some r ≡ last_of rs
last-at [] k r n e = absurd (omega arith)
last-at (a ∷ []) zero r n e = ap Some e
last-at (a ∷ []) (suc k) r n e = absurd (omega arith)
last-at (a ∷ b ∷ rs) zero r n e = absurd (omega arith)
last-at (a ∷ b ∷ rs) (suc k) r n e = last-at (b ∷ rs) k r (omega arith) e

-- where start indices are right, the last range's counts all ranges before it
pub last-counts : (kind : Kind) (s i low before : ℕ) (r : Range) (rs : List Range) → first_in (order_faults StartIndex kind s i low before (r ∷ rs)) ≡ None
    → (last_from r rs).value + ((last_from r rs).last - (last_from r rs).first) + 1 ≡ before + size (r ∷ rs)
last-counts kind s i low before r [] e =
    let w = start_is kind s i low before r [] e in
    omega arith
last-counts kind s i low before r (q ∷ rs) e =
    let p = none-parts (entry_faults StartIndex kind s i low before r) (order_faults StartIndex kind s (i + entry_size kind) (r.last + 1) (before + (r.last - r.first + 1)) (q ∷ rs)) e in
    let z = last-counts kind s (i + entry_size kind) (r.last + 1) (before + (r.last - r.first + 1)) q rs p.1 in
    omega arith

pub count-last : (kind : Kind) (s i : ℕ) (rs : List Range) (r : Range) → first_in (order_faults StartIndex kind s i 0 0 rs) ≡ None → Some r ≡ last_of rs
    → r.value + (r.last - r.first) + 1 ≡ size rs
count-last kind s i [] r e l = absurd cc
count-last kind s i (q ∷ rs) r e l =
    let same : last_from q rs ≡ r = cc in
    let n = last-counts kind s i 0 0 q rs e in
    subst (λ x. x.value + (x.last - x.first) + 1 ≡ size (q ∷ rs)) same (omega arith)

-- entry k of an array that lies in its table does so too
pub entry-laid : (laid : Laid) (k : ℕ) → k < laid.array.count → laid.array.at + entry_size laid.array.kind * k + entry_size laid.array.kind ≤ length laid.array.structure.table.now
entry-laid laid k h =
    let e = entry-inside (entry_size laid.array.kind) laid.array.count k h in
    let i = laid.inside in
    omega arith
