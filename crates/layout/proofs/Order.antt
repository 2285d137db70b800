-- Arrays of ranges, entry by entry.
use Rattle.std.proofs.Common.{◌≡◌, true, ℕ, zero, suc, ◌+◌, ◌-◌, ◌*◌, ◌<◌, ◌≤◌, leb, List, [], ◌∷◌, ◌++◌, length, get_or, Some, None, sym, refl, ap, ◌∙◌, mul-le-mul_left, mul-suc, arith}
use Rattle.layout.specs.declared.array.Kind.{Kind}
use Rattle.layout.specs.declared.array.Range.{Range}
use Rattle.layout.specs.declared.array.Third.{Third}
use Rattle.layout.specs.declared.fault.Fault.{Fault}
use Rattle.layout.specs.Faults.{first_in, unless}
use Rattle.layout.specs.Ranges.{field_size, entry_size, range_at, ranges_from, entry_faults, order_faults, third_faults, Rises}
use Rattle.layout.proofs.Firsts.{first-behind, first-before, none-parts, unless-none}

left-more : (n k : ℕ) → k < n → n - k ≡ suc (n - (k + 1))
left-more n k h = omega arith

pub ranges_more : (kind : Kind) (t : List ℕ) (i k n : ℕ) → k < n → ranges_from kind t i k (n - k) ≡ range_at kind t i k ∷ ranges_from kind t (i + entry_size kind) (k + 1) (n - (k + 1))
ranges_more kind t i k n h = ap (ranges_from kind t i k) (left-more n k h)

module _ (third : Third) (kind : Kind) (t : List ℕ) (s i low before k n : ℕ) (h : k < n) (r : Range) (is : r ≡ range_at kind t i k) where
  order-at : first_in (order_faults third kind s i low before (ranges_from kind t i k (n - k)))
      ≡ first_in (entry_faults third kind s i low before r ++ order_faults third kind s (i + entry_size kind) (r.last + 1) (before + (r.last - r.first + 1)) (ranges_from kind t (i + entry_size kind) (k + 1) (n - (k + 1))))
  order-at = ap (λ rs. first_in (order_faults third kind s i low before rs)) (ranges_more kind t i k n h ∙ ap (λ u. u ∷ ranges_from kind t (i + entry_size kind) (k + 1) (n - (k + 1))) (sym is))

  -- an entry without faults: on to the next
  pub order-on : (next : ℕ) → i + entry_size kind ≡ next → None ≡ first_in (entry_faults third kind s i low before r)
      → first_in (order_faults third kind s i low before (ranges_from kind t i k (n - k)))
      ≡ first_in (order_faults third kind s next (r.last + 1) (before + (r.last - r.first + 1)) (ranges_from kind t next (k + 1) (n - (k + 1))))
  order-on next e none =
      order-at ∙ first-behind _ _ (sym none)
      ∙ ap (λ u. first_in (order_faults third kind s u (r.last + 1) (before + (r.last - r.first + 1)) (ranges_from kind t u (k + 1) (n - (k + 1))))) e

  -- an entry with a fault: it is the first
  pub order-stops : (f : Fault) → Some f ≡ first_in (entry_faults third kind s i low before r)
      → first_in (order_faults third kind s i low before (ranges_from kind t i k (n - k))) ≡ Some f
  order-stops f e = order-at ∙ first-before _ _ f (sym e)

-- entry j of the n entries from byte i on, the first of which has number k
pub entry_at : (kind : Kind) (t : List ℕ) (i k n j : ℕ) (d : Range) → j < n → get_or (ranges_from kind t i k n) j d ≡ range_at kind t (i + entry_size kind * j) (k + j)
entry_at kind t i k zero j d h = absurd (omega arith)
entry_at kind t i k (suc n) zero d h =
    let p : i ≡ i + entry_size kind * 0 = omega arith in
    let q : k ≡ k + 0 = omega arith in
    cc
entry_at kind t i k (suc n) (suc j) d h =
    let m = mul-suc (entry_size kind) j in
    let p : (i + entry_size kind) + entry_size kind * j ≡ i + entry_size kind * suc j = omega arith in
    let q : (k + 1) + j ≡ k + suc j = omega arith in
    entry_at kind t (i + entry_size kind) (k + 1) n j d (omega arith) ∙ cc

pub length-ranges : (kind : Kind) (t : List ℕ) (i k n : ℕ) → length (ranges_from kind t i k n) ≡ n
length-ranges kind t i k zero = refl
length-ranges kind t i k (suc n) = ap suc (length-ranges kind t (i + entry_size kind) (k + 1) n)

pub entry-inside : (m n k : ℕ) → k < n → m * k + m ≤ m * n
entry-inside m n k h =
    let e = mul-suc m k in
    let l : m * suc k ≤ m * n = mul-le-mul_left m h in
    omega arith

-- an entry without faults, field by field
pub entry-none : (third : Third) (kind : Kind) (s i low before : ℕ) (r : Range) → first_in (entry_faults third kind s i low before r) ≡ None
    → (leb low r.first ≡ true) × (leb r.first r.last ≡ true) × (first_in (third_faults third s (i + 2 * field_size kind) before r) ≡ None)
entry-none third kind s i low before r e =
    let a = none-parts (unless (leb low r.first) 3 s i) _ e in
    let b = none-parts (unless (leb r.first r.last) 3 s (i + field_size kind)) _ a.1 in
    (unless-none (leb low r.first) 3 s i a.0, unless-none (leb r.first r.last) 3 s (i + field_size kind) b.0, b.1)

-- where no entry has a fault, the ranges rise
pub rises-from : (third : Third) (kind : Kind) (s i low before : ℕ) (rs : List Range) → first_in (order_faults third kind s i low before rs) ≡ None → Rises low rs
rises-from third kind s i low before [] e = tt
rises-from third kind s i low before (r ∷ rs) e =
    let p = none-parts (entry_faults third kind s i low before r) (order_faults third kind s (i + entry_size kind) (r.last + 1) (before + (r.last - r.first + 1)) rs) e in
    let a = entry-none third kind s i low before r p.0 in
    (a.0, a.1, rises-from third kind s (i + entry_size kind) (r.last + 1) (before + (r.last - r.first + 1)) rs p.1)
