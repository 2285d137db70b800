-- A structure without faults, seen from a part of the table: from a byte on.
use Rattle.std.proofs.Common.{◌≡◌, ℕ, zero, suc, ◌+◌, ◌*◌, ◌/◌, ◌-◌, Bool, true, false, cond, eqb, leb, ◌&&◌, List, [], ◌∷◌, drop, length, None, refl, ap, subst, ◌∙◌, get_or-drop, arith}
use Rattle.std.proofs.lemmas.Bool.{le-leb}
use Rattle.std.proofs.lemmas.List.{length-drop}
use Rattle.layout.specs.declared.array.Kind.{Kind}
use Rattle.layout.specs.declared.array.Kind.TheVariants.{Glyphs, Records, Groups}
use Rattle.layout.specs.declared.array.Range.{Range}
use Rattle.layout.specs.declared.array.Third.{Third}
use Rattle.layout.specs.declared.array.Third.TheVariants.{Any, StartIndex, GlyphsTo65535}
use Rattle.layout.specs.Bytes.{u16_at, u32_at}
use Rattle.layout.specs.Classes.{class_faults, list_faults, range_faults}
use Rattle.layout.specs.Coverages.{coverage_faults, coverage_ranges, kind_of}
use Rattle.layout.specs.Faults.{first_in, unless, extent, format_faults}
use Rattle.layout.specs.Ranges.{field_size, field_count, entry_size, range_at, ranges_from, third_faults, entry_faults, order_faults, array_faults, counted_faults}
use Rattle.layout.proofs.Arrays.{extent-none}
use Rattle.layout.proofs.Firsts.{first-behind, none-parts}

-- a test that holds, told of another byte
unless-elsewhere : (b : Bool) (n s i n' s' i' : ℕ) → first_in (unless b n s i) ≡ None → first_in (unless b n' s' i') ≡ None
unless-elsewhere true n s i n' s' i' e = refl
unless-elsewhere false n s i n' s' i' e = absurd cc

third-elsewhere : (third : Third) (s i s' i' before : ℕ) (r : Range) → first_in (third_faults third s i before r) ≡ None → first_in (third_faults third s' i' before r) ≡ None
third-elsewhere Any s i s' i' before r e = refl
third-elsewhere StartIndex s i s' i' before r e = unless-elsewhere (eqb r.value before) 3 s i 3 s' i' e
third-elsewhere GlyphsTo65535 s i s' i' before r e = unless-elsewhere (leb (r.value + (r.last - r.first)) 65535) 4 s i 4 s' i' e

-- the order of entries does not depend on where they stand
order-elsewhere : (third : Third) (kind : Kind) (s i s' i' low before : ℕ) (rs : List Range) → first_in (order_faults third kind s i low before rs) ≡ None → first_in (order_faults third kind s' i' low before rs) ≡ None
order-elsewhere third kind s i s' i' low before [] e = refl
order-elsewhere third kind s i s' i' low before (r ∷ rs) e =
    let p = none-parts (entry_faults third kind s i low before r) _ e in
    let a = none-parts (unless (leb low r.first) 3 s i) _ p.0 in
    let b = none-parts (unless (leb r.first r.last) 3 s (i + field_size kind)) _ a.1 in
    first-behind (entry_faults third kind s' i' low before r) _
    (first-behind (unless (leb low r.first) 3 s' i') _ (unless-elsewhere (leb low r.first) 3 s i 3 s' i' a.0)
    ∙ (first-behind (unless (leb r.first r.last) 3 s' (i' + field_size kind)) _ (unless-elsewhere (leb r.first r.last) 3 s (i + field_size kind) 3 s' (i' + field_size kind) b.0)
    ∙ third-elsewhere third s (i + 2 * field_size kind) s' (i' + 2 * field_size kind) before r b.1))
    ∙ order-elsewhere third kind s (i + entry_size kind) s' (i' + entry_size kind) (r.last + 1) (before + (r.last - r.first + 1)) rs p.1

module _ (t : List ℕ) (s : ℕ) where
  abbrev part : List ℕ
  part = drop s t

  -- a field of the part
  pub u16-part : (i j : ℕ) → j ≡ s + i → u16_at t j ≡ u16_at (drop s t) i
  u16-part i j e =
      let a = get_or-drop s t i 0 in
      let b = get_or-drop s t (i + 1) 0 in
      let f : s + (i + 1) ≡ j + 1 = omega arith in
      cc

  u32-part : (i j : ℕ) → j ≡ s + i → u32_at t j ≡ u32_at (drop s t) i
  u32-part i j e =
      let a = u16-part i j e in
      let b = u16-part (i + 2) (j + 2) (omega arith) in
      cc

  range-part : (kind : Kind) (i j k : ℕ) → j ≡ s + i → range_at kind t j k ≡ range_at kind (drop s t) i k
  range-part Glyphs i j k e = let a = u16-part i j e in cc
  range-part Records i j k e =
      let a = u16-part i j e in
      let b = u16-part (i + 2) (j + 2) (omega arith) in
      let c = u16-part (i + 4) (j + 4) (omega arith) in
      cc
  range-part Groups i j k e =
      let a = u32-part i j e in
      let b = u32-part (i + 4) (j + 4) (omega arith) in
      let c = u32-part (i + 8) (j + 8) (omega arith) in
      cc

  ranges-part : (kind : Kind) (i j k n : ℕ) → j ≡ s + i → ranges_from kind t j k n ≡ ranges_from kind (drop s t) i k n
  ranges-part kind i j k zero e = refl
  ranges-part kind i j k (suc n) e =
      let a = range-part kind i j k e in
      let b = ranges-part kind (i + entry_size kind) (j + entry_size kind) (k + 1) n (omega arith) in
      cc

  extent-part : (S S' i j w n : ℕ) → j ≡ s + i → first_in (extent t S j w n) ≡ None → first_in (extent (drop s t) S' i w n) ≡ None
  extent-part S S' i j w n e none =
      let h = extent-none t S j w n none in
      let l = length-drop s t in
      let inside : leb (i + w * n) (length (drop s t)) ≡ true = le-leb (i + w * n) (length (drop s t)) (omega arith) in
      ap (λ b. first_in (unless b 1 S' (i + w * ((length (drop s t) - i) / w)))) inside

  format-part : (i j most : ℕ) → j ≡ s + i → first_in (format_faults t j most) ≡ None → first_in (format_faults (drop s t) i most) ≡ None
  format-part i j most e none =
      let p = none-parts (extent t j j 2 1) _ none in
      let u = u16-part i j e in
      first-behind (extent (drop s t) i i 2 1) _ (extent-part j i i j 2 1 e p.0)
      ∙ subst (λ f. first_in (unless (leb 1 f && leb f most) 2 i i) ≡ None) u (unless-elsewhere (leb 1 (u16_at t j) && leb (u16_at t j) most) 2 j j 2 i i p.1)

  array-part : (third : Third) (kind : Kind) (S S' i j n : ℕ) → j ≡ s + i → first_in (array_faults third kind t S j n) ≡ None → first_in (array_faults third kind (drop s t) S' i n) ≡ None
  array-part third kind S S' i j n e none =
      let p = none-parts (extent t S j (field_size kind) (field_count kind * n)) _ none in
      first-behind (extent (drop s t) S' i (field_size kind) (field_count kind * n)) _ (extent-part S S' i j (field_size kind) (field_count kind * n) e p.0)
      ∙ subst (λ rs. first_in (order_faults third kind S' i 0 0 rs) ≡ None) (ranges-part kind i j 0 n e) (order-elsewhere third kind S j S' i 0 0 (ranges_from kind t j 0 n) p.1)

  counted-part : (third : Third) (kind : Kind) (i j : ℕ) → j ≡ s + i → first_in (counted_faults third kind t j) ≡ None → first_in (counted_faults third kind (drop s t) i) ≡ None
  counted-part third kind i j e none =
      let p = none-parts (extent t j (j + 2) 2 1) _ none in
      let n : u16_at t (j + 2) ≡ u16_at (drop s t) (i + 2) = u16-part (i + 2) (j + 2) (omega arith) in
      first-behind (extent (drop s t) i (i + 2) 2 1) _ (extent-part j i (i + 2) (j + 2) 2 1 (omega arith) p.0)
      ∙ subst (λ m. first_in (array_faults third kind (drop s t) i (i + 4) m) ≡ None) n (array-part third kind j i (i + 4) (j + 4) (u16_at t (j + 2)) (omega arith) p.1)

  pub coverage_ranges-part : (i j : ℕ) → j ≡ s + i → coverage_ranges t j ≡ coverage_ranges (drop s t) i
  coverage_ranges-part i j e =
      let n : u16_at t (j + 2) ≡ u16_at (drop s t) (i + 2) = u16-part (i + 2) (j + 2) (omega arith) in
      ranges-part (kind_of (u16_at t j)) (i + 4) (j + 4) 0 (u16_at t (j + 2)) (omega arith)
      ∙ (ap (λ f. ranges_from (kind_of f) (drop s t) (i + 4) 0 (u16_at t (j + 2))) (u16-part i j e) ∙ ap (λ m. ranges_from (kind_of (u16_at (drop s t) i)) (drop s t) (i + 4) 0 m) n)

  pub coverage-part : (i j : ℕ) → j ≡ s + i → first_in (coverage_faults t j) ≡ None → first_in (coverage_faults (drop s t) i) ≡ None
  coverage-part i j e none =
      let p = none-parts (format_faults t j 2) _ none in
      first-behind (format_faults (drop s t) i 2) _ (format-part i j 2 e p.0)
      ∙ subst (λ f. first_in (counted_faults StartIndex (kind_of f) (drop s t) i) ≡ None) (u16-part i j e) (counted-part StartIndex (kind_of (u16_at t j)) i j e p.1)

  classes-part : (b : Bool) (i j : ℕ) → j ≡ s + i → first_in (cond b (list_faults t j) (range_faults t j)) ≡ None → first_in (cond b (list_faults (drop s t) i) (range_faults (drop s t) i)) ≡ None
  classes-part true i j e none =
      let p = none-parts (extent t j (j + 2) 2 2) _ none in
      let n : u16_at t (j + 4) ≡ u16_at (drop s t) (i + 4) = u16-part (i + 4) (j + 4) (omega arith) in
      first-behind (extent (drop s t) i (i + 2) 2 2) _ (extent-part j i (i + 2) (j + 2) 2 2 (omega arith) p.0)
      ∙ subst (λ m. first_in (extent (drop s t) i (i + 6) 2 m) ≡ None) n (extent-part j i (i + 6) (j + 6) 2 (u16_at t (j + 4)) (omega arith) p.1)
  classes-part false i j e none = counted-part Any Records i j e none

  pub class-part : (i j : ℕ) → j ≡ s + i → first_in (class_faults t j) ≡ None → first_in (class_faults (drop s t) i) ≡ None
  class-part i j e none =
      let p = none-parts (format_faults t j 2) _ none in
      first-behind (format_faults (drop s t) i 2) _ (format-part i j 2 e p.0)
      ∙ subst (λ f. first_in (cond (eqb f 1) (list_faults (drop s t) i) (range_faults (drop s t) i)) ≡ None) (u16-part i j e) (classes-part (eqb (u16_at t j) 1) i j e p.1)
