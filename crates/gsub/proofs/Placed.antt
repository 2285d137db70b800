-- A lookup without faults, with and without their places.
use Rattle.std.proofs.Common.{◌≡◌, ℕ, ◌+◌, Bool, true, false, cond, eqb, List, Some, None, sym, ◌∙◌}
use Rattle.layout.specs.Bytes.{u16_at}
use Rattle.layout.specs.declared.fault.Fault.{Fault}
use Rattle.layout.specs.Faults.{first_in, unless, reports}
use Rattle.layout.proofs.Firsts.{first-behind, none-parts, none-join, none-reports, reports-none, turns-none}
use Rattle.gsub.specs.Follow.{behind}
use Rattle.gsub.specs.Tables.{in_lookup, lookup_fields, lookup_subtable, subtable_faults_at, bare_lookup_faults, lookup_faults}

placed : (b : Bool) (k j s i : ℕ) (xs : List Fault) → first_in (cond b (unless false 2 s i) xs) ≡ None → first_in (cond b (reports (in_lookup k None) (unless false 2 s i)) (reports (in_lookup k (Some j)) xs)) ≡ None
placed true k j s i xs e = reports-none (in_lookup k None) (unless false 2 s i) e
placed false k j s i xs e = reports-none (in_lookup k (Some j)) xs e

bare : (b : Bool) (k j s i : ℕ) (xs : List Fault) → first_in (cond b (reports (in_lookup k None) (unless false 2 s i)) (reports (in_lookup k (Some j)) xs)) ≡ None → first_in (cond b (unless false 2 s i) xs) ≡ None
bare true k j s i xs e = none-reports (in_lookup k None) (unless false 2 s i) e
bare false k j s i xs e = none-reports (in_lookup k (Some j)) xs e

module _ (t : List ℕ) (n k s : ℕ) where
  pub lookup-placed : first_in (bare_lookup_faults t n s) ≡ None → None ≡ first_in (lookup_faults t n k s)
  lookup-placed e =
      let p = none-parts (lookup_fields t s) _ e in
      let rest = turns-none (λ j b. behind false t s b (lookup_subtable t n s)) (subtable_faults_at t n k s) (λ j b. placed (eqb (u16_at t b) 0) k j s b (lookup_subtable t n s (s + u16_at t b))) 2 0 (s + 6) (u16_at t (s + 4)) p.1 in
      none-join (reports (in_lookup k None) (lookup_fields t s)) _ (sym (reports-none (in_lookup k None) (lookup_fields t s) p.0)) (sym rest)

  pub lookup-bare : None ≡ first_in (lookup_faults t n k s) → first_in (bare_lookup_faults t n s) ≡ None
  lookup-bare e =
      let p = none-parts (reports (in_lookup k None) (lookup_fields t s)) _ (sym e) in
      let rest = turns-none (subtable_faults_at t n k s) (λ j b. behind false t s b (lookup_subtable t n s)) (λ j b. bare (eqb (u16_at t b) 0) k j s b (lookup_subtable t n s (s + u16_at t b))) 2 0 (s + 6) (u16_at t (s + 4)) p.1 in
      first-behind (lookup_fields t s) _ (none-reports (in_lookup k None) (lookup_fields t s) p.0) ∙ rest
