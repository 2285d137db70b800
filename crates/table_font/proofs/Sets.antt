-- The coverages of mark sets without faults.
use Rattle.std.proofs.Common.{◌≡◌, ℕ, ◌+◌, ◌*◌, ◌<◌, not, eqb, List, None}
use Rattle.layout.specs.Bytes.{u16_at, u32_at}
use Rattle.layout.specs.Coverages.{coverage_faults}
use Rattle.layout.specs.Faults.{first_in, unless, counted_extent, format_faults}
use Rattle.layout.proofs.Firsts.{none-parts}
use Rattle.layout.proofs.Turns.{turn-nth}
use Rattle.table_font.specs.Gdef.{set_faults_at, mark_sets_faults}

pub set-none : (t : List ℕ) (s k : ℕ) → first_in (mark_sets_faults t s) ≡ None → k < u16_at t (s + 2) → first_in (coverage_faults t (s + u32_at t (s + 4 + 4 * k))) ≡ None
set-none t s k e h =
    let a = (none-parts (format_faults t s 1) _ e).1 in
    let one = turn-nth (λ k i. set_faults_at t s i) 4 (s + 4) (u16_at t (s + 2)) k h (none-parts (counted_extent t s (s + 2) 4) _ a).1 in
    (none-parts (unless (not (eqb (u32_at t (s + 4 + 4 * k)) 0)) 2 s (s + 4 + 4 * k)) _ one).1
