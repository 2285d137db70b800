use Rattle.std.proofs.Common.{◌≡◌, ◌+◌, ◌*◌, ◌≤◌, length, sym, refl, ◌∙◌, subst, arith}
use Rattle.layout.specs.Bytes.{u16_at}
use Rattle.layout.specs.Ranges.{Rises, entry_size}
use Rattle.layout.proofs.Arrays.{array-inside, array-rises, counted-array, same-ranges}
use Rattle.layout.proofs.structure.Structure.ranges.Goals as goal

-- an array that lies in the table has a place that is not cut off
pub invariant_of-result-2 : goal.invariant_of-result-2
invariant_of-result-2 c =
    let kind = c.args.kind in
    let t = c.args.self.now.table.now in
    let s = c.args.self.now.start in
    let fits = c.args.self.now.fits in
    let third = c.requires.0 in
    let array = counted-array third kind t s c.requires.1 in
    let inside : s + 4 + entry_size kind * u16_at t (s + 2) ≤ length t = array-inside third kind t s (s + 4) (u16_at t (s + 2)) array in
    let at-is : c.saturating_add.result ≡ s + 4 = omega arith in
    let count-is : c.from.result ≡ u16_at t (s + 2) = c.from.ensures ∙ c.u16_in.ensures in
    record {
      rises = subst (Rises 0) (sym (same-ranges t (refl {a = kind}) at-is count-is)) (array-rises third kind t s (s + 4) (u16_at t (s + 2)) array);
    }
