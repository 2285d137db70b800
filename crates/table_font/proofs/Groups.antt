-- The groups of a cmap subtable without faults.
use Rattle.std.proofs.Common.{◌≡◌, ℕ, ◌+◌, ◌-◌, ◌*◌, Bool, true, false, cond, eqb, leb, List, [], ◌∷◌, Some, None, Option, refl, arith}
use Rattle.std.proofs.lemmas.Bool.Decides.{nat_tests}
use Rattle.layout.specs.declared.array.Kind.{Kind}
use Rattle.layout.specs.declared.array.Kind.TheVariants.{Groups}
use Rattle.layout.specs.declared.array.Range.{Range}
use Rattle.layout.specs.declared.array.Third.TheVariants.{GlyphsTo65535}
use Rattle.layout.specs.Bytes.{u16_at, u32_at}
use Rattle.layout.specs.Faults.{first_in, extent, unless}
use Rattle.layout.specs.Ranges.{field_size, entry_size, holds, holding, entry_faults, order_faults, array_faults}
use Rattle.layout.proofs.Firsts.{none-parts, unless-none}
use Rattle.layout.proofs.Order.{entry-none}
use Rattle.table_font.specs.Cmap.{cmap_faults, Maps}

pub cmap-array : (t : List ℕ) → first_in (cmap_faults t) ≡ None → first_in (array_faults GlyphsTo65535 Groups t 0 16 (u32_at t 12)) ≡ None
cmap-array t e =
    let a = (none-parts (extent t 0 0 2 1) _ e).1 in
    let b = (none-parts (unless (eqb (u16_at t 0) 12) 2 0 0) _ a).1 in
    let c = (none-parts (extent t 0 2 2 1) _ b).1 in
    let d = (none-parts (extent t 0 4 4 3) _ c).1 in
    (none-parts (unless (eqb (u32_at t 4) (16 + 12 * u32_at t 12)) 4 0 4) _ d).1

-- the first group, where it holds the character; else the group that the others have
maps-by : (x : ℕ) (r : Range) (q : Option Range) (b : Bool) → holds x r ≡ b → leb (r.value + (r.last - r.first)) 65535 ≡ true → Maps x q → Maps x (cond b (Some r) q)
maps-by x r q true h top m = (grind (arith, nat_tests), grind (arith, nat_tests))
maps-by x r q false h top m = m

-- a group that holds a character maps it to a glyph
pub order-maps : (kind : Kind) (s i low before : ℕ) (rs : List Range) (x : ℕ) → first_in (order_faults GlyphsTo65535 kind s i low before rs) ≡ None → Maps x (holding x rs)
order-maps kind s i low before [] x e = tt
order-maps kind s i low before (r ∷ rs) x e =
    let p = none-parts (entry_faults GlyphsTo65535 kind s i low before r) (order_faults GlyphsTo65535 kind s (i + entry_size kind) (r.last + 1) (before + (r.last - r.first + 1)) rs) e in
    let top = unless-none (leb (r.value + (r.last - r.first)) 65535) 4 s (i + 2 * field_size kind) (entry-none GlyphsTo65535 kind s i low before r p.0).2 in
    maps-by x r (holding x rs) (holds x r) refl top (order-maps kind s (i + entry_size kind) (r.last + 1) (before + (r.last - r.first + 1)) rs x p.1)
