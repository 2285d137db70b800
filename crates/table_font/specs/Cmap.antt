-- A cmap subtable of format 12: groups of characters in a row with glyphs in a row.
use Rattle.std.specs.Prelude.{ℕ, ◌+◌, ◌-◌, ◌*◌, ◌≤◌, List, ◌++◌, Some, None, Option, ◌==◌}
use Rattle.layout.specs.declared.array.Kind.TheVariants.{Groups}
use Rattle.layout.specs.declared.array.Range.{Range}
use Rattle.layout.specs.declared.array.Third.TheVariants.{GlyphsTo65535}
use Rattle.layout.specs.Bytes.{u16_at, u32_at}
use Rattle.layout.specs.declared.fault.Fault.{Fault}
use Rattle.layout.specs.Faults.{unless, extent}
use Rattle.layout.specs.Ranges.{ranges_from, holding, array_faults}

-- The groups: from byte 16 on, as many as byte 12 says.
abbrev pub groups : (table : List ℕ) → List Range
groups t = ranges_from Groups t 16 0 (u32_at t 12)

-- Its faults: format; a reserved field of 16 bits; length, language and group count, 32 bits each; that the length is right; the groups' extent; then, group by group, order and the last glyph.
abbrev pub cmap_faults : (table : List ℕ) → List Fault
cmap_faults t =
    extent t 0 0 2 1
    ++ (unless (u16_at t 0 == 12) 2 0 0
    ++ (extent t 0 2 2 1
    ++ (extent t 0 4 4 3
    ++ (unless (u32_at t 4 == 16 + 12 * u32_at t 12) 4 0 4
    ++ array_faults GlyphsTo65535 Groups t 0 16 (u32_at t 12)))))

-- A character's glyph by its group; 0 where no group holds it.
abbrev pub glyph_in : (character : ℕ) → Option Range → ℕ
glyph_in c None = 0
glyph_in c (Some group) = group.value + (c - group.first)

abbrev pub glyph_of : (table : List ℕ) → (character : ℕ) → ℕ
glyph_of t c = glyph_in c (holding c (groups t))

-- A group that holds a character maps it to a glyph of at most 65,535.
abbrev pub Maps : (character : ℕ) → Option Range → Type 0
Maps c None = Unit {0}
Maps c (Some group) = (group.first ≤ c) × (group.value + (c - group.first) ≤ 65535)
