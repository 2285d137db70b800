-- Ranges: what coverages, class definitions and character maps have in common. A range gives each number from its first to its last a value.
use Rattle.std.specs.Prelude.{◌≡◌, ℕ, zero, suc, ◌+◌, ◌-◌, ◌*◌, ◌≤◌, Bool, true, cond, ◌&&◌, List, [], ◌∷◌, ◌++◌, length, Some, None, Option, ◌==◌, nat_le}
use Rattle.layout.specs.declared.array.Kind.{Kind}
use Rattle.layout.specs.declared.array.Kind.TheVariants.{Glyphs, Records, Groups}
use Rattle.layout.specs.declared.array.Range.{Range}
use Rattle.layout.specs.declared.array.RangeArray.{RangeArray}
use Rattle.layout.specs.declared.array.Third.{Third}
use Rattle.layout.specs.declared.array.Third.TheVariants.{Any, StartIndex, GlyphsTo65535}
use Rattle.layout.specs.Bytes.{u16_at, u32_at}
use Rattle.layout.specs.declared.fault.Fault.{Fault}
use Rattle.layout.specs.Faults.{unless, extent}

-- The bytes of a field.
abbrev pub field_size : Kind → ℕ
field_size Glyphs = 2
field_size Records = 2
field_size Groups = 4

-- How many fields an entry has.
abbrev pub field_count : Kind → ℕ
field_count Glyphs = 1
field_count Records = 3
field_count Groups = 3

-- The bytes of an entry.
abbrev pub entry_size : Kind → ℕ
entry_size Glyphs = 2
entry_size Records = 6
entry_size Groups = 12

-- A third field is below this.
abbrev pub value_bound : Kind → ℕ
value_bound Glyphs = 4294967296
value_bound Records = 65536
value_bound Groups = 4294967296

-- Entry number k, at byte i. A glyph alone is a range of one, with its number as the value.
abbrev pub range_at : Kind → (table : List ℕ) → (i k : ℕ) → Range
range_at Glyphs t i k = record { first = u16_at t i; last = u16_at t i; value = k }
range_at Records t i k = record { first = u16_at t i; last = u16_at t (i + 2); value = u16_at t (i + 4) }
range_at Groups t i k = record { first = u32_at t i; last = u32_at t (i + 4); value = u32_at t (i + 8) }

-- The n entries from byte i on, the first of which has number k.
abbrev pub ranges_from : Kind → (table : List ℕ) → (i k n : ℕ) → List Range
ranges_from kind t i k zero = []
ranges_from kind t i k (suc n) = range_at kind t i k ∷ ranges_from kind t (i + entry_size kind) (k + 1) n

abbrev pub ranges_of : RangeArray → List Range
ranges_of array = ranges_from array.kind array.structure.table.now array.at 0 array.count

-- The array lies in its table.
abbrev pub Inside : RangeArray → Type 0
Inside array = array.at + entry_size array.kind * array.count ≤ length array.structure.table.now

-- The range that holds a number.
abbrev pub holds : ℕ → Range → Bool
holds x r = nat_le r.first x && nat_le x r.last

abbrev pub holding : ℕ → List Range → Option Range
holding x [] = None
holding x (r ∷ rs) = cond (holds x r) (Some r) (holding x rs)

-- The last of ranges.
abbrev pub last_from : Range → List Range → Range
last_from r [] = r
last_from r (q ∷ rs) = last_from q rs

abbrev pub last_of : List Range → Option Range
last_of [] = None
last_of (r ∷ rs) = Some (last_from r rs)

-- How many numbers ranges hold, where they rise.
abbrev pub size : List Range → ℕ
size [] = 0
size (r ∷ rs) = (r.last - r.first + 1) + size rs

-- Ranges rise strictly: each begins at `low` or above, past the last of the range before, and none ends before it begins.
abbrev pub Rises : (low : ℕ) → List Range → Type 0
Rises low [] = Unit {0}
Rises low (r ∷ rs) = (nat_le low r.first ≡ true) × (nat_le r.first r.last ≡ true) × Rises (r.last + 1) rs

-- What an array asks of the third field of an entry, beside the order of the first two.
abbrev pub third_faults : Third → (start i before : ℕ) → Range → List Fault
third_faults Any s i before r = []
third_faults StartIndex s i before r = unless (r.value == before) 3 s i
third_faults GlyphsTo65535 s i before r = unless (nat_le (r.value + (r.last - r.first)) 65535) 4 s i

-- The faults of an entry at byte i, field by field: it begins at `low` or above, and ends no sooner than it begins. `before` numbers lie in the entries before.
abbrev pub entry_faults : Third → Kind → (start i low before : ℕ) → Range → List Fault
entry_faults third kind s i low before r =
    unless (nat_le low r.first) 3 s i
    ++ (unless (nat_le r.first r.last) 3 s (i + field_size kind) ++ third_faults third s (i + 2 * field_size kind) before r)

-- The faults of entries in order: each begins past the last of the one before.
abbrev pub order_faults : Third → Kind → (start i low before : ℕ) → List Range → List Fault
order_faults third kind s i low before [] = []
order_faults third kind s i low before (r ∷ rs) =
    entry_faults third kind s i low before r
    ++ order_faults third kind s (i + entry_size kind) (r.last + 1) (before + (r.last - r.first + 1)) rs

-- The faults of an array of n entries from byte i on, in the structure at `start`: its extent, then the entries in order.
abbrev pub array_faults : Third → Kind → (table : List ℕ) → (start i n : ℕ) → List Fault
array_faults third kind t s i n = extent t s i (field_size kind) (field_count kind * n) ++ order_faults third kind s i 0 0 (ranges_from kind t i 0 n)

-- Ranges behind a format and their count, as coverages and class definitions have them; and their faults.
abbrev pub counted_ranges : Kind → (table : List ℕ) → (s : ℕ) → List Range
counted_ranges kind t s = ranges_from kind t (s + 4) 0 (u16_at t (s + 2))

abbrev pub counted_faults : Third → Kind → (table : List ℕ) → (s : ℕ) → List Fault
counted_faults third kind t s = extent t s (s + 2) 2 1 ++ array_faults third kind t s (s + 4) (u16_at t (s + 2))
