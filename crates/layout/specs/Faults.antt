-- The faults of a structure, in the order in which a walk meets them. Only the first is ever told, so what a list says behind it may be nonsense.
use Rattle.std.specs.Prelude.{ℕ, zero, suc, ◌+◌, ◌-◌, ◌*◌, ◌/◌, Bool, true, false, cond, ◌&&◌, List, [], ◌∷◌, ◌++◌, map, length, Some, None, Option, ◌==◌, nat_le}
use Rattle.layout.specs.declared.fault.Fault.{Fault}
use Rattle.layout.specs.declared.fault.Place.{Place}
use Rattle.layout.specs.declared.fault.Report.{Report}
use Rattle.layout.specs.declared.fault.TableName.{TableName}
use Rattle.layout.specs.Bytes.{u16_at}

-- One fault, unless a test holds.
abbrev pub unless : Bool → (number start byte : ℕ) → List Fault
unless true n s i = []
unless false n s i = record { number = n; start = s; byte = i } ∷ []

-- The first of a list.
abbrev pub first_in : {X : Type 0} → List X → Option X
first_in [] = None
first_in (x ∷ xs) = Some x

-- Of n fields of w bytes, from byte i on, the first that does not lie in the table.
abbrev pub extent : (table : List ℕ) → (start i w n : ℕ) → List Fault
extent t s i w n = unless (nat_le (i + w * n) (length t)) 1 s (i + w * ((length t - i) / w))

-- The count at byte i, and behind it that many fields of w bytes.
abbrev pub counted_extent : (table : List ℕ) → (start i w : ℕ) → List Fault
counted_extent t s i w = extent t s i 2 1 ++ extent t s (i + 2) w (u16_at t i)

-- The faults of what an offset leads to, counted from `base`; none where the offset is 0 and that is allowed.
abbrev pub if_there : (offset base : ℕ) → (faults : ℕ → List Fault) → List Fault
if_there offset base faults = cond (offset == 0) [] (faults (base + offset))

-- What the n elements of an array give, in order: the first has a number and stands at byte i, and each takes w bytes.
abbrev pub in_turn : {X : Type 0} → (each : (number i : ℕ) → List X) → (w number i n : ℕ) → List X
in_turn each w k i zero = []
in_turn each w k i (suc n) = each k i ++ in_turn each w (k + 1) (i + w) n

-- A structure begins with its format, a number from 1 on.
abbrev pub format_faults : (table : List ℕ) → (s most : ℕ) → List Fault
format_faults t s most = extent t s s 2 1 ++ unless (nat_le 1 (u16_at t s) && nat_le (u16_at t s) most) 2 s s

-- A structure's fault, told at a place; and so its faults.
abbrev pub report_at : Place → Fault → Report
report_at p f = record { place = p; fault = f }

abbrev pub reports : Place → List Fault → List Report
reports p = map (report_at p)

-- The place of a table itself: no lookup, no subtable.
abbrev pub own_place : TableName → Place
own_place name = record { table = name; lookup = None; subtable = None }

-- A table has at most 16,777,215 bytes, which is tested first of all.
abbrev pub too_long : TableName → (table : List ℕ) → List Report
too_long name t = reports (own_place name) (unless (nat_le (length t) 16777215) 4 0 0)
