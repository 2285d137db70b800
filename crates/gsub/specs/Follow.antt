-- The parts that the faults of GSUB's structures are put together from: counts within bounds, and offsets that lead to further structures.
use Rattle.std.specs.Prelude.{ℕ, ◌+◌, Bool, false, cond, ◌&&◌, List, ◌++◌, ◌==◌, nat_le}
use Rattle.layout.specs.Bytes.{u16_at}
use Rattle.layout.specs.declared.fault.Fault.{Fault}
use Rattle.layout.specs.Faults.{unless, extent, counted_extent, in_turn}

-- What a walk goes over: a table, and how many lookups it has.
pub record Walked : Type 0 where
  pub table : List ℕ
  pub lookups : ℕ

-- The faults of the structure that starts at a byte.
abbrev pub Faults : Type 0
Faults = (start : ℕ) → List Fault

-- The count at byte i of the structure at s lies in the table, and from `low` to 64.
abbrev pub count_faults : (table : List ℕ) → (s i low : ℕ) → List Fault
count_faults t s i low = extent t s i 2 1 ++ unless (nat_le low (u16_at t i) && nat_le (u16_at t i) 64) 4 s i

-- What the offset at byte i of the structure at s leads to. An offset of 0 leads nowhere if `null` holds, and is a fault of the structure at s if not.
abbrev pub behind : (null : Bool) → (table : List ℕ) → (s i : ℕ) → Faults → List Fault
behind null t s i faults = cond (u16_at t i == 0) (unless null 2 s i) (faults (s + u16_at t i))

-- What n offsets lead to, the first of them at byte i.
abbrev pub each_behind : (null : Bool) → (table : List ℕ) → (s i n : ℕ) → Faults → List Fault
each_behind null t s i n faults = in_turn (λ k b. behind null t s b faults) 2 0 i n

-- A structure that lists others: the count at its start, the extent of the offsets, and what they lead to.
abbrev pub list_faults : (table : List ℕ) → (s : ℕ) → Faults → List Fault
list_faults t s faults = counted_extent t s s 2 ++ each_behind false t s (s + 2) (u16_at t s) faults
