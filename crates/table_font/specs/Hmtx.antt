-- An hmtx table: advance and left bearing of each glyph, 16 bits each. How many glyphs it has is told from outside; those past it have the last advance.
use Rattle.std.specs.Prelude.{ℕ, ◌-◌, ◌*◌, min, List, ◌++◌, nat_le}
use Rattle.layout.specs.Bytes.{u16_at}
use Rattle.layout.specs.declared.fault.Fault.{Fault}
use Rattle.layout.specs.Faults.{unless, extent}

abbrev pub hmtx_faults : (table : List ℕ) → (metrics : ℕ) → List Fault
hmtx_faults t n = unless (nat_le 1 n) 4 0 0 ++ extent t 0 0 2 (2 * n)

abbrev pub advance_of : (table : List ℕ) → (metrics glyph : ℕ) → ℕ
advance_of t n g = u16_at t (4 * min g (n - 1))
