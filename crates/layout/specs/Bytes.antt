-- The big-endian fields of a table. A read past the end gives 0.
use Rattle.std.specs.Prelude.{ℕ, ◌+◌, ◌*◌, List, slice_index}
use Rattle.layout.specs.declared.bytes.Width.{Width}
use Rattle.layout.specs.declared.bytes.Width.TheVariants.{Two, Four}

abbrev pub u16_at : (table : List ℕ) → (byte : ℕ) → ℕ
u16_at t i = slice_index t i * 256 + slice_index t (i + 1)

abbrev pub u32_at : (table : List ℕ) → (byte : ℕ) → ℕ
u32_at t i = u16_at t i * 65536 + u16_at t (i + 2)

-- The bytes of a field.
abbrev pub bytes_of : Width → ℕ
bytes_of Two = 2
bytes_of Four = 4
