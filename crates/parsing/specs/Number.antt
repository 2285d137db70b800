-- Decimal digits and nothing else.
use Rattle.std.specs.Prelude.{ℕ, ◌^◌, ◌<◌, List}
use Rattle.std.specs.Str.Parse.{IsNumeral, digits_value}

-- A number of 32 bits.
abbrev pub IsNumber : List ℕ → Type 0
IsNumber digits = IsNumeral 10 digits × (digits_value 10 digits < 2 ^ 32)

-- A number of 16 bits.
abbrev pub IsShort : List ℕ → Type 0
IsShort digits = IsNumeral 10 digits × (digits_value 10 digits < 2 ^ 16)
