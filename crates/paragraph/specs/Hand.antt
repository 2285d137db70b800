-- A hand: places for slips.
use Rattle.std.specs.Prelude.{ℕ, ◌-◌, Bool, false, cond, List, length, ◌==◌, count_by, is_none, is_some, slice_get, Some, None, Option}
use Rattle.std.specs.List.{suffix_len}
use Rattle.paragraph.specs.declared.slip.Slip.{Slip}

-- How many places are in use: up to the last that holds a slip.
abbrev pub places_used : List (Option Slip) → ℕ
places_used hand = length hand - suffix_len is_none hand

abbrev pub held : Option (Option Slip) → Option Slip
held None = None
held (Some place) = place

-- The slip with a number: of that place, counted from 1.
abbrev pub in_hand : List (Option Slip) → (j : ℕ) → Option Slip
in_hand hand j = cond (j == 0) None (held (slice_get hand (j - 1)))

-- How many slips there are, and how many of them are of a paragraph's number.
abbrev pub slips_in : List (Option Slip) → ℕ
slips_in hand = count_by is_some hand

abbrev pub is_of : (number : ℕ) → Option Slip → Bool
is_of number None = false
is_of number (Some s) = s.number == number

abbrev pub slips_of : (number : ℕ) → List (Option Slip) → ℕ
slips_of number hand = count_by (is_of number) hand
