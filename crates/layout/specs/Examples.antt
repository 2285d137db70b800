-- What small structures mean, and which fault they have, worked out by hand.
use Rattle.std.specs.Prelude.{◌≡◌, ℕ, List, [], ◌∷◌, Some, None}
use Rattle.layout.specs.Classes.{class_at, class_behind, class_faults}
use Rattle.layout.specs.Coverages.{coverage_faults, coverage_index}
use Rattle.layout.specs.Faults.{first_in}

-- Format 1: the glyphs 5 and 9.
abbrev pub glyphs : List ℕ
glyphs = 0 ∷ 1 ∷ 0 ∷ 2 ∷ 0 ∷ 5 ∷ 0 ∷ 9 ∷ []

-- Format 2: the glyphs 5 to 7, and 10 to 12 with a start index, which is to be 3.
abbrev pub ranges : (start : ℕ) → List ℕ
ranges start =
    0 ∷ 2 ∷ 0 ∷ 2 ∷ 0 ∷ 5 ∷ 0 ∷ 7 ∷ 0 ∷ 0 ∷ 0 ∷ 10 ∷ 0 ∷ 12 ∷ 0 ∷ start ∷ []

-- A class definition of format 1: glyph 5 has class 3, and 6 has 4.
abbrev pub listed : List ℕ
listed = 0 ∷ 1 ∷ 0 ∷ 5 ∷ 0 ∷ 2 ∷ 0 ∷ 3 ∷ 0 ∷ 4 ∷ []

-- And of format 2: 5 to 7 have class 2, and 8 has 1.
abbrev pub ranged : List ℕ
ranged = 0 ∷ 2 ∷ 0 ∷ 2 ∷ 0 ∷ 5 ∷ 0 ∷ 7 ∷ 0 ∷ 2 ∷ 0 ∷ 8 ∷ 0 ∷ 8 ∷ 0 ∷ 1 ∷ []

pub record Examples : Type 0 where
  -- COVERAGES: an index counts from the start index of the glyph's range
  pub second_glyph : coverage_index glyphs 0 9 ≡ Some 1
  pub not_listed : coverage_index glyphs 0 6 ≡ None
  pub in_the_first_range : coverage_index (ranges 3) 0 5 ≡ Some 0
  pub in_the_second_range : coverage_index (ranges 3) 0 12 ≡ Some 5
  pub between_the_ranges : coverage_index (ranges 3) 0 8 ≡ None
  pub no_fault : first_in (coverage_faults (ranges 3) 0) ≡ None
  pub wrong_start_index :
      first_in (coverage_faults (ranges 4) 0) ≡ Some (record { number = 3; start = 0; byte = 14 })
  -- CLASS DEFINITIONS: what is not listed has class 0
  pub no_class_fault : first_in (class_faults listed 0) ≡ None
  pub before_the_list : class_at listed 0 4 ≡ 0
  pub first_listed : class_at listed 0 5 ≡ 3
  pub last_listed : class_at listed 0 6 ≡ 4
  pub past_the_list : class_at listed 0 7 ≡ 0
  pub no_ranges_fault : first_in (class_faults ranged 0) ≡ None
  pub last_of_a_range : class_at ranged 0 7 ≡ 2
  pub next_range : class_at ranged 0 8 ≡ 1
  pub past_the_ranges : class_at ranged 0 9 ≡ 0
  -- an offset of 0 leads to none
  pub no_definition : class_behind listed 0 0 5 ≡ 0
