-- What marks say while a text is shaped, and what they say once it is.
use Rattle.std.specs.Prelude.{ℕ, Bool, not, cond, ◌&&◌, List, ◌==◌, nat_le, nat_lt, slice_index, slice_set}

-- While a text is shaped, its marks are flags: cluster b is tied where its mark is not 0. No cluster past the marks is tied.
abbrev pub tied_in : (marks : List ℕ) → ℕ → Bool
tied_in marks b = not (slice_index marks b == 0)

-- The mark of cluster b once the clusters behind lo up to hi are tied: theirs is 1, every other as it was.
abbrev pub tied_mark : (lo hi : ℕ) → (marks : List ℕ) → (b : ℕ) → ℕ
tied_mark lo hi marks b = cond (nat_lt lo b && nat_le b hi) 1 (slice_index marks b)

-- The mark of a tied cluster that a glyph has is 1.
abbrev pub noted : (cluster : ℕ) → (marks : List ℕ) → List ℕ
noted c marks = cond (slice_index marks c == 0) marks (slice_set marks c 1)
