-- What a GSUB table without faults means: its lookups, by number.
use Rattle.std.specs.Prelude.{ℕ, ◌+◌, ◌*◌, false, cond, List, [], ◌∷◌, ◌++◌, drop, ◌==◌, if◌then◌else◌, nat_lt, sum_by}
use Rattle.std.specs.List.{range_with_len}
use Rattle.layout.specs.Bytes.{u16_at, u32_at}
use Rattle.model.specs.Lookups.{Candidate, Lookup}
use Rattle.gsub.specs.Candidates.{fields, subtable_candidates}
use Rattle.gsub.specs.Tables.{lookup_count, moved_type}

-- Where lookup number k starts.
abbrev pub lookup_at : (table : List ℕ) → (k : ℕ) → ℕ
lookup_at t k = u16_at t 8 + u16_at t (u16_at t 8 + 2 + 2 * k)

-- How many subtables lookup k has, 0 for a lookup that does not exist; and how many all lookups have.
abbrev pub subtable_count : (table : List ℕ) → (k : ℕ) → ℕ
subtable_count t k = (if nat_lt k (lookup_count t) then u16_at t (lookup_at t k + 4) else 0)

abbrev pub all_subtables : (table : List ℕ) → ℕ
all_subtables t = sum_by (subtable_count t) (range_with_len 0 (lookup_count t))

-- The type of the lookup at s; an extension's is that of what it moves.
abbrev pub type_at : (table : List ℕ) → (s : ℕ) → ℕ
type_at t s = cond (u16_at t s == 7) (moved_type t s) (u16_at t s)

-- Where a subtable of it starts, given its offset.
abbrev pub subtable_at : (table : List ℕ) → (s offset : ℕ) → ℕ
subtable_at t s o = cond (u16_at t s == 7) (s + o + u32_at t (s + o + 4)) (s + o)

-- The candidates of all subtables, in order. A subtable means what its part of the table does, from its first byte on.
abbrev pub candidates_of : (table : List ℕ) → (s value glyph : ℕ) → (offsets : List ℕ) → List Candidate
candidates_of t s v g [] = []
candidates_of t s v g (o ∷ os) = subtable_candidates (drop (subtable_at t s o) t) (type_at t s) v g ++ candidates_of t s v g os

-- Flag, mark set number (behind the offsets), direction (type 8 goes backward) and candidates of the lookup at s.
abbrev pub lookup_means : (table : List ℕ) → (s : ℕ) → Lookup
lookup_means t s = record {
  flag = u16_at t (s + 2);
  mark_set = u16_at t (s + 6 + 2 * u16_at t (s + 4));
  backward = (type_at t s == 8);
  candidates = λ v g. candidates_of t s v g (fields t (s + 6) (u16_at t (s + 4)));
}

-- What a number stands for that no lookup of the table has: nothing is passed over, and nothing matches.
abbrev pub no_lookup : Lookup
no_lookup = record { flag = 0; mark_set = 0; backward = false; candidates = λ v g. [] }

abbrev pub gsub_means : (table : List ℕ) → (k : ℕ) → Lookup
gsub_means t k = cond (nat_lt k (lookup_count t)) (lookup_means t (lookup_at t k)) no_lookup
