-- What a pick answers, and what it leaves in the buffer.
use Rattle.std.specs.Prelude.{ℕ, cond, List, ◌++◌, drop, length, map, take, Ok, Err, Result, nat_le, nat_lt}
use Rattle.pick.specs.declared.line.Stretch.{Stretch}
use Rattle.pick.specs.declared.refusal.Refusal.{Refusal}
use Rattle.pick.specs.declared.refusal.Refusal.TheVariants.{Ends, Room}
use Rattle.pick.specs.Lines.{lowered, stretch}

abbrev pub refusal_number : Refusal → ℕ
refusal_number Ends = 9
refusal_number Room = 8

-- A refusal by its number, or the records of the line.
pub data Answer : Type 0 where
  refused : (number : ℕ) → Answer
  found : Stretch → Answer

abbrev pub told : Result Stretch Refusal → Answer
told (Ok line) = found line
told (Err refusal) = refused (refusal_number refusal)

module _ {R : Type 0} (cluster_of : R → ℕ) where
  -- 9 where a line does not end behind its begin, then 8 where the buffer is too short for its records.
  abbrev pub right : (a b : ℕ) → List R → (room : ℕ) → Answer
  right a b rs room = cond (nat_le b a) (refused 9) (cond (nat_lt room (stretch cluster_of a b rs).count) (refused 8) (found (stretch cluster_of a b rs)))

  -- The records stand at the front of the buffer, with clusters lowered by a. A refusal changes nothing.
  abbrev pub after : (copy_at : R → ℕ → R) → (a : ℕ) → List R → (buffer : List R) → Answer → List R
  after copy_at a rs buffer (refused n) = buffer
  after copy_at a rs buffer (found line) = map (lowered cluster_of copy_at a) (take line.count (drop line.first rs)) ++ drop line.count buffer

  abbrev pub picked : (copy_at : R → ℕ → R) → (a b : ℕ) → List R → (buffer : List R) → List R
  picked copy_at a b rs buffer = after copy_at a rs buffer (right a b rs (length buffer))
