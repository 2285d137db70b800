-- What a call that shapes answers, and what it leaves in the memory lent to it.
use Rattle.std.specs.Prelude.{ℕ, ◌-◌, List, ◌++◌, length, replicate, Some, None, Option, Ok, Err, Result}
use Rattle.model.specs.declared.Glyph.{Glyph}
use Rattle.model.specs.Shaping.{Outcome, refused as outcome_refused, shaped}
use Rattle.run.specs.Runs.{blank}
use Rattle.shaping.specs.declared.refusal.Refusal.{Refusal}
use Rattle.shaping.specs.declared.refusal.Refusal.TheVariants.{Plan, Size, HitLimit, Room}
use Rattle.shaping.specs.declared.shape.Laid.{Laid}
use Rattle.shaping.specs.declared.stop.Stop.{Stop}
use Rattle.shaping.specs.declared.stop.Stop.TheVariants.{HitLimit as StopHitLimit, Room as StopRoom}

abbrev pub refusal_number : Refusal → ℕ
refusal_number Plan = 5
refusal_number Size = 6
refusal_number HitLimit = 7
refusal_number Room = 8

abbrev pub of_stop : Stop → Refusal
of_stop StopHitLimit = HitLimit
of_stop StopRoom = Room

-- The number of a refusal, if there is one.
abbrev pub first_number : Result (Unit {0}) Refusal → Option ℕ
first_number (Ok u) = None
first_number (Err refusal) = Some (refusal_number refusal)

-- A refusal with its number, or how many glyphs there are and how many hits it took.
pub data Answer : Type 0 where
  refused : (number : ℕ) → Answer
  gave : (glyphs hits : ℕ) → Answer

abbrev pub told : Result Laid Refusal → Answer
told (Ok laid) = gave laid.glyphs laid.hits
told (Err refusal) = refused (refusal_number refusal)

-- The right answer by the outcome of the text.
abbrev pub answer_of : Outcome → Answer
answer_of (outcome_refused n) = refused n
answer_of (shaped r) = gave (length r.run) r.hits

-- The run in a buffer of so many records, and the marks in one of so many: zeros lie behind them, and all is zero where the text was refused.
abbrev pub run_left : Outcome → (room : ℕ) → List Glyph
run_left (outcome_refused n) room = replicate room blank
run_left (shaped r) room = r.run ++ replicate (room - length r.run) blank

abbrev pub marks_left : Outcome → (room : ℕ) → List ℕ
marks_left (outcome_refused n) room = replicate room 0
marks_left (shaped r) room = r.marks ++ replicate (room - length r.marks) 0
