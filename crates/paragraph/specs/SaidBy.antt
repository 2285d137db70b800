-- What the code says of a call, what it holds between two calls, and all that a list of calls hands
-- back.
use Rattle.std.specs.Prelude.{◌≡◌, ℕ, List, ◌++◌, drop, length, map, take, count_by, Some, None, Option}
use Rattle.font.specs.Font.{Font}
use Rattle.model.specs.declared.Glyph.{Glyph}
use Rattle.paragraph.specs.declared.calls.Answer.{Answer}
use Rattle.paragraph.specs.declared.calls.Answer.TheVariants.{Unknown, NotInHand, NoPlace, Shaped as WasShaped, Kept, Owed, Paid, Waived, Cleared, Refused}
use Rattle.paragraph.specs.declared.calls.Call.{Call}
use Rattle.paragraph.specs.declared.calls.Call.TheVariants.{Shape, Line, Pay, Waive, Clear}
use Rattle.paragraph.specs.declared.calls.Given.{Given}
use Rattle.paragraph.specs.declared.calls.Memory.{Memory as Lent}
use Rattle.paragraph.specs.declared.slip.Slip.{Slip}
use Rattle.paragraph.specs.Calls.{Inputs, Memory}
use Rattle.paragraph.specs.Performs.{Asked, Desk, Lawful, Run, Said, has_slip, is_waived, no_place, not_in_hand, owed_by, start, unknown, was_cleared, was_kept, was_paid, was_refused, was_shaped, was_waived}
use Rattle.paragraph.specs.Told.{inputs_of, memory, refusal_number}

abbrev pub said_by : Answer → Said
said_by Unknown = unknown
said_by NotInHand = not_in_hand
said_by NoPlace = no_place
said_by (WasShaped glyphs marks hits) = was_shaped glyphs marks hits
said_by (Kept first count) = was_kept first count
said_by (Owed number) = has_slip number
said_by (Paid glyphs marks hits) = was_paid glyphs marks hits
said_by Waived = was_waived
said_by Cleared = was_cleared
said_by (Refused refusal) = was_refused (refusal_number refusal)

abbrev pub lent : Lent → Memory
lent m = memory m.run.items m.marks.items

-- What a source means, and what widths it is given: each has its own.
module _ {S : Type 0} (means : S → Font) (advances : S → ℕ → ℕ) where
  abbrev pub inputs_given : Given S → Inputs
  inputs_given g =
      inputs_of (means g.inputs.source.now) (advances g.inputs.source.now)
      g.inputs.table.table.now g.inputs.plan.now g.text.now g.inputs.limit

  abbrev pub asked : Call (Given S) → Asked
  asked (Shape g) = Shape (inputs_given g)
  asked (Line a b) = Line a b
  asked (Pay slip) = Pay slip
  asked (Waive slip) = Waive slip
  asked Clear = Clear

  abbrev pub all_asked : List (Call (Given S)) → List Asked
  all_asked calls = map asked calls

-- Memory, once as much of a list was written over it from its start as there is room for.
abbrev pub laid_over : {A : Type 0} → (list old : List A) → List A
laid_over list old = take (length old) (list ++ drop (length list) old)

-- All that is lent to a list of calls, the answers by what they say.
pub record Desktop : Type 0 where
  pub answers : List Said
  pub hand : List (Option Slip)
  pub memory : Memory
  pub own : Memory
  pub copies : Memory

abbrev pub desktop : List Answer → List (Option Slip) → (memory own copies : Lent) → Desktop
desktop answers hand m own copies =
    record {
      answers = map said_by answers;
      hand = hand;
      memory = lent m;
      own = lent own;
      copies = lent copies;
    }

-- A list of calls was performed on the paragraph of a number, as many as there are places for
-- answers: what was lent before, what it holds now, and how many slips were waived at the end.
pub record Performed (number : ℕ) (calls : List Asked)
    (old new : Desktop) (waived : ℕ) : Type 0 where
  pub run :
      Run (start number old.hand old.memory old.own) (take (length old.answers) calls)
  -- what was said, and behind it the answers that were there
  pub answers : new.answers ≡ run.said ++ drop (length run.said) old.answers
  pub hand : new.hand ≡ run.last.hand
  pub memory : new.memory ≡ run.last.memory
  pub own : new.own ≡ run.last.own
  pub run_copies : new.copies.run ≡ laid_over run.gave.run old.copies.run
  pub marks_copies : new.copies.marks ≡ laid_over run.gave.marks old.copies.marks
  pub ended : waived ≡ count_by is_waived run.at_end
  pub lawful : Lawful number run.made run.last.subject run.last.memory
  pub settled : owed_by run.last.subject ≡ 0
