-- What the code holds of a paragraph between two calls.
use Rattle.std.specs.Prelude.{◌≡◌, ℕ, List, ◌++◌, count_by, length, min, Option}
use Rattle.font.specs.Font.{Font}
use Rattle.paragraph.specs.declared.perform.Whole.{Whole}
use Rattle.paragraph.specs.declared.perform.Whole.TheVariants.{Blank, Shaped}
use Rattle.paragraph.specs.declared.perform.Copied.{Copied}
use Rattle.paragraph.specs.declared.slip.Slip.{Slip}
use Rattle.paragraph.specs.Calls.{Answer, Call, Memory}
use Rattle.paragraph.specs.Performs.{Desk, Performs, Said, Subject, desk, is_waived, nothing, shaped_from, still_blank, waives}
use Rattle.paragraph.specs.SaidBy.{inputs_given, laid_over}

abbrev pub subject_in : {S : Type 0} → (S → Font) → (S → ℕ → ℕ) → Whole S → Subject
subject_in means advances (Blank b) = still_blank b.number
subject_in means advances (Shaped k g) = shaped_from (inputs_given means advances g.now) k

-- A list was written over what memory held, as far as the place that is told.
abbrev pub IsWritten : {A : Type 0} → (at : ℕ) → (list old now : List A) → Type 0
IsWritten at list old now = (at ≡ min (length list) (length old)) × (now ≡ laid_over list old)

abbrev pub AreWritten : Copied → (gave old now : Memory) → Type 0
AreWritten c gave old now =
    IsWritten c.glyphs gave.run old.run now.run × IsWritten c.marks gave.marks old.marks now.marks

-- A waive of each place in use was performed: so many were waived, and the hand is this one.
abbrev pub AllWaived : Desk → (hand : List (Option Slip)) → (waived : ℕ) → Type 0
AllWaived d hand waived =
    (s : Subject) × (said : List Said) × (hs : List (Call × Answer))
    × Performs d (waives d.used) said hs nothing (desk s hand d.used d.memory d.own)
    × (waived ≡ count_by is_waived said)
