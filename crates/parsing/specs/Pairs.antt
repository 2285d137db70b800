-- What the lines of a stand-in file say.
use Rattle.std.specs.Prelude.{ℕ, ◌≡◌, ◌≤◌, List, length, take, ◌==◌, IsUtf8}
use Rattle.std.specs.List.{AllByRecursion, before_first, after_first}
use Rattle.std.specs.Str.Lines.{lines}
use Rattle.std.specs.Str.Parse.{digits_value}
use Rattle.font.specs.declared.pairs.Pair.{Pair}
use Rattle.font.specs.declared.refusal.Refusal.TheVariants.{TooManyPairs}
use Rattle.parsing.specs.declared.error.ReadError.{ReadError}
use Rattle.parsing.specs.declared.error.ReadError.TheVariants.{NotUtf8, Line, Refused, Memory}
use Rattle.parsing.specs.Faults.{IsFirstBad}
use Rattle.parsing.specs.Number.{IsNumber}
use Rattle.parsing.specs.Text.{text_in}

-- A line is parted at its first tab.
abbrev pub before_tab : List ℕ → List ℕ
before_tab line = before_first (λ b. b == 9) line

abbrev pub after_tab : List ℕ → List ℕ
after_tab line = after_first (λ b. b == 9) line

-- It has a number in front of the tab, and one behind it.
abbrev pub IsPairLine : List ℕ → Type 0
IsPairLine line = IsNumber (before_tab line) × IsNumber (after_tab line)

abbrev pub pair_in : List ℕ → Pair
pair_in line = record { character = digits_value 10 (before_tab line); stand_in = digits_value 10 (after_tab line) }

-- The first 33 lines of a file are pairs.
abbrev pub Has33Pairs : List (List ℕ) → Type 0
Has33Pairs all = (33 ≤ length all) × AllByRecursion IsPairLine (take 33 all)

-- The first thing wrong with a stand-in file: bytes that are not UTF-8; else its first line that is no
-- pair, or the 33rd pair, whichever comes first.
abbrev pub NotPairs : List ℕ → ReadError → Type 0
NotPairs bytes NotUtf8 = ¬ (IsUtf8 bytes)
NotPairs bytes (Line n) = IsUtf8 bytes × IsFirstBad IsPairLine (lines (text_in bytes)) n × (n ≤ 33)
NotPairs bytes (Refused refusal) =
    IsUtf8 bytes × Has33Pairs (lines (text_in bytes)) × (refusal ≡ TooManyPairs)
NotPairs bytes Memory = ⊥
