-- Why bytes were not read.
use Rattle.std.specs.Prelude.{ℕ, ◌≡◌, ◌+◌, ◌<◌, ◌++◌, ◌∷◌, List, length, IsUtf8}
use Rattle.std.specs.List.{AllByRecursion}
use Rattle.std.specs.Str.Lines.{lines}
use Rattle.parsing.specs.declared.error.ReadError.{ReadError}
use Rattle.parsing.specs.declared.error.ReadError.TheVariants.{NotUtf8, Line, Refused, Memory}
use Rattle.parsing.specs.Text.{text_in}

-- The first line that is not what it should be: those before it are. Lines count from 1.
abbrev pub IsFirstBad : (List ℕ → Type 0) → List (List ℕ) → ℕ → Type 0
IsFirstBad Good all n = (front rest : List (List ℕ)) × (line : List ℕ) × (all ≡ front ++ line ∷ rest) × (n ≡ length front + 1) × AllByRecursion Good front × ¬ (Good line)

-- The first thing wrong with bytes whose lines should be good. Memory can only be wanting where
-- nothing else is wrong and there is something to keep.
abbrev pub NotRead : (Good : List ℕ → Type 0) → List ℕ → ReadError → Type 0
NotRead Good bytes NotUtf8 = ¬ (IsUtf8 bytes)
NotRead Good bytes (Line n) = IsUtf8 bytes × IsFirstBad Good (lines (text_in bytes)) n
NotRead Good bytes (Refused refusal) = ⊥
NotRead Good bytes Memory =
    IsUtf8 bytes × AllByRecursion Good (lines (text_in bytes)) × (0 < length (text_in bytes))
