-- What a file of text says.
use Rattle.std.specs.Prelude.{List, ℕ}
use Rattle.std.specs.Io.BufRead.{strip_last}

-- The bytes without the line feed that ends the last line.
abbrev pub text_in : List ℕ → List ℕ
text_in bytes = strip_last 10 bytes
