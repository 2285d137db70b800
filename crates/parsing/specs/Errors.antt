-- Errors by name, and what other errors turn into.
use Rattle.std.specs.Prelude.{ℕ}
use Rattle.font.specs.declared.refusal.Refusal.{Refusal}
use Rattle.parsing.specs.declared.error.ReadError.{ReadError}
use Rattle.parsing.specs.declared.error.ReadError.TheVariants as read

abbrev pub refused_with : Refusal → ReadError
refused_with refusal = read.Refused refusal

abbrev pub not_utf8 : ReadError
not_utf8 = read.NotUtf8

abbrev pub bad_line : ℕ → ReadError
bad_line n = read.Line n

abbrev pub no_memory : ReadError
no_memory = read.Memory
