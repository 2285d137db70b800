-- The kinds of break hints, by number.
use Rattle.std.specs.Prelude.{ℕ}
use Rattle.pick.specs.declared.hint.HintKind.{HintKind}
use Rattle.pick.specs.declared.hint.HintKind.TheVariants.{May, Must}

abbrev pub kind_number : HintKind → ℕ
kind_number May = 1
kind_number Must = 2
