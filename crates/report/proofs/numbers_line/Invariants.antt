use Rattle.std.proofs.Common.{◌≡◌, ◌++◌, take, string_bytes, codes, decimal}
use Rattle.std.specs.List.{flat_map}
use Rattle.report.proofs.numbers_line.Given as goal

abbrev pub invariant-loop-n : goal.invariant-loop-n
invariant-loop-n l = string_bytes l.line ≡ l.title ++ flat_map (λ n. codes " " ++ decimal n) (take l.n-index l.numbers)
