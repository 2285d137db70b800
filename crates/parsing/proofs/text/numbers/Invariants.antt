use Rattle.std.proofs.Common.{◌≡◌, ◌<◌, false, true, length, map}
use Rattle.std.specs.List.{AllByRecursion}
use Rattle.std.specs.Str.Parse.{digits_value}
use Rattle.parsing.specs.Number.{IsNumber}
use Rattle.parsing.proofs.text.numbers.Given as goal

-- the lines so far are numbers, and while there is memory, these are kept
abbrev pub invariant-loop-index : goal.invariant-loop-index
invariant-loop-index l = record {
  numbers : AllByRecursion IsNumber (map (λ x. x.1.now) l.yielded);
  values : l.full ≡ false → l.all.items ≡ map (digits_value 10) (map (λ x. x.1.now) l.yielded);
  some : l.full ≡ true → 0 < length l.yielded;
}
