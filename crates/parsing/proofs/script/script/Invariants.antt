use Rattle.std.proofs.Common.{map}
use Rattle.std.specs.List.{AllZip}
use Rattle.parsing.specs.Script.{Says, words_in}
use Rattle.parsing.proofs.script.script.Given as goal

-- the lines so far say the calls so far
abbrev pub invariant-loop-line : goal.invariant-loop-line
invariant-loop-line l = record {
  calls : AllZip (λ line call. Says (words_in line) call) (map (λ x. x.now) l.yielded) l.calls.items;
}
