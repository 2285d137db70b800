use Rattle.std.proofs.Common.{◌≡◌, ◌++◌, take, drop}
use Rattle.run.specs.Runs.{merged_while}
use Rattle.run.proofs.merge_while.Given as goal

-- what is left, merged, makes of the glyphs so far the answer
abbrev pub invariant-loop-slot : goal.invariant-loop-slot
invariant-loop-slot l = take l.slot-index l.slots ++ merged_while l.lo l.hi (drop l.slot-index l.slots) ≡ merged_while l.lo l.hi l.fn.slots
