use Rattle.std.proofs.Common.{◌≡◌, ◌==◌, ◌++◌, cond, map, take, drop}
use Rattle.ties.proofs.mark_tied.Given as goal

-- what is left, marked, makes of the marks so far the answer
abbrev pub invariant-loop-mark : goal.invariant-loop-mark
invariant-loop-mark l = take l.mark-index l.marks ++ map (λ mark. cond (mark == 0) 0 2) (drop l.mark-index l.marks) ≡ map (λ mark. cond (mark == 0) 0 2) l.fn.marks
