use Rattle.std.proofs.Common.{ℕ, ◌≡◌, List, drop, length, map, take, ◌++◌}
use Rattle.paragraph.specs.Calls.{Answer, Call, Memory}
use Rattle.paragraph.specs.Hand.{slips_in}
use Rattle.paragraph.specs.Performs.{Performs, desk, start}
use Rattle.paragraph.specs.SaidBy.{all_asked, lent, said_by}
use Rattle.paragraph.specs.Whole.{AreWritten, subject_in}
use Rattle.paragraph.proofs.perform.perform.Given as goal

-- the calls so far were performed, and behind what was answered stand the answers that were there
abbrev pub invariant-loop-at : goal.invariant-loop-at
invariant-loop-at g l =
    (advances : g.row.S.Denot → ℕ → ℕ) → (hs : List (Call × Answer)) × (gave : Memory)
    × Performs (start l.fn.number l.fn.hand (lent l.fn.memory) (lent l.fn.own)) (take l.at (all_asked g.S.FontSource.means advances l.fn.calls)) (map said_by (take l.at l.answers)) hs gave
    (desk (subject_in g.S.FontSource.means advances l.whole) l.hand l.used (lent l.memory) (lent l.own))
    × (drop l.at l.answers ≡ drop l.at l.fn.answers) × AreWritten l.copied gave (lent l.fn.copies) (lent l.copies)
