use Rattle.std.proofs.Common.{◌≡◌, ◌≤◌, List, count_by}
use Rattle.paragraph.specs.Calls.{Answer, Call, Inputs, Memory}
use Rattle.paragraph.specs.Performs.{Performs, Said, desk, is_waived, nothing, shaped_from, waives}
use Rattle.paragraph.proofs.perform.waive_owed.Given as goal

-- the places so far were waived
abbrev pub invariant-loop-at : goal.invariant-loop-at
invariant-loop-at l =
    (l.waived ≤ l.at) × ((x : Inputs) (memory own : Memory) → (said : List Said) × (hs : List (Call × Answer))
    × Performs (desk (shaped_from x l.fn.shaped) l.fn.hand l.fn.used memory own) (waives l.at) said hs nothing (desk (shaped_from x l.shaped) l.hand l.fn.used memory own)
    × (l.waived ≡ count_by is_waived said))
