use Rattle.std.proofs.Common.{◌≡◌, ◌+◌, ◌-◌, ◌≤◌}
use Rattle.std.specs.Vec.{vec_capacity, vec_len}
use Rattle.paragraph.specs.Hand.{slips_in}
use Rattle.command.proofs.hand.empty_hand.Given as goal

-- no slip so far, and room for the places that are to come
abbrev pub invariant-loop : goal.invariant-loop
invariant-loop l = (slips_in l.hand.items ≡ 0) × (vec_len l.hand + (l.fn.places - l.counter) ≤ vec_capacity l.hand)
