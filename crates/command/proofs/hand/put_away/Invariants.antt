use Rattle.std.proofs.Common.{◌≡◌, length}
use Rattle.paragraph.specs.Hand.{slips_in}
use Rattle.command.proofs.hand.put_away.Given as goal

abbrev pub invariant-loop-place : goal.invariant-loop-place
invariant-loop-place l = slips_in l.hand.items ≡ 0

abbrev pub decreases-loop-place : goal.decreases-loop-place
decreases-loop-place l = length l.hand.items
