use Rattle.std.proofs.Common.{ℕ, ◌≡◌, ◌+◌, ◌≤◌, length, take}
use Rattle.std.specs.Prelude.{is_none}
use Rattle.std.specs.List.{suffix_len}
use Rattle.paragraph.proofs.hand.places_used.Given as goal

-- the places from there on are empty
abbrev pub invariant-loop-used : goal.invariant-loop-used
invariant-loop-used l = (l.used ≤ length l.hand) × (l.used + suffix_len is_none l.hand ≡ length l.hand + suffix_len is_none (take l.used l.hand))

abbrev pub decreases-loop-used : goal.decreases-loop-used
decreases-loop-used l = l.used
