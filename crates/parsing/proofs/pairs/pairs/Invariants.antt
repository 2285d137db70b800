use Rattle.std.proofs.Common.{◌≡◌, ◌≤◌, length, map}
use Rattle.std.specs.List.{AllByRecursion}
use Rattle.font.specs.StandIn.{pairs_of}
use Rattle.parsing.specs.Pairs.{IsPairLine, pair_in}
use Rattle.parsing.proofs.pairs.pairs.Given as goal

-- the lines so far are pairs, and the table holds them; it holds 32 at most
abbrev pub invariant-loop-index : goal.invariant-loop-index
invariant-loop-index l = record {
  lines : AllByRecursion IsPairLine (map (λ x. x.1.now) l.yielded);
  pairs : pairs_of l.table ≡ map pair_in (map (λ x. x.1.now) l.yielded);
  few : length (pairs_of l.table) ≤ 32;
}
