use Rattle.std.proofs.Common.{drop}
use Rattle.matching.specs.Seek.{Outward}
use Rattle.editing.proofs.editing.rise_within.Given as goal

-- what is left rises from here on, if and only if all do
abbrev pub invariant-loop-index : goal.invariant-loop-index
invariant-loop-index l = record {
  rise : Outward l.from l.n (drop l.index-index l.met) → Outward 0 l.n l.met;
  all : Outward 0 l.n l.met → Outward l.from l.n (drop l.index-index l.met);
}
