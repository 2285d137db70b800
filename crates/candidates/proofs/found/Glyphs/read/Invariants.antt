use Rattle.std.proofs.Common.{◌≡◌, length, take}
use Rattle.gsub.specs.Candidates.{fields}
use Rattle.candidates.proofs.found.Glyphs.read.Given as goal

abbrev pub invariant-loop-i : goal.invariant-loop-i
invariant-loop-i l = record {
  read : take l.i l.list ≡ fields l.part l.at l.i;
  places : length l.list ≡ 64;
}
