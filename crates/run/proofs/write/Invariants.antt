use Rattle.std.proofs.Common.{◌≡◌, map}
use lib.Seq.{paste}
use Rattle.model.specs.Edits.{at_cluster}
use Rattle.run.proofs.write.Given as goal

-- the first i glyphs are written
abbrev pub invariant-loop-i : goal.invariant-loop-i
invariant-loop-i l = l.slots ≡ paste l.fn.slots l.at (map (at_cluster l.cluster) l.glyphs) l.i
