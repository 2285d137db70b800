use Rattle.std.proofs.Common.{◌≡◌, ◌++◌, length, drop}
use Rattle.model.specs.Shaping.{laid}
use Rattle.run.specs.Contents.{glyphs_of, room_of, lender_of}
use Rattle.shaping.proofs.shape.Inputs.lay.Given as goal

-- the glyphs so far, and those of the characters left, are the whole
abbrev pub invariant-loop-character : goal.invariant-loop-character
invariant-loop-character g l = record {
  laid : glyphs_of l.run ++ laid (g.S.FontSource.means l.self.source.now) l.cluster (drop l.character-index l.text) ≡ laid (g.S.FontSource.means l.self.source.now) 0 l.text;
  counted : l.cluster ≡ l.character-index;
  long : length (glyphs_of l.run) ≡ l.character-index;
  room : room_of l.run ≡ room_of l.fn.run;
  lender : lender_of l.run ≡ lender_of l.fn.run;
}
