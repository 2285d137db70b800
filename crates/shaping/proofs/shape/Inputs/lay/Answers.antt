use Rattle.std.proofs.Common.{length, ap, ◌∙◌, arith}
use Rattle.std.proofs.lemmas.List.{length-append}
use Rattle.run.specs.Contents.{glyphs_of}
use Rattle.shaping.proofs.Laying.{laid-more}
use Rattle.shaping.proofs.shape.Inputs.lay.Goals as goal

pub loop-character-preserved : goal.loop-character-preserved
loop-character-preserved g c =
    let so_far = c.loop-character.invariant in
    let pushed = c.in-Ok.ensures.pushed in
    record {
      laid = laid-more (g.S.FontSource.means c.args.self.now.source.now) (glyphs_of c.loop-character.run) (glyphs_of c.push.new.self) c.loop-character.cluster c.loop-character.character-index c.glyph-glyph.result c.args.text.now (omega arith) c.glyph-glyph.ensures pushed so_far.laid;
      counted = omega (arith, so_far.counted);
      long = ap length pushed ∙ simp length-append (omega (arith, so_far.long));
      room = c.push.ensures.room ∙ so_far.room;
      lender = c.push.ensures.lender ∙ so_far.lender;
    }
