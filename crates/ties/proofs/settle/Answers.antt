use Rattle.std.proofs.Common.{◌∙◌, sym, length, arith}
use Rattle.run.specs.Contents.{glyphs_of}
use Rattle.ties.specs.Ties.{tied_in}
use Rattle.ties.proofs.Notes.{marks-tied, noted-more, noted-all}
use Rattle.ties.proofs.settle.Goals as goal

pub loop-i-init : goal.loop-i-init
loop-i-init c = λ h. c.mark_tied.ensures ∙ marks-tied c.args.marks.now h

pub loop-i-preserved : goal.loop-i-preserved
loop-i-preserved c = λ h.
    c.mark_glyph.ensures
    ∙ noted-more (glyphs_of c.args.run.now) (tied_in c.args.marks.now) h (length c.args.marks.now) c.loop-i.i c.loop-i.marks (c.loop-i.invariant h) c.in-Some.glyph (sym c.get.ensures ∙ c.in-Some.is)

pub returns : goal.returns
returns c = record {
  marks = λ h. noted-all (glyphs_of c.args.run.now) (tied_in c.args.marks.now) h (length c.args.marks.now) c.loop-i.i c.loop-i.marks (c.loop-i.invariant h) (omega (arith, c.len-i-end.ensures.len, c.loop-i-test.false));
}
