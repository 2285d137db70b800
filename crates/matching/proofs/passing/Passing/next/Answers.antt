use Rattle.std.proofs.Common.{sym, ◌∙◌, arith}
use Rattle.matching.specs.Next.{skips}
use Rattle.matching.proofs.Nexts.{next-on, next-found}
use Rattle.matching.proofs.passing.Passing.next.Goals as goal

pub returns-then-not-over-clause-next : goal.returns-then-not-over-clause-next
returns-then-not-over-clause-next g c = sym (next-found (skips (g.S.FontSource.means c.args.self.now.source.now) c.args.self.now.flag c.args.self.now.mark_set) (g.G.Glyphs.glyphs c.args.glyphs.now) c.args.from c.loop-i.i c.loop-i.invariant.0 c.in_ok-glyph.glyph c.loop-i.invariant.1 (sym c.get.ensures ∙ c.in_ok-glyph.was) (sym c.if-not-over.ensures))

pub loop-i-preserved : goal.loop-i-preserved
loop-i-preserved g c =
    (omega arith, next-on (skips (g.S.FontSource.means c.args.self.now.source.now) c.args.self.now.flag c.args.self.now.mark_set) (g.G.Glyphs.glyphs c.args.glyphs.now) c.args.from c.loop-i.i c.loop-i.invariant.0 c.in_ok-glyph.glyph c.loop-i.invariant.1 (sym c.get.ensures ∙ c.in_ok-glyph.was) (sym c.if-not-over.ensures))
