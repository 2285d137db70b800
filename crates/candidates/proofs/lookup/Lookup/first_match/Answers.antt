use Rattle.std.proofs.Common.{[], sym, ap, ◌∙◌, arith}
use Rattle.run.specs.Contents.{glyphs_of}
use Rattle.matching.specs.Next.{skips}
use Rattle.candidates.specs.LookupOf.{lookup_of}
use Rattle.candidates.specs.Views.{list_of, listed}
use Rattle.candidates.proofs.Chosens.{all-past, list-in}
use Rattle.candidates.proofs.lookup.Lookup.first_match.Goals as goal

pub loop-j-preserved-in_default : goal.loop-j-preserved-in_default
loop-j-preserved-in_default g c =
    let k = c.args.self.now in
    record {
      same =
          list-in (skips (g.S.FontSource.means c.args.passing.now.source.now) c.args.passing.now.flag c.args.passing.now.mark_set) (glyphs_of c.args.run.now) c.args.p
          k.gsub.table.now k.start c.args.alternate c.args.glyph k.subtables c.loop-j.j ((lookup_of k).candidates c.args.alternate c.args.glyph) [] (omega arith) c.loop-j.invariant.same (sym (ap listed c.in_default.is) ∙ c.listed.ensures);
      kept = c.loop-j.invariant.kept;
    }

pub loop-k-init : goal.loop-k-init
loop-k-init g c =
    let k = c.args.self.now in
    record {
      same =
          list-in (skips (g.S.FontSource.means c.args.passing.now.source.now) c.args.passing.now.flag c.args.passing.now.mark_set) (glyphs_of c.args.run.now) c.args.p
          k.gsub.table.now k.start c.args.alternate c.args.glyph k.subtables c.loop-j.j ((lookup_of k).candidates c.args.alternate c.args.glyph) (list_of c.in-Some.list) (omega arith) c.loop-j.invariant.same c.in-Some.ensures;
      kept = c.loop-j.invariant.kept;
    }

pub returns-after-loop-j-clause-found : goal.returns-after-loop-j-clause-found
returns-after-loop-j-clause-found g c =
    let k = c.args.self.now in
    all-past (skips (g.S.FontSource.means c.args.passing.now.source.now) c.args.passing.now.flag c.args.passing.now.mark_set) (glyphs_of c.args.run.now) c.args.p
    k.gsub.table.now k.start c.args.alternate c.args.glyph k.subtables c.loop-j.j ((lookup_of k).candidates c.args.alternate c.args.glyph) (omega arith) c.loop-j.invariant.same
