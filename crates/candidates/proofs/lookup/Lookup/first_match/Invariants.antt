use Rattle.std.proofs.Common.{◌≡◌, ◌+◌, ◌++◌, drop}
use Rattle.run.specs.Contents.{glyphs_of}
use Rattle.matching.specs.Next.{skips}
use Rattle.candidates.specs.LookupOf.{lookup_of}
use Rattle.candidates.specs.Views.{list_of}
use Rattle.candidates.proofs.Chosens.{Same, left_of}
use Rattle.candidates.proofs.lookup.Lookup.first_match.Given as goal

-- no candidate so far matches, and none left an index
abbrev pub invariant-loop-j : goal.invariant-loop-j
invariant-loop-j g l = record {
  same : Same (skips (g.S.FontSource.means l.passing.source.now) l.passing.flag l.passing.mark_set) (glyphs_of l.run) l.p
      (left_of l.self.gsub.table.now l.self.start l.alternate l.glyph l.self.subtables l.j) ((lookup_of l.self).candidates l.alternate l.glyph);
  kept : l.met ≡ l.fn.met;
}

abbrev pub invariant-loop-k : goal.invariant-loop-k
invariant-loop-k g l = record {
  same : Same (skips (g.S.FontSource.means l.passing.source.now) l.passing.flag l.passing.mark_set) (glyphs_of l.run) l.p
      (drop l.k (list_of l.list) ++ left_of l.self.gsub.table.now l.self.start l.alternate l.glyph l.self.subtables (l.j + 1)) ((lookup_of l.self).candidates l.alternate l.glyph);
  kept : l.met ≡ l.fn.met;
}
