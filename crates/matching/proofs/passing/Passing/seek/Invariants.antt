use Rattle.matching.specs.Next.{skips}
use Rattle.matching.proofs.Seeks.{Sought}
use Rattle.matching.proofs.passing.Passing.seek.Given as goal

-- the entries so far are met
abbrev pub invariant-loop-k : goal.invariant-loop-k
invariant-loop-k g l =
    Sought (skips (g.S.FontSource.means l.self.source.now) l.self.flag l.self.mark_set)
    (g.E.Entries.tests l.entries) (g.G.Glyphs.glyphs l.glyphs) l.fn.from l.so_far l.k
