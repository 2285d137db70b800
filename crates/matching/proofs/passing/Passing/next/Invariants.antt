use Rattle.std.proofs.Common.{◌≡◌, ◌-◌, ◌≤◌, drop}
use Rattle.matching.specs.Next.{skips, later_by, next_in}
use Rattle.matching.proofs.passing.Passing.next.Given as goal

-- all glyphs so far are passed over
abbrev pub invariant-loop-i : goal.invariant-loop-i
invariant-loop-i g l =
    (l.fn.from ≤ l.i)
    × (next_in (skips (g.S.FontSource.means l.self.source.now) l.self.flag l.self.mark_set) (drop l.fn.from (g.G.Glyphs.glyphs l.glyphs)) ≡ later_by (l.i - l.fn.from) (next_in (skips (g.S.FontSource.means l.self.source.now) l.self.flag l.self.mark_set) (drop l.i (g.G.Glyphs.glyphs l.glyphs))))
