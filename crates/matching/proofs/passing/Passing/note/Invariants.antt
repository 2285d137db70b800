use Rattle.std.proofs.Common.{◌≡◌, ℕ, Bool, List, length, take}
use Rattle.std.proofs.Math.Option.{some}
use Rattle.model.specs.Lookups.{Met, seek}
use Rattle.matching.specs.Next.{skips}
use Rattle.matching.proofs.Seeks.{Noted}
use Rattle.matching.proofs.passing.Passing.note.Given as goal

-- what is noted so far belongs to any entries that are met
abbrev pub invariant-loop-place : goal.invariant-loop-place
invariant-loop-place g l =
    let sk = skips (g.S.FontSource.means l.self.source.now) l.self.flag l.self.mark_set in
    let gs = g.G.Glyphs.glyphs l.glyphs in
    (tests : List (ℕ → Bool)) (ms : List Met) → length tests ≡ length l.fn.met → seek sk tests gs ≡ some ms → Noted sk tests gs l.at l.place-index (take l.place-index l.met)
