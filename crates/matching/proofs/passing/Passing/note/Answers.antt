use Rattle.std.proofs.Common.{◌+◌, take, sym, ◌∙◌, subst, arith}
use Rattle.std.proofs.lemmas.List.{take_more_set}
use Rattle.matching.specs.Next.{skips}
use Rattle.matching.proofs.Seeks.{Noted, noted-none, noted-on}
use Rattle.matching.proofs.passing.Passing.note.Goals as goal

pub returns-in_default : goal.returns-in_default
returns-in_default g c = λ tests ms long all.
    absurd (noted-none _ tests _ c.loop-place.at c.loop-place.place-index _ ms all (c.loop-place.invariant tests ms long all) (omega (arith, long)) (sym c.in_default.is ∙ c.next.ensures.next))

pub loop-place-preserved : goal.loop-place-preserved
loop-place-preserved g c = λ tests ms long all.
    let sk = skips (g.S.FontSource.means c.args.self.now.source.now) c.args.self.now.flag c.args.self.now.mark_set in
    let gs = g.G.Glyphs.glyphs c.args.glyphs.now in
    let k = c.loop-place.place-index in
    let met = c.loop-place.met in
    let index = c.loop-place.at + c.in-Some.next.gap in
    subst (Noted sk tests gs (index + 1) (k + 1)) (sym (take_more_set met k index (omega arith)))
    (noted-on sk tests gs c.loop-place.at k (take k met) ms all (c.loop-place.invariant tests ms long all) (omega (arith, long)) c.in-Some.next (sym c.next.ensures.next ∙ c.in-Some.is) c.in-Some.ensures.inside)
