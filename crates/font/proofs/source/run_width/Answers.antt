use Rattle.std.proofs.Common.{map, refl, arith, rules}
use Rattle.std.proofs.lemmas.Bool.Decides.{nat_tests}
use Rattle.std.proofs.lemmas.Iterator.{YieldsList-from_slice, YieldsList-from_map}
use Rattle.std.proofs.lemmas.Iterator.Consumers.{sum_by_from_yields_List}
use Rattle.std.proofs.lemmas.List.Recursion.{is_sum_by}
use Rattle.font.specs.Font.{width}
use Rattle.font.proofs.source.run_width.Goals as goal

pub returns : goal.returns
returns g c =
    let advance = g.S.MeasuredSource.advances c.args.source.now in
    let shows = g.G.HasGlyph.shows in
    let s = sum_by_from_yields_List (λ x. advance (shows x)) c.args.run.now c.map.result c.sum.result c.sum.ensures.ran (YieldsList-from_map _ (λ x. advance (shows x)) (YieldsList-from_slice c.args.run.now (cc)) c.map.ensures.closure (λ x r q k. search rules)) in
    let w = is_sum_by (λ run. width advance (map shows run)) (λ x. advance (shows x)) refl (λ _ _. refl) c.args.run.now in
    grind (arith, nat_tests)
