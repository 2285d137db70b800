use Rattle.std.proofs.Common.{◌+◌, drop, take, reverse, sym, ap, ◌∙◌}
use Rattle.run.specs.Contents.{glyphs_of}
use Rattle.matching.specs.Next.{skips}
use Rattle.matching.specs.Match.{spanned}
use Rattle.matching.proofs.Matches.{reached-some, no-input, no-lookahead, all-met, not-ahead, match-at}
use Rattle.matching.proofs.passing.Passing.span.Goals as goal

pub returns-in_err-input-clause-span : goal.returns-in_err-input-clause-span
returns-in_err-input-clause-span g c = λ action inside.
    let sk = skips (g.S.FontSource.means c.args.self.now.source.now) c.args.self.now.flag c.args.self.now.mark_set in
    let is = g.I.Entries.tests c.args.around.now.input in
    let ls = g.L.Entries.tests c.args.around.now.lookahead in
    let bs = g.B.Entries.tests c.args.around.now.backtrack in
    let gs = glyphs_of c.args.run.now in
    let p = c.args.p in
    c.from_residual-in_err-input.ensures
    ∙ not-ahead sk (record { backtrack = bs; input = is; lookahead = ls }) action gs p
    (no-input sk is ls bs (drop (p + 1) gs) (reverse (take p gs)) c.in_ok-get.field-0.cluster (sym c.in_err-input.was ∙ c.seek.ensures))

pub returns-in_err-lookahead-clause-span : goal.returns-in_err-lookahead-clause-span
returns-in_err-lookahead-clause-span g c = λ action inside.
    let sk = skips (g.S.FontSource.means c.args.self.now.source.now) c.args.self.now.flag c.args.self.now.mark_set in
    let is = g.I.Entries.tests c.args.around.now.input in
    let ls = g.L.Entries.tests c.args.around.now.lookahead in
    let bs = g.B.Entries.tests c.args.around.now.backtrack in
    let gs = glyphs_of c.args.run.now in
    let p = c.args.p in
    let own = c.in_ok-get.field-0.cluster in
    let reached = sym c.in_ok-input.was ∙ c.seek.ensures in
    let met = reached-some (record { at = 0; far = own }) c.in_ok-input.input _ reached in
    c.from_residual-in_err-lookahead.ensures
    ∙ not-ahead sk (record { backtrack = bs; input = is; lookahead = ls }) action gs p
    (no-lookahead sk is ls bs (drop (p + 1) gs) (reverse (take p gs)) own met.0 met.1 c.in_ok-input.input reached (sym c.in_err-lookahead.was ∙ c.seek-2.ensures))

pub returns-clause-span : goal.returns-clause-span
returns-clause-span g c = λ action inside.
    let sk = skips (g.S.FontSource.means c.args.self.now.source.now) c.args.self.now.flag c.args.self.now.mark_set in
    let is = g.I.Entries.tests c.args.around.now.input in
    let ls = g.L.Entries.tests c.args.around.now.lookahead in
    let bs = g.B.Entries.tests c.args.around.now.backtrack in
    let gs = glyphs_of c.args.run.now in
    let p = c.args.p in
    let own = c.in_ok-get.field-0.cluster in
    let reached = sym c.in_ok-input.was ∙ c.seek.ensures in
    let met = reached-some (record { at = 0; far = own }) c.in_ok-input.input _ reached in
    let looked = sym c.in_ok-lookahead.was ∙ c.seek-2.ensures in
    let backed = sym c.in_ok-back.was ∙ c.seek-3.ensures in
    sym (ap spanned (match-at sk (record { backtrack = bs; input = is; lookahead = ls }) action gs p c.in_ok-get.field-0 met.0 c.in_ok-back.back.far c.in_ok-lookahead.lookahead.far (sym c.get.ensures ∙ c.in_ok-get.was)
    (all-met sk is ls bs (drop (p + 1) gs) (reverse (take p gs)) own met.0 met.1 c.in_ok-input.input reached action c.in_ok-lookahead.lookahead c.in_ok-back.back looked backed)))
