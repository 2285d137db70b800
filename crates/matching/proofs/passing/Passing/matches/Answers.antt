use Rattle.std.proofs.Common.{ℕ, ◌≡◌, [], length, take, drop, sym, ◌∙◌, arith, length-take}
use Rattle.run.specs.Contents.{glyphs_of}
use Rattle.model.specs.Lookups.{nest}
use Rattle.matching.specs.Next.{skips}
use Rattle.matching.proofs.Matches.{input-noted}
use Rattle.matching.proofs.passing.Passing.matches.Goals as goal

pub returns-then-inputs-met-clause-input : goal.returns-then-inputs-met-clause-input
returns-then-inputs-met-clause-input g c = λ action fits.
    let sk = skips (g.S.FontSource.means c.args.self.now.source.now) c.args.self.now.flag c.args.self.now.mark_set in
    let is = g.I.Entries.tests c.args.around.now.input in
    let ls = g.L.Entries.tests c.args.around.now.lookahead in
    let bs = g.B.Entries.tests c.args.around.now.backtrack in
    let len = c.note.auto.met in
    let long : length c.note.new.met ≡ length is = omega (arith, len, length-take {A = ℕ}, c.len-inputs.ensures, c.if-inputs-met.true) in
    (input-noted sk (record { backtrack = bs; input = is; lookahead = ls }) action (glyphs_of c.args.run.now) c.args.p c.in_ok-span.span
    c.note.new.met _ (sym c.in_ok-span.was ∙ c.span.ensures.span action c.in_ok-span.ensures.inside) long
    (λ tests ms e. c.note.ensures tests ms (e ∙ len))).0

pub returns-then-inputs-met-clause-outward : goal.returns-then-inputs-met-clause-outward
returns-then-inputs-met-clause-outward g c = λ fits.
    let sk = skips (g.S.FontSource.means c.args.self.now.source.now) c.args.self.now.flag c.args.self.now.mark_set in
    let is = g.I.Entries.tests c.args.around.now.input in
    let ls = g.L.Entries.tests c.args.around.now.lookahead in
    let bs = g.B.Entries.tests c.args.around.now.backtrack in
    let len = c.note.auto.met in
    let long : length c.note.new.met ≡ length is = omega (arith, len, length-take {A = ℕ}, c.len-inputs.ensures, c.if-inputs-met.true) in
    (input-noted sk (record { backtrack = bs; input = is; lookahead = ls }) (nest []) (glyphs_of c.args.run.now) c.args.p c.in_ok-span.span
    c.note.new.met _ (sym c.in_ok-span.was ∙ c.span.ensures.span (nest []) c.in_ok-span.ensures.inside) long
    (λ tests ms e. c.note.ensures tests ms (e ∙ len))).1
