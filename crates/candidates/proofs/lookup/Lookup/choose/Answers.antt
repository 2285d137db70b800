use Rattle.std.proofs.Common.{◌≡◌, false, sym, ◌∙◌}
use Rattle.model.specs.Lookups.{passes_over}
use Rattle.candidates.specs.LookupOf.{lookup_of}
use Rattle.candidates.proofs.lookup.Lookup.choose.Goals as goal

pub returns-clause-chosen : goal.returns-clause-chosen
returns-clause-chosen g c = λ here.
    let e = c.in_ok-glyph.ensures.some.0 in
    let no : passes_over (g.S.FontSource.means c.args.source.now) (lookup_of c.args.self.now) c.in_ok-glyph.glyph ≡ false = sym c.passes_over.ensures ∙ c.if-passes_over.false in
    rw (← e, no) c.first_match.ensures.found
