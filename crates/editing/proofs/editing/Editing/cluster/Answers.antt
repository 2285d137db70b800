use Rattle.std.proofs.Common.{sym, ap, ◌∙◌}
use Rattle.std.proofs.lemmas.Option.{unwrap_or-slice_get}
use Rattle.std.specs.Option.{unwrap_or}
use Rattle.model.specs.declared.Glyph.{Glyph}
use Rattle.editing.specs.Contents.{glyphs_of}
use Rattle.editing.proofs.editing.Editing.cluster.Goals as goal

pub returns-in-None : goal.returns-in-None
returns-in-None c =
    ap (λ o. (unwrap_or {T = Glyph} o (record { glyph = 0; cluster = 0 })).cluster) (sym c.in-None.is ∙ c.get.ensures)
    ∙ ap (λ g. g.cluster) (unwrap_or-slice_get (glyphs_of c.args.self.now) c.args.i (record { glyph = 0; cluster = 0 }))
