use Rattle.std.proofs.Common.{◌+◌, map, set, sym, ap₂, ◌∙◌, arith}
use Rattle.std.proofs.lemmas.List.{get_or-map, length-map}
use Rattle.std.proofs.lemmas.List.Edits.{paste_more}
use Rattle.model.specs.Edits.{at_cluster}
use Rattle.run.proofs.write.Goals as goal

pub loop-i-preserved : goal.loop-i-preserved
loop-i-preserved c =
    let glyphs = c.args.glyphs.now in
    let at = c.args.at in
    let i = c.loop-i.i in
    let f = at_cluster c.args.cluster in
    let written = get_or-map f glyphs i 0 (f 0) (omega arith) in
    ap₂ (λ l g. set l (at + i) g) c.loop-i.invariant (sym written) ∙ paste_more c.args.slots.now at (map f glyphs) i (f 0) (omega arith) (omega (arith, length-map glyphs f))
