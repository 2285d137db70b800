use Rattle.std.proofs.Common.{◌+◌, ◌*◌, ◌++◌, [], ◌∷◌, ap, sym, ◌∙◌, arith}
use Rattle.std.proofs.lemmas.List.{length-set, take_more_set}
use Rattle.layout.specs.Bytes.{u16_at}
use Rattle.candidates.proofs.Fields.{fields-more}
use Rattle.candidates.proofs.found.Glyphs.read.Goals as goal

pub loop-i-preserved : goal.loop-i-preserved
loop-i-preserved c =
    let i = c.loop-i.i in
    let places = c.loop-i.invariant.places in
    record {
      read =
          rw c.u16_at.ensures
          (take_more_set c.loop-i.list i _ (omega arith) ∙ ap (λ l. l ++ u16_at c.args.part.now (c.args.at + 2 * i) ∷ []) c.loop-i.invariant.read ∙ sym (fields-more c.args.part.now c.args.at i));
      places = simp length-set places;
    }
