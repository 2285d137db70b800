use Rattle.std.proofs.Common.{◌≡◌, suc, ◌<◌, ◌≤◌, ◌++◌, length, map, take, drop, get_or, ap, ◌∙◌, arith, length-append, length-take, length-drop}
use Rattle.std.proofs.lemmas.List.{length-map}
use Rattle.model.specs.Edits.{at_cluster}
use Rattle.run.specs.Runs.{blank}
use Rattle.run.specs.Contents.{glyphs_of}
use Rattle.run.proofs.Gap.{behind_gap, gives_way}
use Rattle.run.proofs.Run.replace.Goals as goal

pub returns-clause-glyphs : goal.returns-clause-glyphs
unfolding glyphs_of
returns-clause-glyphs c =
    let xs = c.move_gap-back.new.slots in
    let ys = glyphs_of c.args.self.now in
    let i = c.args.i in
    let back = c.move_gap-back.result in
    let new = c.args.glyphs.now in
    let own = get_or xs back blank in
    let around : take i xs ++ drop back xs ≡ ys = c.move_gap-back.ensures.glyphs in
    let gap : i ≤ back = omega (arith, c.args.self.now.gap) in
    let inside : back < length xs =
    omega (arith, c.len.ensures.len, ap length around, length-append (take i xs) (drop back xs), length-take i xs, length-drop back xs) in
    gives_way xs i back ys gap inside around (map (at_cluster own.cluster) new) _ (length new) (length-map new (at_cluster own.cluster)) (omega (arith, c.args.self.now.gap)) c.write.ensures
    ∙ ap (λ g. take i ys ++ (map (at_cluster g.cluster) new ++ drop (suc i) ys)) (behind_gap xs i back ys gap inside around blank)
